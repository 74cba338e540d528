-- A new name beside one more was new before, and a new thread has made nothing.
use Rattle.std.proofs.Common.{ap, subst, sym, ◌∙◌}
use Rattle.ak_base.specs.Thread.{keeper_thread}
use Rattle.ak_turn.specs.Entries.{made_by}
use Rattle.ak_turn.specs.Steps.{IsNewName, names_with}
use Rattle.ak_port.specs.PortCalls as ports
use Rattle.ak_desk.specs.Shared as desks
use Rattle.ak_looper.proofs.Doors.{known_still, new_door, new_name, still_head}
use Rattle.ak_looper.proofs.kept_door.KeptDoorGrant.part.Goals as goal

pub invariant_of-self-2-clause-port_of : goal.invariant_of-self-2-clause-port_of
invariant_of-self-2-clause-port_of c = ap (λ (s : ports.PortSeat). s.lock) c.split-port_seat.ensures.old ∙ c.args.self.now.port_of

pub invariant_of-self-2-clause-port_idle : goal.invariant_of-self-2-clause-port_idle
invariant_of-self-2-clause-port_idle c = ap (λ (s : ports.PortSeat). s.turn) c.split-port_seat.ensures.old ∙ c.args.self.now.port_idle

pub invariant_of-self-2-clause-desk_of : goal.invariant_of-self-2-clause-desk_of
invariant_of-self-2-clause-desk_of c = ap (λ (s : desks.DeskSeat). s.lock) c.split-desk_seat.ensures.old ∙ c.args.self.now.desk_of

pub invariant_of-self-2-clause-desk_idle : goal.invariant_of-self-2-clause-desk_idle
invariant_of-self-2-clause-desk_idle c = ap (λ (s : desks.DeskSeat). s.turn) c.split-desk_seat.ensures.old ∙ c.args.self.now.desk_idle

pub invariant_of-self-2-clause-names : goal.invariant_of-self-2-clause-names
invariant_of-self-2-clause-names c =
    ap (λ (s : desks.DeskSeat). s.names) c.split-desk_seat.ensures.old ∙ ap (λ names. names_with names c.args.thread.0) c.args.self.now.names
    ∙ sym (ap (λ (s : ports.PortSeat). s.names) c.split-port_seat.ensures.old)

pub invariant_of-self-2-clause-head : goal.invariant_of-self-2-clause-head
invariant_of-self-2-clause-head c = still_head c.args.thread.0 c.args.self.now.port_seat c.split-port_seat.new.seat c.split-port_seat.ensures.old c.args.self.now.head

pub invariant_of-self-2-clause-keeper : goal.invariant_of-self-2-clause-keeper
invariant_of-self-2-clause-keeper c = ap (λ (s : ports.PortSeat). s.thread) c.split-port_seat.ensures.old ∙ c.args.self.now.keeper

pub invariant_of-self-2-clause-port_known : goal.invariant_of-self-2-clause-port_known
invariant_of-self-2-clause-port_known c =
    known_still ports.by_number c.args.thread.0 c.args.self.now.port_seat c.split-port_seat.new.seat c.split-port_seat.ensures.old c.args.self.now.port_known

pub invariant_of-self-2-clause-desk_known : goal.invariant_of-self-2-clause-desk_known
invariant_of-self-2-clause-desk_known c =
    known_still desks.by_number c.args.thread.0 c.args.self.now.desk_seat c.split-desk_seat.new.seat c.split-desk_seat.ensures.old c.args.self.now.desk_known

pub invariant_of-self-2-clause-keeper_idle : goal.invariant_of-self-2-clause-keeper_idle
invariant_of-self-2-clause-keeper_idle c =
    ap (λ (s : ports.PortSeat). made_by ports.by_number keeper_thread s.front) c.split-port_seat.ensures.old ∙ c.args.self.now.keeper_idle

pub invariant_of-self-2-clause-desk_keeper : goal.invariant_of-self-2-clause-desk_keeper
invariant_of-self-2-clause-desk_keeper c = ap (λ (s : desks.DeskSeat). s.thread) c.split-desk_seat.ensures.old ∙ c.args.self.now.desk_keeper

pub invariant_of-self-2-clause-desk_keeper_idle : goal.invariant_of-self-2-clause-desk_keeper_idle
invariant_of-self-2-clause-desk_keeper_idle c =
    ap (λ (s : desks.DeskSeat). made_by desks.by_number keeper_thread s.front) c.split-desk_seat.ensures.old ∙ c.args.self.now.desk_keeper_idle

pub returns-clause-thread : goal.returns-clause-thread
returns-clause-thread c =
    let door = c.args.self.now in
    let new = new_name door.port_seat.names c.args.thread.0 door.head c.requires.new in
    new_door c.args.thread.0 door.port_seat c.split-port_seat.result door.desk_seat c.split-desk_seat.result c.split-port_seat.ensures.new c.split-desk_seat.ensures.new (door.port_known c.args.thread.0 new)
    (door.desk_known c.args.thread.0 (subst (λ names. IsNewName names c.args.thread.0) (sym door.names) new))
