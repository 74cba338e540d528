-- The keeper's seats are the heads, and know who made nothing.
use Rattle.std.proofs.Common.{◌∙◌, ap, sym, subst, is_some, Option, List, ℕ}
use Rattle.ak_base.specs.Thread.{keeper_thread}
use Rattle.ak_turn.specs.Entries.{made_by}
use Rattle.ak_turn.specs.Steps.{IsNewName, names_with}
use Rattle.ak_port.specs.PortCalls as ports
use Rattle.ak_desk.specs.Shared as desks
use Rattle.ak_looper.proofs.Surface.{still_new}
use Rattle.ak_team.proofs.Heads.{head_with, made_nothing}
use Rattle.ak_team.proofs.doors.keep_door.Goals as goal

pub invariant_of-result-clause-names : goal.invariant_of-result-clause-names
invariant_of-result-clause-names c =
    let named = c.requires.names.1 in
    ap (λ (s : desks.DeskSeat). s.names) c.split_head-desk_seat.ensures.new
    ∙ ap (λ (names : Option (List ℕ)). names_with names keeper_thread) (named.at_desk ∙ sym named.at_port)
    ∙ sym (ap (λ (s : ports.PortSeat). s.names) c.split_head-port_seat.ensures.new)

pub invariant_of-result-clause-head : goal.invariant_of-result-clause-head
invariant_of-result-clause-head c =
    ap (λ (s : ports.PortSeat). is_some s.names) c.split_head-port_seat.ensures.new ∙ head_with c.args.door.now.port_seat.names c.requires.names.0 keeper_thread c.requires.names.1.at_port

pub invariant_of-result-clause-port_known : goal.invariant_of-result-clause-port_known
invariant_of-result-clause-port_known c = λ thread new.
    let seat = c.args.door.now.port_seat in
    let is = c.split_head-port_seat.ensures.new in
    ap (λ (s : ports.PortSeat). made_by ports.by_number thread s.front) is
    ∙ made_nothing ports.by_number seat thread c.requires.known.at_port (still_new seat.names keeper_thread thread (subst (λ (names : Option (List ℕ)). IsNewName names thread) (ap (λ (s : ports.PortSeat). s.names) is) new))

pub invariant_of-result-clause-desk_known : goal.invariant_of-result-clause-desk_known
invariant_of-result-clause-desk_known c = λ thread new.
    let seat = c.args.door.now.desk_seat in
    let is = c.split_head-desk_seat.ensures.new in
    ap (λ (s : desks.DeskSeat). made_by desks.by_number thread s.front) is
    ∙ made_nothing desks.by_number seat thread c.requires.known.at_desk (still_new seat.names keeper_thread thread (subst (λ (names : Option (List ℕ)). IsNewName names thread) (ap (λ (s : desks.DeskSeat). s.names) is) new))

pub invariant_of-result-clause-keeper : goal.invariant_of-result-clause-keeper
invariant_of-result-clause-keeper c = ap (λ (s : ports.PortSeat). s.thread) c.split_head-port_seat.ensures.new

pub invariant_of-result-clause-keeper_idle : goal.invariant_of-result-clause-keeper_idle
invariant_of-result-clause-keeper_idle c =
    ap (λ (s : ports.PortSeat). made_by ports.by_number keeper_thread s.front) c.split_head-port_seat.ensures.new
    ∙ made_nothing ports.by_number c.args.door.now.port_seat keeper_thread c.requires.known.at_port c.requires.new.at_port

pub invariant_of-result-clause-desk_keeper : goal.invariant_of-result-clause-desk_keeper
invariant_of-result-clause-desk_keeper c = ap (λ (s : desks.DeskSeat). s.thread) c.split_head-desk_seat.ensures.new

pub invariant_of-result-clause-desk_keeper_idle : goal.invariant_of-result-clause-desk_keeper_idle
invariant_of-result-clause-desk_keeper_idle c =
    ap (λ (s : desks.DeskSeat). made_by desks.by_number keeper_thread s.front) c.split_head-desk_seat.ensures.new
    ∙ made_nothing desks.by_number c.args.door.now.desk_seat keeper_thread c.requires.known.at_desk c.requires.new.at_desk
