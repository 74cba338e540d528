use Rattle.std.proofs.Common.{◌≡◌, ◌∙◌, List, Some, ap, subst, sym}
use Rattle.std.specs.Prelude.{IfSome}
use Rattle.ak_port.specs.declared.port_entry.PortEntry.{PortEntry}
use Rattle.ak_port.specs.PortCalls.{PortData, by_number, entry_of, stamp_number, write_entry}
use Rattle.ak_port.specs.PortMachine.{state_of, write_event}
use Rattle.ak_turn.proofs.Surface.{answered_at_turn_keeps}
use Rattle.ak_port.proofs.PortCalled.{ends_turn, port_after_turn}
use Rattle.ak_port.proofs.PortTaken.{kept_at_turn, write_takes_nothing}
use Rattle.ak_port.proofs.PortTaking.{can_after_turn, write_plain}
use Rattle.ak_port.proofs.port.write_at_turn.Goals as goal

pub returns-clause-answered : goal.returns-clause-answered
returns-clause-answered c =
    ends_turn (write_entry c.write-answer.result c.args.item) c.args.clock.now c.write-answer.new.clock c.book.result.now c.write-answer.new.self c.args.seat.now c.finish.new.seat c.write-answer.ensures.added
    (ap (λ (p : PortData). p.entries) c.book.ensures.value ∙ c.requires.list) c.finish.ensures.same c.finish.ensures.entered

pub returns-clause-seat : goal.returns-clause-seat
returns-clause-seat c = (answered_at_turn_keeps by_number stamp_number entry_of (write_entry c.write-answer.result c.args.item) _ _ _ _ (returns-clause-answered c)).0

pub returns-clause-clock : goal.returns-clause-clock
returns-clause-clock c = (answered_at_turn_keeps by_number stamp_number entry_of (write_entry c.write-answer.result c.args.item) _ _ _ _ (returns-clause-answered c)).1

pub returns-clause-machine : goal.returns-clause-machine
returns-clause-machine c =
    subst (λ (l : List PortEntry). IfSome (write_entry c.write-answer.result c.args.item) (λ event. event ≡ write_event (state_of l) c.args.item)) (ap (λ (p : PortData). p.entries) c.book.ensures.value ∙ c.requires.list) c.write-answer.ensures.machine

pub returns-clause-port : goal.returns-clause-port
returns-clause-port c =
    port_after_turn (write_entry c.write-answer.result c.args.item) c.args.clock.now c.write-answer.new.clock c.book.result.now c.write-answer.new.self c.args.seat.now c.finish.new.seat c.write-answer.ensures.added
    (ap (λ (p : PortData). p.entries) c.book.ensures.value ∙ c.requires.list) (c.requires.opening ∙ ap (λ (p : PortData). Some p.taker) (sym c.book.ensures.value)) (returns-clause-answered c) c.write-answer.ensures.port

pub returns-clause-taking : goal.returns-clause-taking
returns-clause-taking c = can_after_turn (write_entry c.write-answer.result c.args.item) _ _ _ _ (write_plain c.write-answer.result c.args.item) (returns-clause-answered c) (returns-clause-port c)

pub returns-clause-taken : goal.returns-clause-taken
returns-clause-taken c = kept_at_turn (write_entry c.write-answer.result c.args.item) _ _ _ _ (returns-clause-answered c) (write_takes_nothing c.write-answer.result c.args.item) (returns-clause-port c)
