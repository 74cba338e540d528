use Rattle.std.proofs.Common.{◌∙◌, List, ap, subst, sym}
use Rattle.ak_port.specs.declared.port_entry.PortEntry.{PortEntry}
use Rattle.ak_port.specs.PortCalls.{PortData}
use Rattle.ak_port.specs.PortMachine.{LacksRoom}
use Rattle.ak_port.proofs.PortCalled.{wanting_room}
use Rattle.ak_port.proofs.port.try_write.Goals as goal

-- the port had room at the turn
pub returns-clause-wanting : goal.returns-clause-wanting
returns-clause-wanting g c =
    wanting_room c.write_at_turn.result c.args.item _ _ c.lock-turn.new.seat c.write_at_turn.new.seat c.write_at_turn.ensures.answered
    (λ lacks. c.is_full.ensures.free c.if-is_full.false (subst (λ (l : List PortEntry). LacksRoom l) (sym (ap (λ (p : PortData). p.entries) c.book.ensures.value ∙ c.lock-turn.ensures.list)) lacks))
