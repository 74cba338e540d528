use Rattle.std.proofs.Common.{sym, subst}
use Rattle.std.specs.Prelude.{Option}
use Rattle.ak_messenger.specs.declared.fault.SendFault.{SendFault}
use Rattle.ak_messenger.specs.Asks.{IsWritten}
use Rattle.ak_messenger.proofs.Sending.{written_so}
use Rattle.ak_messenger.proofs.asking.write_once_free.Goals as goal

pub returns-clause-written : goal.returns-clause-written
returns-clause-written g c =
    subst (λ (why : Option SendFault). IsWritten c.args.item c.args.clock.now c.write.new.clock c.args.seat.now c.write.new.seat why) (sym c.refusal.ensures)
    (written_so c.write.result c.args.item _ _ _ _ c.write.ensures.answered c.write.ensures.not_full c.write.ensures.wanting)
