-- What is written of the reply is its flat text.
use Rattle.std.proofs.Common.{◌<◌, length}
use Rattle.ak_flatten.specs.Spelling.{spelling}
use Rattle.ak_looper.proofs.Debts.{flat_text}
use Rattle.ak_looper.proofs.duty.for_slot.Goals as goal

pub returns-in-Ok-clause-payable : goal.returns-in-Ok-clause-payable
returns-in-Ok-clause-payable c =
    let fits : 4096 < length (spelling c.args.reply.now) → ⊥ = λ over. let refused = c.in-Ok.ensures.too_long.1 over in cc in
    flat_text c.written_is_read.ensures c.args.reply.now c.in-Ok.flat c.is_no_reply.ensures.whole fits c.in-Ok.ensures.ok
