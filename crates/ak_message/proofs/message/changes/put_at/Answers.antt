-- The field of the name is changed, if there is one.
use Rattle.std.proofs.Common.{arith}
use Rattle.ak_message.proofs.Changing.{replaced_at, not_replaced}
use Rattle.ak_message.proofs.message.changes.put_at.Goals as goal

pub returns-in-Some : goal.returns-in-Some
returns-in-Some c = grind (arith, replaced_at)

pub returns-in_default : goal.returns-in_default
returns-in_default c = grind (arith, not_replaced)
