-- The field is seen with one more value, or as it was.
use Rattle.std.proofs.Common.{arith}
use Rattle.ak_message.proofs.Adding.{fields-added_at, fields-unchanged}
use Rattle.ak_message.proofs.message.put.Goals as goal

pub returns-in-Some-clause-ok : goal.returns-in-Some-clause-ok
returns-in-Some-clause-ok c = grind (arith, fields-added_at)

pub returns-in-Some-clause-err : goal.returns-in-Some-clause-err
returns-in-Some-clause-err c = grind (arith, fields-unchanged)
