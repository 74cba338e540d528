-- The value is put where one is, and nowhere else.
use Rattle.std.proofs.Common.{arith}
use Rattle.std.proofs.lemmas.List.{map-set}
use Rattle.std.proofs.lemmas.Grind.{common_steps}
use Rattle.ak_message.proofs.message.Field.put_at.Goals as goal

pub returns-then-index-len : goal.returns-then-index-len
returns-then-index-len c = grind (arith, map-set)

pub returns-else-index-len : goal.returns-else-index-len
returns-else-index-len c = grind (arith, common_steps)
