-- The field is there with fewer values, or its last value and the field are gone.
use Rattle.std.proofs.Common.{arith}
use Rattle.std.proofs.lemmas.Grind.{common_steps}
use Rattle.ak_message.proofs.Changing.{found_at, taken_gone, taken_kept}
use Rattle.ak_message.proofs.message.changes.take_from.Goals as goal
use Rattle.ak_message.proofs.message.changes.take_from.Goals.{then-is_empty, else-is_empty}

pub returns-clause-some : goal.returns-clause-some
returns-clause-some c =
    elim c.if-is_empty.branch [
      | then-is_empty w ↦ grind (arith, common_steps, taken_gone)
      | else-is_empty w ↦ grind (arith, common_steps, taken_kept)
    ]

pub returns-clause-value : goal.returns-clause-value
returns-clause-value c = grind (arith, found_at)
