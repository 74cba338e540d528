-- What is copied so far is the front of the list.
use Rattle.std.proofs.Common.{◌≡◌, take}
use Rattle.ak_action.proofs.plan.copies.copied_rows.Given as goal

abbrev pub invariant-loop-row : goal.invariant-loop-row
invariant-loop-row l = l.copies.items ≡ take l.row-index l.rows
