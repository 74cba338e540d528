-- The chains of the handlers so far end.
use Rattle.std.proofs.Common.{◌≡◌, true}
use Rattle.ak_action.specs.Plan.{chains_end_below}
use Rattle.ak_action.proofs.plan.rows.chains_end.Given as goal

abbrev pub invariant-loop-place : goal.invariant-loop-place
invariant-loop-place l = chains_end_below l.rows l.place ≡ true
