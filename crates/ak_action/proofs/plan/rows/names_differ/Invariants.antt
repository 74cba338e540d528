-- Those so far differ from all behind them.
use Rattle.std.proofs.Common.{◌≡◌, length}
use Rattle.ak_action.specs.Plan.{names_differ}
use Rattle.ak_action.proofs.plan.rows.names_differ.Given as goal

abbrev pub invariant-loop-row : goal.invariant-loop-row
invariant-loop-row l = names_differ l.rows ≡ names_differ l.rest

abbrev pub decreases-loop-row : goal.decreases-loop-row
decreases-loop-row l = length l.rest
