-- Those so far differ from all behind them.
use Rattle.std.proofs.Common.{◌≡◌, length}
use Rattle.ak_action.specs.Plan.{table_names_differ}
use Rattle.ak_action.proofs.plan.rows.table_names_differ.Given as goal

abbrev pub invariant-loop-row : goal.invariant-loop-row
invariant-loop-row l = table_names_differ l.rows ≡ table_names_differ l.rest

abbrev pub decreases-loop-row : goal.decreases-loop-row
decreases-loop-row l = length l.rest
