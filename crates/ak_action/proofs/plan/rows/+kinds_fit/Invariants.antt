-- Fewer properties are left.
use Rattle.std.proofs.Common.{length}
use Rattle.ak_action.proofs.plan.rows.+kinds_fit.Given as goal

abbrev pub decreases-kinds_fit : goal.decreases-kinds_fit
decreases-kinds_fit l = length l.rows.now
