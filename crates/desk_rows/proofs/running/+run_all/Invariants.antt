-- Each operation is carried out once.
use Rattle.std.proofs.Common.{length}
use Rattle.desk_rows.proofs.running.+run_all.Given as goal

abbrev pub decreases-run_all : goal.decreases-run_all
decreases-run_all l = length l.steps.now
