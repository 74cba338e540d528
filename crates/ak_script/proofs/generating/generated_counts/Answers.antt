-- How many there are.
use Rattle.ak_script.proofs.GeneratedCounts.{counts}
use Rattle.ak_script.proofs.generating.generated_counts.Goals as goal

pub returns : goal.returns
returns c = counts
