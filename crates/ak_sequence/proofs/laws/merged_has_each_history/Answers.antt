use Rattle.ak_sequence.proofs.Entries.{merged_at}
use Rattle.ak_sequence.proofs.laws.merged_has_each_history.Goals as goal

pub returns : goal.returns
returns c = λ sessions heads short h run entries merged. merged_at heads h run.histories entries merged
