use Rattle.ak_sequence.proofs.Runs.{merged_has_diaries}
use Rattle.ak_sequence.proofs.laws.merged_has_each_diary.Goals as goal

pub returns : goal.returns
returns c = λ sessions heads short h run entries merged. merged_has_diaries sessions heads short h run entries merged
