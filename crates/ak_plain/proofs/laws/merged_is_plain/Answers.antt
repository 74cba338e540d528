use Rattle.ak_plain.proofs.Merged.{merged_all}
use Rattle.ak_journal.specs.Plain.{IsPlain}
use Rattle.ak_plain.proofs.laws.merged_is_plain.Goals as goal

pub returns : goal.returns
returns c = merged_all IsPlain
