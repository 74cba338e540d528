use Rattle.ak_sequence.proofs.Entries.{merged_once, merged_there}
use Rattle.ak_sequence.proofs.laws.merged_is_one.Goals as goal

pub returns-clause-one : goal.returns-clause-one
returns-clause-one c = merged_once

pub returns-clause-there : goal.returns-clause-there
returns-clause-there c = merged_there
