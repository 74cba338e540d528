use Rattle.ak_specifier.proofs.Last.{added_is_current}
use Rattle.ak_specifier.proofs.laws.written_specifiers_are_read.Goals as goal

pub returns-clause-added : goal.returns-clause-added
returns-clause-added c = added_is_current
