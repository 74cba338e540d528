-- What brackets mean is what is read of them.
use Rattle.ak_hey.proofs.grammar.Bracketing.{brackets_are_read}
use Rattle.ak_hey.proofs.laws.brackets_are_read.Goals as goal

pub returns : goal.returns
returns c = brackets_are_read
