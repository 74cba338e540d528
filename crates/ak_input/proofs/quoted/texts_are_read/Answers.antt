use Rattle.ak_input.proofs.QuotedLaws.{texts_read}
use Rattle.ak_input.proofs.quoted.texts_are_read.Goals as goal

pub returns : goal.returns
returns c = texts_read
