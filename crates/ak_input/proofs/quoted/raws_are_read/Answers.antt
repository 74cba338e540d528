use Rattle.ak_input.proofs.HexLaws.{raws_read}
use Rattle.ak_input.proofs.quoted.raws_are_read.Goals as goal

pub returns : goal.returns
returns c = raws_read
