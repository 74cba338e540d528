-- What an input is split into is its lines.
use Rattle.ak_script.proofs.Splitting.{lines_are_split}
use Rattle.ak_script.proofs.laws.lines_are_split.Goals as goal

pub returns : goal.returns
returns c = lines_are_split
