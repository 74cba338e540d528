use Rattle.std.proofs.lemmas.List.Splits.{join_with_byte-slice_split}
use Rattle.ak_input.proofs.lines.pieces_are_the_input.Goals as goal

pub returns : goal.returns
returns c = λ input. join_with_byte-slice_split 10 input
