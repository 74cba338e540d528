use Rattle.ak_input.proofs.Numbers.{ints_read}
use Rattle.ak_input.proofs.payload.ints_are_read.Goals as goal

pub returns : goal.returns
returns c = ints_read
