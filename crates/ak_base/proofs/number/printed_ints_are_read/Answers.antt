use Rattle.ak_base.proofs.Numbers.{printed_ints_are_read}
use Rattle.ak_base.proofs.number.printed_ints_are_read.Goals as goal

pub returns : goal.returns
returns c = printed_ints_are_read
