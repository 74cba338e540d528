use Rattle.ak_flatten.proofs.LawsHold.{written_is_read_holds}
use Rattle.ak_flatten.proofs.laws.written_is_read.Goals as goal

pub returns : goal.returns
returns c = written_is_read_holds
