use Rattle.ak_flatten.proofs.LawsHold.{spelled_or_faulty_holds}
use Rattle.ak_flatten.proofs.laws.spelled_or_faulty.Goals as goal

pub returns : goal.returns
returns c = spelled_or_faulty_holds
