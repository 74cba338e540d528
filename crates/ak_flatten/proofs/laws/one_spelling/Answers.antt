use Rattle.ak_flatten.proofs.LawsHold.{one_spelling_holds}
use Rattle.ak_flatten.proofs.laws.one_spelling.Goals as goal

pub returns : goal.returns
returns c = one_spelling_holds
