use Rattle.ak_route.proofs.Popping.{only_pops-proof}
use Rattle.ak_route.proofs.laws.following_only_pops.Goals as goal

pub returns : goal.returns
returns c = only_pops-proof
