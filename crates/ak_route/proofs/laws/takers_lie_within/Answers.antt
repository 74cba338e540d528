use Rattle.ak_route.proofs.Within.{within-proof}
use Rattle.ak_route.proofs.laws.takers_lie_within.Goals as goal

pub returns : goal.returns
returns c = within-proof
