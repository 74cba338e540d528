use Rattle.ak_route.proofs.Delivered.{takers-proof}
use Rattle.ak_route.proofs.Leading.{resolved_there}
use Rattle.ak_route.proofs.laws.takers_are_there.Goals as goal

pub returns : goal.returns
returns c = takers-proof (λ s loopers m t first token h is e. resolved_there s loopers h m t first token is e)
