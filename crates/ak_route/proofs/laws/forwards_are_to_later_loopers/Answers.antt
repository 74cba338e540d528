use Rattle.ak_route.proofs.Forwarded.{forward_later-proof, resolved_later-proof}
use Rattle.ak_route.proofs.laws.forwards_are_to_later_loopers.Goals as goal

pub returns-clause-resolved : goal.returns-clause-resolved
returns-clause-resolved c = resolved_later-proof

pub returns-clause-routed : goal.returns-clause-routed
returns-clause-routed c = forward_later-proof
