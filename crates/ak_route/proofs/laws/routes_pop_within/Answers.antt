-- Each step that leads on pops one specifier, of those that are left.
use Rattle.ak_route.proofs.Popping.{pops_within-proof}
use Rattle.ak_route.proofs.laws.routes_pop_within.Goals as goal

pub returns : goal.returns
returns c = pops_within-proof
