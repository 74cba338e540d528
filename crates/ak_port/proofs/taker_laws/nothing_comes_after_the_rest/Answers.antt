use Rattle.ak_port.proofs.PortRested.{nothing_after_rest}
use Rattle.ak_port.proofs.taker_laws.nothing_comes_after_the_rest.Goals as goal

pub returns : goal.returns
returns c = nothing_after_rest
