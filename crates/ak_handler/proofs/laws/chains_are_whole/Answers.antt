use Rattle.ak_handler.proofs.Chains.{chains_are_whole-proof}
use Rattle.ak_handler.proofs.laws.chains_are_whole.Goals as goal

pub returns : goal.returns
returns g c = chains_are_whole-proof _
