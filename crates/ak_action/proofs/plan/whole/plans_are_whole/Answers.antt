use Rattle.ak_action.proofs.Opened.{plans_are_whole-proof}
use Rattle.ak_action.proofs.plan.whole.plans_are_whole.Goals as goal

pub returns : goal.returns
returns c = plans_are_whole-proof
