use Rattle.ak_action.proofs.LawSteps.{runs_act_holds}
use Rattle.ak_action.proofs.laws.runs_act.Goals as goal

pub returns : goal.returns
returns c = runs_act_holds
