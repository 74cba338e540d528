use Rattle.ak_action.proofs.LawCalls.{calls_act_holds}
use Rattle.ak_action.proofs.laws.calls_act.Goals as goal

pub returns : goal.returns
returns c = calls_act_holds
