use Rattle.ak_action.proofs.LawCounts.{answers_in_order_holds}
use Rattle.ak_action.proofs.laws.answers_in_order.Goals as goal

pub returns : goal.returns
returns c = answers_in_order_holds
