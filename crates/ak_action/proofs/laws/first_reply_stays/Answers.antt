use Rattle.ak_action.proofs.LawReply.{first_reply_stays_holds}
use Rattle.ak_action.proofs.laws.first_reply_stays.Goals as goal

pub returns : goal.returns
returns c = first_reply_stays_holds
