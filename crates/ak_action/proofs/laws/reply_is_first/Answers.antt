use Rattle.ak_action.proofs.LawReply.{reply_is_first_holds}
use Rattle.ak_action.proofs.laws.reply_is_first.Goals as goal

pub returns : goal.returns
returns c = reply_is_first_holds
