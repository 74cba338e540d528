use Rattle.ak_action.proofs.LawCounts.{two_words_an_action_holds}
use Rattle.ak_action.proofs.laws.two_words_an_action.Goals as goal

pub returns : goal.returns
returns c = two_words_an_action_holds
