use Rattle.ak_plain.proofs.Entries.{entries_are_plain_holds}
use Rattle.ak_plain.proofs.laws.entries_are_plain.Goals as goal

pub returns : goal.returns
returns c = entries_are_plain_holds c.two_words_an_action.ensures
