-- By what each act adds.
use Rattle.ak_headline.proofs.ActsTold.{sessions_tally}
use Rattle.ak_headline.proofs.tallies.sessions_tally.Goals as goal

pub returns : goal.returns
returns c = sessions_tally
