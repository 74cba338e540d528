-- By what each act adds.
use Rattle.ak_headline.proofs.SendsTold.{sessions_ask_so}
use Rattle.ak_headline.proofs.tallies.sessions_ask_so.Goals as goal

pub returns : goal.returns
returns c = sessions_ask_so
