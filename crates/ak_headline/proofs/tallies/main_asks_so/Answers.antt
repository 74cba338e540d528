-- By what each act adds.
use Rattle.ak_headline.proofs.SendsTold.{main_asks_so}
use Rattle.ak_headline.proofs.tallies.main_asks_so.Goals as goal

pub returns : goal.returns
returns c = main_asks_so
