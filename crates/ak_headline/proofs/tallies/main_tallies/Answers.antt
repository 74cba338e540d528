-- By what each act adds.
use Rattle.ak_headline.proofs.ActsTold.{main_tallies}
use Rattle.ak_headline.proofs.tallies.main_tallies.Goals as goal

pub returns : goal.returns
returns c = main_tallies
