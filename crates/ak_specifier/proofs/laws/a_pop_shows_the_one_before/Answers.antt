use Rattle.ak_specifier.proofs.Last.{pop_shows_the_one_before}
use Rattle.ak_specifier.proofs.laws.a_pop_shows_the_one_before.Goals as goal

pub returns : goal.returns
returns c = pop_shows_the_one_before
