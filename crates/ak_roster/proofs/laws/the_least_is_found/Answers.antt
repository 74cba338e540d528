-- The teams that run stand in the order of their numbers.
use Rattle.ak_roster.proofs.Apart.{least_is_found}
use Rattle.ak_roster.proofs.laws.the_least_is_found.Goals as goal

pub returns : goal.returns
returns c = least_is_found
