-- Each name has its place.
use Rattle.ak_describe.proofs.names.Placed.{names_have_places}
use Rattle.ak_describe.proofs.laws.names_have_places.Goals as goal

pub returns : goal.returns
returns c = names_have_places
