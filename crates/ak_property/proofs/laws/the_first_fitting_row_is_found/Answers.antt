use Rattle.ak_property.proofs.Firsts.{first-is_found}
use Rattle.ak_property.proofs.laws.the_first_fitting_row_is_found.Goals as goal

pub returns : goal.returns
returns c = first-is_found
