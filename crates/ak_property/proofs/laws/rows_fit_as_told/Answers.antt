use Rattle.ak_property.proofs.Firsts.{rows-fit_as_told}
use Rattle.ak_property.proofs.laws.rows_fit_as_told.Goals as goal

pub returns : goal.returns
returns c = rows-fit_as_told
