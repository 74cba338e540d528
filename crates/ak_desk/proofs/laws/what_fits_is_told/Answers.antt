-- What fits is added, one value behind the other.
use Rattle.ak_desk.proofs.Fitting.{all_suites_are_told, all_values_are_told, shallow_is_held}
use Rattle.ak_desk.proofs.laws.what_fits_is_told.Goals as goal

pub returns-clause-values : goal.returns-clause-values
returns-clause-values c = all_values_are_told

pub returns-clause-suites : goal.returns-clause-suites
returns-clause-suites c = all_suites_are_told

pub returns-clause-held : goal.returns-clause-held
returns-clause-held c = shallow_is_held
