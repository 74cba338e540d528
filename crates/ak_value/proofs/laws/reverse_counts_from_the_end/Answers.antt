use Rattle.ak_value.proofs.Choosing.{none_below_zero}
use Rattle.ak_value.proofs.Reversing.{reverse_is_forward, reverse_range_is_forward}
use Rattle.ak_value.proofs.laws.reverse_counts_from_the_end.Goals as goal

pub returns-clause-index : goal.returns-clause-index
returns-clause-index c = reverse_is_forward

pub returns-clause-range : goal.returns-clause-range
returns-clause-range c = reverse_range_is_forward

pub returns-clause-below_zero : goal.returns-clause-below_zero
returns-clause-below_zero c = none_below_zero
