-- By what each turn fills slots with.
use Rattle.ak_headline.proofs.Paying.{loopers_pay}
use Rattle.ak_headline.proofs.tallies.loopers_pay.Goals as goal

pub returns : goal.returns
returns c = loopers_pay c.accepted_is_dispatched_then_left.ensures
