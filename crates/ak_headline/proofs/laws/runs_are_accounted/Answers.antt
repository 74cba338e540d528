-- By what the diary of each looper tells.
use Rattle.ak_headline.proofs.Loopers.{runs_are_accounted}
use Rattle.ak_headline.proofs.laws.runs_are_accounted.Goals as goal

pub returns : goal.returns
returns c = runs_are_accounted c.accepted_is_dispatched_then_left.ensures
