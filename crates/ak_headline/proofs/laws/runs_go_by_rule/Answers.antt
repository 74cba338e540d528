-- By what the diary of each looper tells.
use Rattle.ak_headline.proofs.Loopers.{runs_go_by_rule}
use Rattle.ak_headline.proofs.laws.runs_go_by_rule.Goals as goal

pub returns : goal.returns
returns c = runs_go_by_rule c.each_is_dispatched_by_rule.ensures
