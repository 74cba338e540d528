-- By what the diary of each looper tells.
use Rattle.ak_headline.proofs.MemoryTold.{runs_tell_want_of_memory}
use Rattle.ak_headline.proofs.laws.want_of_memory_is_told.Goals as goal

pub returns : goal.returns
returns c = runs_tell_want_of_memory c.each_is_dispatched_by_rule.ensures
