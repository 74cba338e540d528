-- By what each turn adds, and since what is sent on goes to later loopers.
use Rattle.ak_headline.proofs.LoopersTold.{loopers_tally}
use Rattle.ak_headline.proofs.tallies.loopers_tally.Goals as goal

pub returns : goal.returns
returns c = loopers_tally c.forwards_are_to_later_loopers.ensures.routed c.accepted_is_dispatched_then_left.ensures
