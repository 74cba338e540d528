-- By what each turn adds, and since what is sent on goes to later loopers and only pops specifiers.
use Rattle.ak_headline.proofs.SendsTold.{loopers_send_so}
use Rattle.ak_headline.proofs.tallies.loopers_send_so.Goals as goal

pub returns : goal.returns
returns c = loopers_send_so c.forwards_are_to_later_loopers.ensures.routed c.following_only_pops.ensures
