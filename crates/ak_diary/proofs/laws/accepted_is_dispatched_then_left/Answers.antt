-- By what is told of takers and of desks.
use Rattle.ak_diary.proofs.Accounted.{accepted_is_dispatched_then_left}
use Rattle.ak_diary.proofs.laws.accepted_is_dispatched_then_left.Goals as goal

pub returns : goal.returns
returns c =
    accepted_is_dispatched_then_left c.takes_go_on.ensures.told c.takes_go_on.ensures.counted c.ports_stay_within_limits.ensures c.nothing_comes_after_the_rest.ensures
    c.the_dispatches_are_its_own.ensures
