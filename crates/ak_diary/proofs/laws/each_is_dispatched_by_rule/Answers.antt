-- By the law above it, and what is told of desks.
use Rattle.ak_diary.proofs.Accounted.{each_is_dispatched_by_rule}
use Rattle.ak_diary.proofs.laws.each_is_dispatched_by_rule.Goals as goal

pub returns : goal.returns
returns c = each_is_dispatched_by_rule c.accepted_is_dispatched_then_left.ensures c.the_list_tells_the_handlers.ensures.follows c.an_entry_tells_its_reply.ensures.tells
