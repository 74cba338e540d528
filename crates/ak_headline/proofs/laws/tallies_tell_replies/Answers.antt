-- By the laws of diaries, and what is told of desks.
use Rattle.ak_headline.proofs.OneReply.{runs_answer}
use Rattle.ak_headline.proofs.laws.tallies_tell_replies.Goals as goal

pub returns : goal.returns
returns c =
    runs_answer c.accepted_is_dispatched_then_left.ensures c.each_is_dispatched_by_rule.ensures c.the_list_tells_the_handlers.ensures.one c.an_entry_tells_its_reply.ensures.forward
