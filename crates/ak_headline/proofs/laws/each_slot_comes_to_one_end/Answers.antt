-- By the laws of diaries, what is told of desks, and what the diaries tell of each slot.
use Rattle.ak_headline.proofs.Missing.{runs_end_slots}
use Rattle.ak_headline.proofs.laws.each_slot_comes_to_one_end.Goals as goal

pub returns : goal.returns
returns c =
    runs_end_slots c.accepted_is_dispatched_then_left.ensures c.each_is_dispatched_by_rule.ensures c.the_list_tells_the_handlers.ensures.one c.an_entry_tells_its_reply.ensures.forward c.loopers_tally.ensures
    c.loopers_send_up.ensures c.loopers_pay.ensures c.main_tallies.ensures c.sessions_tally.ensures c.loopers_send_so.ensures c.main_asks_so.ensures c.sessions_ask_so.ensures
