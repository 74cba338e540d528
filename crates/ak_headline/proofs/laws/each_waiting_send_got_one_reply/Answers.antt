-- By what the diaries tell of each slot.
use Rattle.ak_headline.proofs.laws.each_waiting_send_got_one_reply.Goals as goal

pub returns : goal.returns
returns c =
    c.tallies_tell_replies.ensures c.loopers_tally.ensures c.loopers_send_up.ensures c.loopers_pay.ensures c.main_tallies.ensures c.sessions_tally.ensures c.loopers_send_so.ensures c.main_asks_so.ensures
    c.sessions_ask_so.ensures
