-- By the laws of ports, of reply books and of desks.
use Rattle.uses_asks.proofs.OneReply as one
use Rattle.uses_asks.proofs.laws.an_ask_has_one_reply.Goals as goal

pub returns : goal.returns
returns c =
    let port = c.written_is_taken_or_pending.ensures in
    let book = c.slots_are_settled_once.ensures in
    one.an_ask_has_one_reply port.each_once port.oldest_first book.settled book.taken c.an_entry_tells_its_reply.ensures.tells
