-- By the laws, and what both threads tell.
use Rattle.uses_asks.proofs.Gathering.{ends_in_one}
use Rattle.uses_asks.proofs.talking.gather.Goals as goal

pub returns : goal.returns
returns g c = λ item asked.
    let seats = c.args.answered.server in
    let served = c.args.answered.served in
    let items = c.whole_port-items in
    let slots = c.in-Some in
    let handlers = c.whole_desk-handlers in
    ends_in_one c.an_ask_has_one_reply.ensures c.one_item_is_alone.ensures items.result.taker.0 items.result.entries slots.slots.front handlers.result item c.args.asked.reply c.args.asked.asker.seat seats.taker c.args.asked.asker.hands.book_seat
    seats.filler c.requires.served.before seats.seat served.position served.slot served.reply items.ensures.port slots.ensures.legal asked c.requires.served.served c.if-served-reply.false items.ensures.own slots.ensures.own items.ensures.others
    slots.ensures.others handlers.ensures.entries handlers.ensures.opening
