-- What the call found of the list goes on from what both seats have seen.
use Rattle.std.proofs.Common.{ap, refl}
use Rattle.ak_port.specs.ReplySeats.{ReplySeat, maker_of}
use Rattle.uses_asks.proofs.Gathering.{other_begins, own_begins}
use Rattle.uses_asks.proofs.talking.settled_book.Goals as goal

pub returns-in-Duplicate-clause-legal : goal.returns-in-Duplicate-clause-legal
returns-in-Duplicate-clause-legal g c = (c.in-Duplicate.ensures.duplicate refl).legal

pub returns-in-Duplicate-clause-own : goal.returns-in-Duplicate-clause-own
returns-in-Duplicate-clause-own g c =
    let found = c.in-Duplicate.ensures.duplicate refl in
    own_begins maker_of c.args.hands.book_seat c.args.other c.join.new.seat c.fill_none.new.seat c.fill_none.new.seat.front c.join.ensures refl
    found.looked.seen.between (ap (λ (s : ReplySeat). s.front) found.looked.seen.after)

pub returns-in-Duplicate-clause-others : goal.returns-in-Duplicate-clause-others
returns-in-Duplicate-clause-others g c =
    other_begins maker_of c.args.hands.book_seat c.args.other c.join.new.seat c.fill_none.new.seat c.fill_none.new.seat.front c.join.ensures refl c.fill_none.ensures.seat.joined c.fill_none.ensures.known
