-- The slot is filled with the reply, and the thread has dispatched just as many messages as it took, again.
use Rattle.std.proofs.Common.{refl, sym}
use Rattle.uses_asks.proofs.Ending.{serves_again}
use Rattle.uses_asks.proofs.Filling.{served_so}
use Rattle.uses_asks.proofs.serving.serve_one.Goals as goal

pub returns-in-Filled-clause-served : goal.returns-in-Filled-clause-served
returns-in-Filled-clause-served g c =
    served_so c.in-Some.taken c.in-Slot.slot c.in-Some-reply_of.reply c.in_ok-flat.flat c.in_ok-made.made c.args.taker.now c.take_next.new.seat c.args.seat.now c.dispatch.new.seat c.dispatch.new.clock c.fill.new.clock c.args.filler.now c.fill.new.seat
    c.take_next.ensures.port c.in-Some.ensures.next (sym c.in-Slot.ensures) c.in_ok-made.ensures.dispatched (sym c.in-Some-reply_of.ensures) c.in_ok-flat.ensures.text (c.in-Filled.ensures.filled refl)

pub returns-in-Filled-clause-again : goal.returns-in-Filled-clause-again
returns-in-Filled-clause-again g c =
    serves_again c.args.port.now c.args.desk.now c.args.book.now c.args.clock.now.thread c.args.taker.now c.take_next.new.seat c.args.seat.now c.dispatch.new.seat c.args.filler.now c.fill.new.seat
    c.in-Some.taken c.in_ok-made.made c.requires c.in-Some.ensures.next c.in_ok-made.ensures.dispatched c.take_next.ensures.seat c.fill.ensures.seat (c.in-Some.ensures.taking 1 c.requires.taking)
