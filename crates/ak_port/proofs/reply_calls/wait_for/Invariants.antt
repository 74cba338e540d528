use Rattle.std.proofs.Common.{◌≡◌, false}
use Rattle.ak_turn.specs.Seats.{HasSeen}
use Rattle.ak_port.specs.ReplySeats.{maker_of, MayTake}
use Rattle.ak_port.proofs.reply_calls.wait_for.Given as goal

-- the seat has seen since the call, and the clock is as it was
abbrev pub invariant-loop : goal.invariant-loop
invariant-loop g l = record {
  of : l.seat.lock ≡ l.book;
  idle : l.seat.turn ≡ false;
  thread : l.seat.thread ≡ l.clock.thread.0;
  seen : HasSeen maker_of l.fn.seat l.seat;
  clock : l.clock ≡ l.fn.clock;
  own : MayTake l.seat.thread l.n l.seat.front;
}
