use Rattle.std.proofs.Common.{◌≡◌, false, length}
use Rattle.ak_turn.specs.Seats.{HasSeen}
use Rattle.uses_objects.proofs.turns.shared.await_count.Given as goal

-- the seat has seen since the call, and the count is what it saw last
abbrev pub invariant-loop : goal.invariant-loop
invariant-loop g l = record {
  of : l.seat.lock ≡ l.lock;
  idle : l.seat.turn ≡ false;
  seen : HasSeen (λ c. c.by.0) l.fn.seat l.seat;
  count : l.count ≡ length l.seat.front;
}
