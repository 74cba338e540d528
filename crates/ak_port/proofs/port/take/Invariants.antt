-- the seat has looked since the call, and can take
use Rattle.std.proofs.Common.{◌≡◌, ◌-◌, false}
use Rattle.std.specs.VecDeque.{deque_len, deque_capacity}
use Rattle.ak_port.specs.PortCalls.{HasLooked, CanTake}
use Rattle.ak_port.proofs.port.take.Given as goal

abbrev pub invariant-loop : goal.invariant-loop
invariant-loop g l = record {
  of : l.seat.lock ≡ l.port;
  idle : l.seat.turn ≡ false;
  thread : l.seat.thread ≡ l.clock.thread.0;
  looked : HasLooked l.fn.clock l.clock l.fn.seat l.seat;
  out : l.out ≡ l.fn.out;
  taking : CanTake l.clock.thread (deque_capacity l.out - deque_len l.out) l.seat;
}
