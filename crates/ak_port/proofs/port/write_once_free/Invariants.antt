-- the seat has looked since the call, and the item is the one to be written
use Rattle.std.proofs.Common.{◌≡◌, false}
use Rattle.ak_port.specs.PortCalls.{HasLooked}
use Rattle.ak_port.proofs.port.write_once_free.Given as goal

abbrev pub invariant-loop : goal.invariant-loop
invariant-loop g l = record {
  of : l.seat.lock ≡ l.port;
  idle : l.seat.turn ≡ false;
  thread : l.seat.thread ≡ l.clock.thread.0;
  looked : HasLooked l.fn.clock l.clock l.fn.seat l.seat;
  item : l.item ≡ l.fn.item;
}
