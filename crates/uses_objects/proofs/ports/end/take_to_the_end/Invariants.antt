-- what was taken is what the seat knows as taken, and it can take on
use Rattle.std.proofs.Common.{◌≡◌, false}
use Rattle.ak_port.specs.PortCalls.{CanTake}
use Rattle.ak_port.specs.PortMachine.{state_of, taken_items}
use Rattle.uses_objects.proofs.ports.end.take_to_the_end.Given as goal

abbrev pub invariant-loop : goal.invariant-loop
invariant-loop g l = record {
  of : l.seat.lock ≡ l.port;
  idle : l.seat.turn ≡ false;
  thread : l.seat.thread ≡ l.clock.thread.0;
  opening : l.seat.opening ≡ l.fn.seat.opening;
  taking : CanTake l.clock.thread l.capacity l.seat;
  so_far : l.taken.items ≡ taken_items (state_of l.seat.front);
}
