-- what was taken is what the history says, and there is room for the rest
use Rattle.std.proofs.Common.{◌≡◌, ◌+◌}
use Rattle.std.specs.VecDeque.{deque_capacity}
use Rattle.ak_port.specs.PortCalls.{CanTake}
use Rattle.ak_port.specs.PortWriters.{HasTaken}
use Rattle.uses_objects.proofs.ports.three.take_all.Given as goal

abbrev pub invariant-loop : goal.invariant-loop
invariant-loop g l = record {
  taken : HasTaken l.port l.fn.thread l.taken.items l.seat;
  thread : l.clock.thread ≡ l.fn.thread;
  taking : CanTake l.fn.thread 3 l.seat;
  room : deque_capacity l.taken ≡ l.count + 3;
}
