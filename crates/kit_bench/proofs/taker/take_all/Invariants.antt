-- There is room for the next take.
use Rattle.std.proofs.Common.{◌≡◌, []}
use Rattle.std.specs.VecDeque.{deque_capacity}
use Rattle.ak_port.specs.PortCalls.{CanTake}
use Rattle.kit_bench.proofs.taker.take_all.Given as goal

abbrev pub invariant-loop : goal.invariant-loop
invariant-loop g l = record {
  taking : CanTake l.taker.clock.thread l.most l.taker.at_port;
  room : deque_capacity l.taken ≡ l.most;
  empty : l.taken.items ≡ [];
}
