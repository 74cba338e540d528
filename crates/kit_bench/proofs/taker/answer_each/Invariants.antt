-- Each round takes one out.
use Rattle.std.proofs.Common.{◌≡◌}
use Rattle.std.specs.VecDeque.{deque_capacity, deque_len}
use Rattle.kit_bench.proofs.taker.answer_each.Given as goal

abbrev pub decreases-loop-next : goal.decreases-loop-next
decreases-loop-next g l = deque_len l.taken

abbrev pub invariant-loop-next : goal.invariant-loop-next
invariant-loop-next g l = record {
  port : l.taker.at_port ≡ l.fn.taker.at_port;
  clock : l.taker.clock.thread ≡ l.fn.taker.clock.thread;
  room : deque_capacity l.taken ≡ deque_capacity l.fn.taken;
}
