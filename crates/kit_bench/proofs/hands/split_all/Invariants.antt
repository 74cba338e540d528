-- Each worker has a number of its own, and those so far are below the next one.
use Rattle.std.proofs.Common.{◌+◌}
use Rattle.ak_port.specs.PortCalls.{CanTake}
use Rattle.kit_bench.specs.Turns.{AreNamesBelow}
use Rattle.kit_bench.proofs.hands.split_all.Given as goal

abbrev pub invariant-loop-place : goal.invariant-loop-place
invariant-loop-place l = record {
  taking : CanTake l.head.clock.thread l.room l.head.at_port;
  port_names : AreNamesBelow (l.place + 1) l.head.at_port.names;
  book_names : AreNamesBelow (l.place + 1) l.head.at_book.names;
}
