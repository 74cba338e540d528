-- Each seat has a number of its own, and those so far are below the next one.
use Rattle.std.proofs.Common.{◌+◌, All}
use Rattle.kit_bench.specs.Turns.{AreNamesBelow, IsIdleAt, IsReady}
use Rattle.kit_bench.proofs.turns.workers.Given as goal

abbrev pub invariant-loop-place : goal.invariant-loop-place
invariant-loop-place l = record {
  at : IsIdleAt l.lock l.seat;
  names : AreNamesBelow (l.place + 1) l.seat.names;
  ready : All (λ worker. IsReady l.lock worker.thread.0 worker.seat) l.workers.items;
}
