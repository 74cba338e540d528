-- The worker stays at its seat.
use Rattle.std.proofs.Common.{◌≡◌}
use Rattle.kit_bench.specs.Turns.{IsIdleAt}
use Rattle.kit_bench.proofs.turns.enter_all.Given as goal

abbrev pub invariant-loop-number : goal.invariant-loop-number
invariant-loop-number g l = record {
  at : IsIdleAt l.lock l.seat;
  thread : l.seat.thread ≡ l.clock.thread.0;
}
