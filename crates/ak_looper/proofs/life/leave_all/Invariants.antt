-- These steps, and any that leave the rest, leave all.
use Rattle.ak_looper.specs.Ways.{KeepsReach}
use Rattle.ak_looper.proofs.Leaving.{GoesLeaving}
use Rattle.ak_looper.proofs.life.leave_all.Given as goal

abbrev pub invariant-loop-taken : goal.invariant-loop-taken
invariant-loop-taken g l = record {
  goes : GoesLeaving l.fn.left.items l.taken-iterator.rest.items l.fn.reach l.reach;
  keeps : KeepsReach l.fn.reach l.reach;
}
