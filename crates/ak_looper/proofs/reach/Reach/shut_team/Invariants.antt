-- As many ports of the team are shut as it came to.
use Rattle.ak_looper.specs.Ways.{KeepsReach}
use Rattle.ak_looper.proofs.ClosingSteps.{GoesShutting}
use Rattle.ak_looper.proofs.reach.Reach.shut_team.Given as goal

abbrev pub invariant-loop-place : goal.invariant-loop-place
invariant-loop-place g l = record {
  goes : GoesShutting l.place l.fn.self l.self;
  keeps : KeepsReach l.fn.self l.self;
}
