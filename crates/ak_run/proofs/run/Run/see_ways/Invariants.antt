-- So far main has seen as much as was seen through the doors up to here.
use Rattle.std.proofs.Common.{ℕ, take, All}
use Rattle.ak_looper.specs.declared.door.Door.{Door}
use Rattle.ak_run.specs.Running.{IsRunning}
use Rattle.ak_run.specs.Seen.{HasLooked, HasSeenThrough}
use Rattle.ak_run.proofs.run.Run.see_ways.Given as goal

abbrev pub invariant-loop-door : goal.invariant-loop-door
invariant-loop-door g l = record {
  seen : All (λ (door : ℕ × Door). HasSeenThrough door l.self) (take l.door-index l.doors);
  looked : HasLooked l.fn.self l.self;
  running : IsRunning l.self;
}
