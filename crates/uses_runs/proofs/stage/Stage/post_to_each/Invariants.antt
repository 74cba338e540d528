-- Between its calls the run runs.
use Rattle.ak_run.specs.Running.{IsRunning}
use Rattle.uses_runs.proofs.stage.Stage.post_to_each.Given as goal

abbrev pub invariant-loop-looper : goal.invariant-loop-looper
invariant-loop-looper g l = IsRunning l.self.run
