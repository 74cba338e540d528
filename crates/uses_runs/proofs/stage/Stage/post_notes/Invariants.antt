-- Between its calls the run runs.
use Rattle.ak_run.specs.Running.{IsRunning}
use Rattle.uses_runs.proofs.stage.Stage.post_notes.Given as goal

abbrev pub invariant-loop : goal.invariant-loop
invariant-loop g l = IsRunning l.self.run
