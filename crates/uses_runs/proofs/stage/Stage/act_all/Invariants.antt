-- Between its calls the run runs.
use Rattle.ak_run.specs.Running.{IsRunning}
use Rattle.uses_runs.proofs.stage.Stage.act_all.Given as goal

abbrev pub invariant-loop-act : goal.invariant-loop-act
invariant-loop-act g l = IsRunning l.self.run
