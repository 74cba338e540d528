-- As the work was given: the gate and the handle may be sent, and the job is ready.
use Rattle.ak_run.proofs.run.fn.Run.start_looper.work+FnOnce.call_once.Goals as goal

pub work-requires : goal.work-requires
work-requires g c = (c.requires.1.1.1.0, (c.requires.1.1.1.1, c.requires.1.1.0))
