-- A dispatch is by the looper's own thread.
use Rattle.ak_desk.proofs.MachineLaws.{dispatches_are_own}
use Rattle.ak_desk.proofs.laws.the_dispatches_are_its_own.Goals as goal

pub returns : goal.returns
returns c = dispatches_are_own
