-- The dispatches of the whole list are the thread's own.
use Rattle.uses_asks.proofs.Ending.{by_law}
use Rattle.uses_asks.proofs.serving.begin.Goals as goal

pub begin-requires-clause-position : goal.begin-requires-clause-position
begin-requires-clause-position c = by_law c.the_dispatches_are_its_own.ensures c.args.desk.now c.args.taken.now.position (c.state-state.ensures.history c.requires.rest) c.requires.position
