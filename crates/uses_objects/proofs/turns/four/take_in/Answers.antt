-- Behind the join the seat knows what the other one's thread made, and what it knew.
use Rattle.ak_turn.proofs.Surface.{knows_other, knows_still}
use Rattle.uses_objects.proofs.turns.four.take_in.Goals as goal

pub returns-clause-knows : goal.returns-clause-knows
returns-clause-knows c = knows_other _ c.args.lock.now c.args.thread.0 c.args.work.made.items c.args.seat.now c.args.work.seat c.join.new.seat c.requires.work c.join.ensures

pub returns-clause-keeps : goal.returns-clause-keeps
returns-clause-keeps c = λ t made knows. knows_still _ t made c.args.seat.now c.args.work.seat c.join.new.seat knows c.join.ensures
