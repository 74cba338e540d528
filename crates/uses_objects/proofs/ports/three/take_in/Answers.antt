-- Behind the join the seat knows what the other one's thread sent, and what it knew.
use Rattle.ak_port.proofs.Surface.{sent_known_other, sent_known_still}
use Rattle.uses_objects.proofs.ports.three.take_in.Goals as goal

pub returns-clause-knows : goal.returns-clause-knows
returns-clause-knows c = sent_known_other c.args.port.now c.args.thread.0 c.args.work.sent.items c.args.seat.now c.args.work.seat c.join.new.seat c.requires.work c.join.ensures

pub returns-clause-keeps : goal.returns-clause-keeps
returns-clause-keeps c = λ t sent knows. sent_known_still t sent c.args.seat.now c.args.work.seat c.join.new.seat knows c.join.ensures
