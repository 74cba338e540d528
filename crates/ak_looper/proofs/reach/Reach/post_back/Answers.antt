-- Through the door, or without one.
use Rattle.ak_looper.proofs.Going.{keeps_on}
use Rattle.ak_looper.proofs.Paying.{pays_through, pays_without_door}
use Rattle.ak_looper.proofs.reach.Reach.post_back.Goals as goal

pub returns-in-Ok-clause-goes : goal.returns-in-Ok-clause-goes
returns-in-Ok-clause-goes g c l start so_far stands =
    pays_through l start so_far c.args.to c.args.item c.reply.result c.way_to.new.self c.reply.new.self (c.in-Ok.ensures.goes l start so_far stands) (c.reply.ensures.goes l)

pub returns-in-Ok-clause-keeps : goal.returns-in-Ok-clause-keeps
returns-in-Ok-clause-keeps g c = keeps_on c.args.self.now c.way_to.new.self c.reply.new.self c.way_to.ensures.keeps c.reply.ensures.keeps

pub returns-in-Err-clause-goes : goal.returns-in-Err-clause-goes
returns-in-Err-clause-goes g c l start so_far stands =
    pays_without_door l start so_far c.args.to c.args.item c.way_to.new.self (c.in-Err.ensures.lacks l start so_far stands)
