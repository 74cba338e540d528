-- Of a port that is shut nothing but the rest is taken.
use Rattle.ak_looper.proofs.Lives.{rested_so}
use Rattle.ak_looper.proofs.at_work.Life.take_rest.Goals as goal

pub returns-clause-rested : goal.returns-clause-rested
returns-clause-rested g c l start work kind stopped =
    rested_so l start work kind c.take.result c.take.new.queue.items c.args.self.now.reach c.take.new.self c.args.self.now.desk_seat stopped (c.take.ensures.rest c.requires.shut) (c.take.ensures.goes l start work stopped.worked.stands)
