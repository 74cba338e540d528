-- One is taken: the next one.
use Rattle.uses_asks.proofs.Taking.{taken_next}
use Rattle.uses_asks.proofs.serving.take_next.Goals as goal

pub returns-in-Took-clause-next : goal.returns-in-Took-clause-next
returns-in-Took-clause-next g c =
    let took = c.in-Took.ensures in
    taken_next c.args.seat.now c.take.new.seat c.in-Took.field-0 c.args.room.items c.take.new.out.items c.pop_front.new.self.items c.pop_front.result
    c.requires.empty took.items took.count took.some took.rises took.goes_on c.pop_front.ensures.items
