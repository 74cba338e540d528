use Rattle.uses_objects.proofs.ports.three.three_threads.Goals as goal

pub returns-clause-first : goal.returns-clause-first
returns-clause-first g c = c.whole-book.ensures.sent 1 _ (c.take_in-second.ensures.keeps 1 _ c.take_in-first.ensures.knows)

pub returns-clause-second : goal.returns-clause-second
returns-clause-second g c = c.whole-book.ensures.sent 2 _ c.take_in-second.ensures.knows
