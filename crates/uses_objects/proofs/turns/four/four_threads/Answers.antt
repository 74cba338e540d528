use Rattle.uses_objects.proofs.turns.four.four_threads.Goals as goal

pub returns-clause-first : goal.returns-clause-first
returns-clause-first g c =
    c.whole-tally.ensures 1 _ (c.take_in-fourth.ensures.keeps 1 _ (c.take_in-third.ensures.keeps 1 _ (c.take_in-second.ensures.keeps 1 _ c.take_in-first.ensures.knows)))

pub returns-clause-second : goal.returns-clause-second
returns-clause-second g c = c.whole-tally.ensures 2 _ (c.take_in-fourth.ensures.keeps 2 _ (c.take_in-third.ensures.keeps 2 _ c.take_in-second.ensures.knows))

pub returns-clause-third : goal.returns-clause-third
returns-clause-third g c = c.whole-tally.ensures 3 _ (c.take_in-fourth.ensures.keeps 3 _ c.take_in-third.ensures.knows)

pub returns-clause-fourth : goal.returns-clause-fourth
returns-clause-fourth g c = c.whole-tally.ensures 4 _ c.take_in-fourth.ensures.knows
