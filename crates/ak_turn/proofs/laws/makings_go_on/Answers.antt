use Rattle.ak_turn.specs.Entries.{maker}
use Rattle.ak_turn.proofs.Making.{seen_makes, called_makes, makes_then_makes, made_goes_on, makes_more, nothing_before}
use Rattle.ak_turn.proofs.laws.makings_go_on.Goals as goal

pub returns-clause-seen : goal.returns-clause-seen
returns-clause-seen g c = seen_makes (maker g.B.Book.plain g.B.Book.by)

pub returns-clause-called : goal.returns-clause-called
returns-clause-called g c = called_makes (maker g.B.Book.plain g.B.Book.by)

pub returns-clause-both : goal.returns-clause-both
returns-clause-both g c = makes_then_makes (maker g.B.Book.plain g.B.Book.by)

pub returns-clause-made : goal.returns-clause-made
returns-clause-made g c = made_goes_on (maker g.B.Book.plain g.B.Book.by)

pub returns-clause-more : goal.returns-clause-more
returns-clause-more g c = makes_more (maker g.B.Book.plain g.B.Book.by)

pub returns-clause-before : goal.returns-clause-before
returns-clause-before g c = nothing_before (maker g.B.Book.plain g.B.Book.by)
