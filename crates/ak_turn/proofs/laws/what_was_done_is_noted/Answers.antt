use Rattle.ak_turn.specs.Entries.{maker}
use Rattle.ak_turn.proofs.Noting.{noted_is_made, noted_stands, seen_notes_nothing, called_notes_one}
use Rattle.ak_turn.proofs.laws.what_was_done_is_noted.Goals as goal

pub returns-clause-made : goal.returns-clause-made
returns-clause-made g c = noted_is_made (maker g.B.Book.plain g.B.Book.by)

pub returns-clause-stands : goal.returns-clause-stands
returns-clause-stands g c = noted_stands (maker g.B.Book.plain g.B.Book.by)

pub returns-clause-seen : goal.returns-clause-seen
returns-clause-seen g c = seen_notes_nothing (maker g.B.Book.plain g.B.Book.by)

pub returns-clause-called : goal.returns-clause-called
returns-clause-called g c = called_notes_one (maker g.B.Book.plain g.B.Book.by)
