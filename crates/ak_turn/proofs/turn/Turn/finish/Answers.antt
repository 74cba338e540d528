use Rattle.std.proofs.Common.{ap, sym}
use Rattle.ak_turn.specs.Entries.{maker}
use Rattle.ak_turn.proofs.Finishing.{holds_book, holds_noted}
use Rattle.ak_turn.proofs.Knowing.{knows_after}
use Rattle.ak_turn.proofs.turn.Turn.finish.Goals as goal

pub note_entry-requires-clause-holds : goal.note_entry-requires-clause-holds
note_entry-requires-clause-holds g c =
    holds_book g.B.Book.entries c.seat.inside.place.me.0 _ c.self.inside.book c.of-kept.result.value _ (ap (λ s. s.turn) c.seat.view_is) c.requires.turn c.put_back.ensures.after (sym c.of-kept.ensures)

pub pass_on-served-requires-clause-holds : goal.pass_on-served-requires-clause-holds
pass_on-served-requires-clause-holds g c =
    holds_noted g.B.Book.entries (maker g.B.Book.plain g.B.Book.by) c.of-kept.result.value _ _
    (holds_book g.B.Book.entries c.seat.inside.place.me.0 _ c.self.inside.book c.of-kept.result.value _ (ap (λ s. s.turn) c.seat.view_is) c.requires.turn c.put_back.ensures.after (sym c.of-kept.ensures)) c.note_entry.ensures.noted

pub returns-clause-known : goal.returns-clause-known
returns-clause-known g c =
    knows_after g.B.Book.entries (maker g.B.Book.plain g.B.Book.by) c.args.seat.now c.seat.inside.place.table_id _ c.of-kept.result.value c.seat.inside.place.me.0 _ _ _ _ c.seat.view_is c.put_back.ensures.after c.note_entry.ensures.noted c.pass_on-served.ensures.after
