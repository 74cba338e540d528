use Rattle.std.proofs.Common.{sym, subst}
use Rattle.ak_turn.specs.Entries.{maker}
use Rattle.ak_turn.specs.Seats.{KnowsWhole}
use Rattle.ak_turn.proofs.Locking.{counted_whole}
use Rattle.ak_turn.proofs.lock.TurnLock.see.Goals as goal

pub returns-clause-known : goal.returns-clause-known
returns-clause-known g c =
    λ whole. counted_whole _ _ _ _ _ _ _ c.look_at_count-found.ensures.glances (subst (KnowsWhole (maker g.B.Book.plain g.B.Book.by)) (sym c.seat.view_is) whole)
