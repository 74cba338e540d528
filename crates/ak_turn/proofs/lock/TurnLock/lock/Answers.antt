use Rattle.std.proofs.Common.{◌∙◌}
use Rattle.ak_turn.proofs.Locking.{seat_given}
use Rattle.ak_turn.proofs.lock.TurnLock.lock.Goals as goal

pub returns-clause-seen : goal.returns-clause-seen
returns-clause-seen g c =
    let drew = c.draw-mine.ensures in
    let takes = c.await_turn.ensures in
    let out = c.take_out-book.ensures in
    (seat_given _ _ _ _ c.args.seat.now c.seat.inside.place.table_id _ c.seat.inside.place.me.0 drew.ticket.0 takes.takes.0 _ _ _ _ c.seat.view_is (out.of ∙ takes.of ∙ drew.of) drew.ticket.2 takes.takes.1 out.after).0

pub returns-clause-known : goal.returns-clause-known
returns-clause-known g c =
    let drew = c.draw-mine.ensures in
    let takes = c.await_turn.ensures in
    let out = c.take_out-book.ensures in
    (seat_given _ _ _ _ c.args.seat.now c.seat.inside.place.table_id _ c.seat.inside.place.me.0 drew.ticket.0 takes.takes.0 _ _ _ _ c.seat.view_is (out.of ∙ takes.of ∙ drew.of) drew.ticket.2 takes.takes.1 out.after).1
