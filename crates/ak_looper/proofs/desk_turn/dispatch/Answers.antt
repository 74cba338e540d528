-- In its turn the message is still the next one, and its entry is the thread's own, behind all that was there.
use Rattle.std.proofs.Common.{◌∙◌, Some, ap, sym}
use Rattle.ak_base.specs.Thread.{looper_thread}
use Rattle.ak_desk.specs.Desk.{DeskData}
use Rattle.ak_looper.proofs.AtTurn.{desk_of, dispatched_one, keeps_seat_there, leaves_next, still_next}
use Rattle.ak_looper.proofs.desk_turn.dispatch.Goals as goal

pub carried-made-requires-clause-next : goal.carried-made-requires-clause-next
carried-made-requires-clause-next g c =
    let turn = c.lock-turn.ensures in
    let book = c.book.ensures.value in
    let r = c.args.reach.now in
    let opening = turn.opening ∙ ap (λ (d : DeskData). Some d.opening) (sym book) in
    let looper = desk_of r.number c.args.seat.now c.book.result.now.opening opening c.requires.looper in
    still_next c.args.taken.now (looper_thread c.book.result.now.opening.looper) c.book.result.now.entries c.args.seat.now c.lock-turn.new.seat turn.seen (ap (λ (d : DeskData). d.entries) book ∙ turn.list)
    (c.requires.thread ∙ r.looper ∙ ap looper_thread (sym looper)) c.requires.next

pub finish-requires-clause-list : goal.finish-requires-clause-list
finish-requires-clause-list g c =
    let turn = c.lock-turn.ensures in
    let book = c.book.ensures.value in
    let r = c.args.reach.now in
    leaves_next c.book.result.now.opening c.args.taken.now c.carried-made.result c.book.result.now.entries c.carried-made.new.desk.entries c.args.seat.now c.lock-turn.new.seat turn.seen (ap (λ (d : DeskData). d.entries) book ∙ turn.list)
    r c.carried-made.new.reach (c.requires.thread ∙ r.looper) c.carried-made.ensures.carried c.requires.stands

pub returns-clause-dispatched : goal.returns-clause-dispatched
returns-clause-dispatched g c l start so_far stands desk =
    let turn = c.lock-turn.ensures in
    let book = c.book.ensures.value in
    let r = c.args.reach.now in
    dispatched_one c.book.result.now.opening c.args.taken.now c.carried-made.result c.book.result.now.entries c.carried-made.new.desk.entries c.args.seat.now c.lock-turn.new.seat turn.seen (ap (λ (d : DeskData). d.entries) book ∙ turn.list)
    r c.carried-made.new.reach (c.requires.thread ∙ r.looper) c.carried-made.ensures.carried c.finish.new.seat c.finish.ensures.entered (turn.opening ∙ ap (λ (d : DeskData). Some d.opening) (sym book)) l start so_far stands desk

pub returns-clause-seat : goal.returns-clause-seat
returns-clause-seat g c =
    let turn = c.lock-turn.ensures in
    let book = c.book.ensures.value in
    let r = c.args.reach.now in
    keeps_seat_there c.book.result.now.opening c.args.taken.now c.carried-made.result c.book.result.now.entries c.carried-made.new.desk.entries c.args.seat.now c.lock-turn.new.seat turn.seen (ap (λ (d : DeskData). d.entries) book ∙ turn.list)
    r c.carried-made.new.reach (c.requires.thread ∙ r.looper) c.carried-made.ensures.carried c.finish.new.seat c.finish.ensures.entered c.requires.idle c.requires.stands
