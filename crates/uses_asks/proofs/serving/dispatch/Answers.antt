-- In its turn the thread dispatched as many as it did before, and one more after it.
use Rattle.std.proofs.Common.{◌∙◌, Some, ap, sym}
use Rattle.ak_desk.specs.Desk.{DeskData}
use Rattle.uses_asks.proofs.Ending.{at_desk_by, dispatched_by, in_step, next_by, of_looper}
use Rattle.uses_asks.proofs.serving.dispatch.Goals as goal

pub carried-made-requires-clause-position : goal.carried-made-requires-clause-position
carried-made-requires-clause-position g c =
    let turn = c.lock-turn.ensures in
    let book = c.book.ensures.value in
    let opening = turn.opening ∙ ap (λ (d : DeskData). Some d.opening) (sym book) in
    in_step c.args.taken.now.position c.args.seat.now c.lock-turn.new.seat c.book.result.now turn.seen (ap (λ (d : DeskData). d.entries) book ∙ turn.list)
    (c.requires.thread ∙ of_looper c.args.clock.now.thread c.args.seat.now c.book.result.now.opening opening c.requires.looper) c.requires.position

pub carried-made-requires-clause-looper : goal.carried-made-requires-clause-looper
carried-made-requires-clause-looper g c =
    let opening = c.lock-turn.ensures.opening ∙ ap (λ (d : DeskData). Some d.opening) (sym c.book.ensures.value) in
    of_looper c.args.clock.now.thread c.args.seat.now c.book.result.now.opening opening c.requires.looper

pub finish-requires-clause-list : goal.finish-requires-clause-list
finish-requires-clause-list g c =
    let turn = c.lock-turn.ensures in
    next_by c.args.clock.now c.carried-made.new.clock c.args.taken.now c.book.result.now c.carried-made.new.desk c.args.seat.now c.lock-turn.new.seat turn.seen
    (ap (λ (d : DeskData). d.entries) c.book.ensures.value ∙ turn.list) c.requires.thread c.carried-made.result c.carried-made.ensures.ended c.carried-made.ensures.err

pub returns-clause-dispatched : goal.returns-clause-dispatched
returns-clause-dispatched g c =
    let turn = c.lock-turn.ensures in
    let book = c.book.ensures.value in
    dispatched_by c.args.clock.now c.carried-made.new.clock c.args.taken.now c.book.result.now c.carried-made.new.desk c.args.seat.now c.lock-turn.new.seat turn.seen
    (ap (λ (d : DeskData). d.entries) book ∙ turn.list) c.requires.thread c.a_turn_dispatches.ensures c.finish.new.seat c.requires.idle
    (turn.opening ∙ ap (λ (d : DeskData). Some d.opening) (sym book)) c.finish.ensures.entered c.carried-made.result c.carried-made.ensures.ended

pub returns-clause-desk : goal.returns-clause-desk
returns-clause-desk g c =
    let turn = c.lock-turn.ensures in
    let book = c.book.ensures.value in
    at_desk_by c.args.clock.now c.carried-made.new.clock c.args.taken.now c.book.result.now c.carried-made.new.desk c.args.seat.now c.lock-turn.new.seat turn.seen
    (ap (λ (d : DeskData). d.entries) book ∙ turn.list) c.requires.thread c.a_turn_dispatches.ensures c.finish.new.seat c.requires.idle
    (turn.opening ∙ ap (λ (d : DeskData). Some d.opening) (sym book)) c.finish.ensures.entered c.carried-made.result c.carried-made.ensures.ended
