use Rattle.std.proofs.Common.{◌∙◌}
use Rattle.ak_port.proofs.ReplyCalls.{opened, opened_takes, opened_cancels}
use Rattle.ak_port.proofs.reply_calls.open_ask.Goals as goal

pub returns-clause-opened : goal.returns-clause-opened
returns-clause-opened g c =
    opened c.args.seat.now c.lock-turn.new.seat c.book.result.now c.lock-turn.ensures.seen (c.book.ensures.value ∙ c.lock-turn.ensures.list) c.args.clock.now c.open_slot-result.new.clock c.open_slot-result.new.self c.finish.new.seat
    c.requires.idle c.requires.thread c.finish.ensures.entered c.open_slot-result.ensures.legal c.open_slot-result.result c.open_slot-result.ensures.entered c.open_slot-result.ensures.clock

pub returns-clause-take : goal.returns-clause-take
returns-clause-take g c =
    opened_takes c.args.seat.now c.lock-turn.new.seat c.book.result.now c.lock-turn.ensures.seen (c.book.ensures.value ∙ c.lock-turn.ensures.list) c.args.clock.now c.open_slot-result.new.clock c.open_slot-result.new.self c.finish.new.seat
    c.requires.idle c.requires.thread c.finish.ensures.entered c.open_slot-result.ensures.legal c.open_slot-result.result (returns-clause-opened g c)

pub returns-clause-cancel : goal.returns-clause-cancel
returns-clause-cancel g c =
    opened_cancels c.args.seat.now c.lock-turn.new.seat c.book.result.now c.lock-turn.ensures.seen (c.book.ensures.value ∙ c.lock-turn.ensures.list) c.args.clock.now c.open_slot-result.new.clock c.open_slot-result.new.self c.finish.new.seat
    c.requires.idle c.requires.thread c.finish.ensures.entered c.open_slot-result.ensures.legal c.open_slot-result.result (returns-clause-opened g c)
