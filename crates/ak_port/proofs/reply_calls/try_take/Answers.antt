use Rattle.std.proofs.Common.{◌∙◌}
use Rattle.ak_port.proofs.ReplyCalls.{takes_at_turn, taken, waits_still}
use Rattle.ak_port.proofs.reply_calls.try_take.Goals as goal

pub take-result-requires-clause-own : goal.take-result-requires-clause-own
take-result-requires-clause-own g c =
    takes_at_turn c.args.seat.now c.lock-turn.new.seat c.book.result.now c.lock-turn.ensures.seen (c.book.ensures.value ∙ c.lock-turn.ensures.list) _ c.args.n c.requires.thread c.requires.own

pub returns-clause-taken : goal.returns-clause-taken
returns-clause-taken g c =
    taken c.args.seat.now c.lock-turn.new.seat c.book.result.now c.lock-turn.ensures.seen (c.book.ensures.value ∙ c.lock-turn.ensures.list) c.args.clock.now c.take-result.new.clock c.take-result.new.self c.finish.new.seat
    c.requires.idle c.requires.thread c.finish.ensures.entered c.take-result.ensures.legal c.args.n c.take-result.result c.take-result.ensures.taken c.take-result.ensures.clock

pub returns-clause-still : goal.returns-clause-still
returns-clause-still g c =
    waits_still c.args.seat.now c.lock-turn.new.seat c.book.result.now c.lock-turn.ensures.seen (c.book.ensures.value ∙ c.lock-turn.ensures.list) c.args.clock.now c.take-result.new.clock c.take-result.new.self c.finish.new.seat
    c.requires.idle c.requires.thread c.finish.ensures.entered c.take-result.ensures.legal c.args.n c.take-result.result c.take-result.ensures.waits c.finish.ensures.same c.requires.own
