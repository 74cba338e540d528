use Rattle.std.proofs.Common.{◌∙◌}
use Rattle.ak_port.specs.declared.reply_entry.ReplyEvent.TheVariants.{Cancelled}
use Rattle.ak_port.proofs.ReplyCalls.{cancels_at_turn, entered}
use Rattle.ak_port.proofs.reply_calls.cancel.Goals as goal

pub cancel-answer-requires-clause-own : goal.cancel-answer-requires-clause-own
cancel-answer-requires-clause-own g c =
    cancels_at_turn c.args.seat.now c.lock-turn.new.seat c.book.result.now c.lock-turn.ensures.seen (c.book.ensures.value ∙ c.lock-turn.ensures.list) _ c.args.n c.requires.thread c.requires.own

pub returns-clause-cancelled : goal.returns-clause-cancelled
returns-clause-cancelled g c is =
    entered c.args.seat.now c.lock-turn.new.seat c.book.result.now c.lock-turn.ensures.seen (c.book.ensures.value ∙ c.lock-turn.ensures.list) c.args.clock.now c.cancel-answer.new.clock c.cancel-answer.new.self c.finish.new.seat
    c.requires.idle c.requires.thread c.finish.ensures.entered c.cancel-answer.ensures.legal (Cancelled c.args.n) (c.cancel-answer.ensures.cancelled is) (c.cancel-answer.ensures.clock is)
