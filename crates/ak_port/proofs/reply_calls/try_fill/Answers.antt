use Rattle.std.proofs.Common.{◌∙◌}
use Rattle.std.specs.Prelude.{unwrap_or}
use Rattle.ak_port.specs.declared.reply_entry.ReplyEvent.TheVariants.{Filled}
use Rattle.ak_port.specs.Reply.{none_text}
use Rattle.ak_port.proofs.ReplyCalls.{entered}
use Rattle.ak_port.proofs.reply_calls.try_fill.Goals as goal

pub returns-clause-filled : goal.returns-clause-filled
returns-clause-filled g c is =
    entered c.args.seat.now c.lock-turn.new.seat c.book.result.now c.lock-turn.ensures.seen (c.book.ensures.value ∙ c.lock-turn.ensures.list) c.args.clock.now c.fill-result.new.clock c.fill-result.new.self c.finish.new.seat
    c.requires.idle c.requires.thread c.finish.ensures.entered c.fill-result.ensures.legal (Filled c.args.n (unwrap_or c.args.flat none_text)) (c.fill-result.ensures.filled is) (c.fill-result.ensures.clock is)
