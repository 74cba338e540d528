use Rattle.std.proofs.Common.{ℕ, List, Option, Ok, ap, subst}
use Rattle.std.specs.Prelude.{unwrap_or}
use Rattle.ak_port.specs.declared.reply_entry.ReplyEvent.TheVariants.{Filled}
use Rattle.ak_port.specs.Reply.{none_text}
use Rattle.ak_port.specs.ReplySeats.{HasEnteredBook}
use Rattle.ak_port.proofs.ReplyCalls.{seen_then_entered}
use Rattle.ak_port.proofs.reply_calls.fill_in.Goals as goal

pub returns-in-Ok-clause-filled : goal.returns-in-Ok-clause-filled
returns-in-Ok-clause-filled g c is =
    seen_then_entered (Filled c.args.n (unwrap_or c.args.flat none_text)) c.args.clock.now c.loop.clock c.try_fill.new.clock c.args.seat.now c.loop.seat c.try_fill.new.seat c.loop.invariant.seen c.loop.invariant.clock
    (subst (λ (flat : Option (List ℕ)). HasEnteredBook c.loop.clock c.try_fill.new.clock (Filled c.args.n (unwrap_or flat none_text)) c.loop.seat c.try_fill.new.seat) c.loop.invariant.text (c.in-Ok.ensures.filled (ap Ok is)))
