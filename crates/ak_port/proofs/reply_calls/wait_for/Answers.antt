use Rattle.ak_port.specs.declared.reply_entry.ReplyEvent.TheVariants.{Taken}
use Rattle.ak_port.proofs.ReplyCalls.{seen_then_entered}
use Rattle.ak_port.proofs.reply_calls.wait_for.Goals as goal

pub returns-in-Some-try_take-clause-taken : goal.returns-in-Some-try_take-clause-taken
returns-in-Some-try_take-clause-taken g c =
    seen_then_entered (Taken c.args.n) c.args.clock.now c.loop.clock c.try_take.new.clock c.args.seat.now c.loop.seat c.try_take.new.seat c.loop.invariant.seen c.loop.invariant.clock c.in-Some-try_take.ensures.taken
