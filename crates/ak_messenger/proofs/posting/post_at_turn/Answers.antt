use Rattle.std.proofs.Common.{Option, None, refl, sym, ap, ◌∙◌, subst}
use Rattle.ak_flatten.specs.declared.item.Duty.{Duty}
use Rattle.ak_port.specs.declared.port_entry.PortEvent.{PortEvent}
use Rattle.ak_port.specs.PortCalls.{HasAnsweredAtTurn}
use Rattle.ak_port.proofs.Surface.{kept_at_turn, can_after_turn}
use Rattle.ak_messenger.specs.Sends.{item_in}
use Rattle.ak_messenger.proofs.Sending.{posted_entry}
use Rattle.ak_messenger.proofs.posting.post_at_turn.Goals as goal

-- the entry is that of its write
pub returns-in-Ok-clause-answered : goal.returns-in-Ok-clause-answered
returns-in-Ok-clause-answered c =
    let item = c.in-Ok.ensures.ok ∙ ap (λ (d : Duty). item_in c.args.envelope d c.args.message.now) c.duty.ensures in
    let entry = posted_entry c.write_at_turn.result c.in-Ok.item c.args.envelope c.args.message.now c.posted.result c.posted.ensures item in
    subst (λ (e : Option PortEvent). HasAnsweredAtTurn e c.args.clock.now c.write_at_turn.new.clock c.args.seat.now c.write_at_turn.new.seat) (sym entry) c.write_at_turn.ensures.answered

-- the turn was passed on without an entry
pub returns-in-Err-clause-taking : goal.returns-in-Err-clause-taking
returns-in-Err-clause-taking c = can_after_turn None c.args.clock.now c.args.clock.now _ _ tt (c.pass_on.ensures.after, refl) c.pass_on.ensures.port

pub returns-in-Err-clause-taken : goal.returns-in-Err-clause-taken
returns-in-Err-clause-taken c = kept_at_turn None c.args.clock.now c.args.clock.now _ _ (c.pass_on.ensures.after, refl) tt c.pass_on.ensures.port
