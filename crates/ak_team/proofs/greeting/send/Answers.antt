-- One post leaves main's door as it was, and is an act of main's, whatever the port answers.
use Rattle.std.proofs.Common.{◌<◌, None, length, refl, subst}
use Rattle.std.specs.Prelude.{IsErrOf}
use Rattle.ak_flatten.specs.Limits.{flat_limit}
use Rattle.ak_flatten.specs.Spelling.{spelling}
use Rattle.ak_port.specs.PortCalls.{HasAnswered}
use Rattle.ak_messenger.specs.Sends.{post_event}
use Rattle.ak_messenger.specs.declared.fault.SendFault.TheVariants as fault
use Rattle.ak_team.specs.Greeting.{HasSent, from_main}
use Rattle.ak_team.proofs.Adding.{adds_by, may_post}
use Rattle.ak_team.proofs.NewPorts.{no_entry, on_err, on_ok, short_of_memory}
use Rattle.ak_team.proofs.greeting.send.Goals as goal

pub returns-clause-door : goal.returns-clause-door
returns-clause-door g c = record {
  port = refl;
  desk = refl;
  port_seat = c.post.ensures.seat;
  desk_seat = refl;
  known = c.post.ensures.knows_still;
  taking = c.post.ensures.taking;
}

pub returns-clause-sent : goal.returns-clause-sent
returns-clause-sent g c =
    on_ok (IsErrOf c.post.result fault.NoMemory → ⊥) (HasSent c.args.message.now c.args.hands.now.clock c.post.new.hands.clock c.args.door.now.port_seat c.post.new.seat) c.unless_memory_ran_out.result
    (λ none. record { sent = c.post.result; answered = c.post.ensures.answered; too_long = c.post.ensures.too_long; not_blocked = c.post.ensures.not_blocked; not_wanting = none; at_port = c.post.ensures.at_port }) c.unless_memory_ran_out.ensures.sent

pub returns-clause-unsent : goal.returns-clause-unsent
returns-clause-unsent g c =
    on_err (IsErrOf c.post.result fault.NoMemory) (HasAnswered None c.args.hands.now.clock c.post.new.hands.clock c.args.door.now.port_seat c.post.new.seat) c.unless_memory_ran_out.result
    (λ wanting. subst (λ e. HasAnswered e c.args.hands.now.clock c.post.new.hands.clock c.args.door.now.port_seat c.post.new.seat) (no_entry from_main c.args.message.now c.post.result wanting) c.post.ensures.answered) c.unless_memory_ran_out.ensures.wanting

pub returns-clause-fits : goal.returns-clause-fits
returns-clause-fits g c =
    on_err (IsErrOf c.post.result fault.NoMemory) (¬ (flat_limit < length (spelling c.args.message.now))) c.unless_memory_ran_out.result
    (λ wanting. short_of_memory c.args.message.now c.post.result wanting c.post.ensures.too_long) c.unless_memory_ran_out.ensures.wanting

pub returns-clause-adds : goal.returns-clause-adds
returns-clause-adds g c = λ main. adds_by (post_event from_main c.args.message.now c.post.result) c.args.hands.now.clock c.post.new.hands.clock c.args.door.now.port_seat c.post.new.seat main (may_post from_main c.args.message.now c.post.result) c.post.ensures.answered
