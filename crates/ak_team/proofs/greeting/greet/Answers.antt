-- One message after the other leaves main's door as one does, and each is told.
use Rattle.std.proofs.Common.{Bor, Option, subst, ◌∙◌}
use Rattle.std.specs.Prelude.{option_map}
use Rattle.ak_message.specs.declared.message.Message.{Message}
use Rattle.ak_message.specs.Message.{MessageData}
use Rattle.ak_team.specs.Greeting.{HasSent, arguments_told, ready_message}
use Rattle.ak_team.proofs.NewPorts.{on_ok, sends_alone, told_few}
use Rattle.ak_team.proofs.Adding.{adds_then}
use Rattle.ak_team.proofs.NewDoors.{keeps_then_keeps}
use Rattle.ak_team.proofs.greeting.greet.Goals as goal

pub returns-clause-door : goal.returns-clause-door
returns-clause-door g c = keeps_then_keeps _ _ _ c.send_if.ensures.door c.send.ensures.door

pub returns-clause-told : goal.returns-clause-told
returns-clause-told g c capacity room alone =
    let arguments : Option MessageData = option_map (λ (b : Bor Message). b.now) c.args.arguments in
    let clock = c.send_if.new.hands.clock in
    let later = c.send.new.hands.clock in
    let before = c.send_if.new.door.port_seat in
    let after = c.send.new.door.port_seat in
    on_ok (HasSent c.new-ready.result clock later before after) _ c.send.result
    (λ sent. sends_alone ready_message capacity clock later before after c.send.ensures.door.port_seat c.send.ensures.door.known (arguments_told arguments) (told_few arguments)
    (subst (λ (m : MessageData). HasSent m clock later before after) c.new-ready.ensures sent) (c.in_ok-send_if.ensures.told capacity room alone)) c.send.ensures.sent

pub returns-clause-adds : goal.returns-clause-adds
returns-clause-adds g c = λ main. adds_then _ _ _ _ _ _ (c.send_if.ensures.adds main) (c.send.ensures.adds (c.send_if.ensures.door.port_seat.thread ∙ main))
