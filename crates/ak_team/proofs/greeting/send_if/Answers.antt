-- What is sent is told.
use Rattle.std.proofs.Common.{Bor, Option, [], ◌∷◌, sym, subst, arith}
use Rattle.std.specs.Prelude.{OnOk, option_map}
use Rattle.ak_message.specs.declared.message.Message.{Message}
use Rattle.ak_team.specs.Greeting.{HasSent, IsAlone, arguments_told, items_told, made_event, written_from}
use Rattle.ak_team.proofs.Adding.{adds_nothing}
use Rattle.ak_team.proofs.NewPorts.{on_ok, sends_alone}
use Rattle.ak_team.proofs.greeting.send_if.Goals as goal

pub returns-in-Some-clause-told : goal.returns-in-Some-clause-told
returns-in-Some-clause-told g c capacity room alone =
    let m = c.in-Some.message.now in
    let before = c.args.door.now.port_seat in
    let after = c.send.new.door.port_seat in
    subst (λ (o : Option (Bor Message)). OnOk c.send.result (IsAlone (made_event capacity ∷ written_from 0 (arguments_told (option_map (λ (b : Bor Message). b.now) o))) after)) (sym c.in-Some.is)
    (on_ok (HasSent m c.args.hands.now.clock c.send.new.hands.clock before after) (IsAlone (made_event capacity ∷ written_from 0 (items_told m)) after) c.send.result
    (λ sent. sends_alone m capacity c.args.hands.now.clock c.send.new.hands.clock before after c.send.ensures.door.port_seat c.send.ensures.door.known [] (omega arith) sent alone) c.send.ensures.sent)

-- nothing was sent
pub returns-in-None-clause-adds : goal.returns-in-None-clause-adds
returns-in-None-clause-adds g c = λ main. adds_nothing c.args.hands.now.clock.time c.args.door.now.port_seat.front
