-- Main sends to that looper or does nothing, and the run goes on.
use Rattle.std.proofs.Common.{◌≡◌, ◌≢◌, Bor, Option, None, List, [], refl, sym, subst, ◌∙◌}
use Rattle.std.specs.Prelude.{option_map}
use Rattle.std.proofs.lemmas.List.{length-set}
use Rattle.ak_message.specs.declared.message.Message.{Message}
use Rattle.ak_messenger.specs.Sends.{post_event}
use Rattle.ak_diary.specs.Step.{Step}
use Rattle.ak_run.specs.declared.answers.LaunchAnswer.TheVariants as answer
use Rattle.ak_run.specs.Entering.{AreAtPorts, GreetsSo}
use Rattle.ak_team.specs.Greeting.{arguments_told, from_main}
use Rattle.ak_team.proofs.Surface.{may_post, told_fits}
use Rattle.ak_run.proofs.Calls.{does_same, goes_same, main_has, one_goes, port_alone, seats_of}
use Rattle.ak_run.proofs.GoingOn.{still_running}
use Rattle.ak_run.proofs.PortsAtStart.{sends_each}
use Rattle.ak_run.proofs.LaunchAnswers.{does_as}
use Rattle.ak_run.proofs.Standing.{same_book}
use Rattle.ak_run.proofs.run.Run.greet_again.Goals as goal

pub send-requires : goal.send-requires
send-requires g c =
    let r = c.args.self.now in
    let running = c.requires.running in
    record { thread = main_has _ running.heads r c.args.first c.index_mut.result.now c.requires.there (sym c.index_mut.ensures.value) running.stands ∙ sym r.main }

pub returns-in_default-send : goal.returns-in_default-send
returns-in_default-send g c =
    let r = c.args.self.now in
    let m = c.index_mut.result.now in
    let door = c.send.new.door in
    let main = main_has _ c.requires.running.heads r c.args.first m c.requires.there (sym c.index_mut.ensures.value) c.requires.running.stands in
    let alone = port_alone c.args.first r.hands.clock.time c.send.new.hands.clock.time r.hands.book_seat _ _ _ c.send.ensures.book_seat (c.send.ensures.adds main) in
    let fits = told_fits c.in-Some.message.now c.in_default-send.ensures.fits in
    record {
      answer = subst (λ (o : Option (Bor Message)). arguments_told (option_map (λ (b : Bor Message). b.now) o) ≢ []) (sym c.in-Some.is) (λ none. let bad = sym fits ∙ none in absurd (cc bad));
      did = does_as r _ c.args.first m door c.requires.there (sym c.index_mut.ensures.value) refl refl (λ steps. steps ≡ []) None (seats_of m.door door c.send.ensures.door).desk_front main tt c.in_default-send.ensures.unsent c.send.ensures.book_seat (λ steps none. none);
      running = still_running r _ (one_goes r _ c.args.first m door c.requires.there (sym c.index_mut.ensures.value) refl refl AreAtPorts (seats_of m.door door c.send.ensures.door) refl (record { apps = refl; shared = refl; joined = refl; ports = refl; desks = refl; slots = refl }) (same_book r _ c.send.ensures.book_seat) alone) c.requires.running;
      apps = refl;
      slots = refl;
      count = length-set r.members.items c.args.first _;
    }

pub returns-in-Ok : goal.returns-in-Ok
returns-in-Ok g c =
    let r = c.args.self.now in
    let m = c.index_mut.result.now in
    let door = c.send.new.door in
    let main = main_has _ c.requires.running.heads r c.args.first m c.requires.there (sym c.index_mut.ensures.value) c.requires.running.stands in
    let message = c.in-Some.message.now in
    let sent = c.in-Ok.ensures.sent in
    let greets : Option (Bor Message) → List Step → Type 0 = λ (o : Option (Bor Message)) (steps : List Step). GreetsSo c.args.first (option_map (λ (b : Bor Message). b.now) o) (answer.Running c.args.team c.last_place-place.result) steps in
    let e = post_event from_main message sent.sent in
    record {
      answer = (refl, c.last_place-place.ensures);
      did = does_as r _ c.args.first m door c.requires.there (sym c.index_mut.ensures.value) refl refl (greets c.args.arguments) e (seats_of m.door door c.send.ensures.door).desk_front main (may_post from_main message sent.sent) sent.answered c.send.ensures.book_seat
          (λ steps entered. subst (λ (o : Option (Bor Message)). greets o steps) (sym c.in-Some.is) (sends_each c.args.first message _ steps sent.sent entered sent.too_long sent.not_blocked sent.not_wanting));
      running = still_running r _ (one_goes r _ c.args.first m door c.requires.there (sym c.index_mut.ensures.value) refl refl AreAtPorts (seats_of m.door door c.send.ensures.door) refl (record { apps = refl; shared = refl; joined = refl; ports = refl; desks = refl; slots = refl }) (same_book r _ c.send.ensures.book_seat)
          (port_alone c.args.first r.hands.clock.time c.send.new.hands.clock.time r.hands.book_seat _ _ _ c.send.ensures.book_seat (c.send.ensures.adds main))) c.requires.running;
      apps = refl;
      slots = refl;
      count = length-set r.members.items c.args.first _;
    }

pub returns-in_default : goal.returns-in_default
returns-in_default g c =
    let r = c.args.self.now in
    let greets : Option (Bor Message) → List Step → Type 0 = λ (o : Option (Bor Message)) (steps : List Step). GreetsSo c.args.first (option_map (λ (b : Bor Message). b.now) o) (answer.Running c.args.team c.last_place-place.result) steps in
    record {
      answer = (refl, c.last_place-place.ensures);
      did = does_same (greets c.args.arguments) r _ (subst (λ (o : Option (Bor Message)). greets o []) (sym c.in_default.is) refl) refl refl refl refl;
      running = still_running r _ (goes_same r _ (record { apps = refl; shared = refl; joined = refl; ports = refl; desks = refl; slots = refl }) refl refl refl refl) c.requires.running;
      apps = refl;
      slots = refl;
      count = refl;
    }
