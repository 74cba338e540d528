-- A dispatch's wants leave a looper's thread to do what it had, and there is a reply; or the item was sent on, its duty went along, and nothing is replied.
use Rattle.std.proofs.Common.{◌≡◌, ◌∙◌, ◌⊎◌, ℕ, ◌+◌, ◌<◌, true, false, List, [], ◌∷◌, ◌++◌, Option, None, refl, sym, ap, subst, append-nil, inr, ⊎_elim}
use Rattle.std.specs.Prelude.{option_map}
use Rattle.ak_message.specs.Message.{MessageData}
use Rattle.ak_flatten.specs.declared.item.Duty.{Duty}
use Rattle.ak_flatten.specs.declared.item.Duty.TheVariants as duty
use Rattle.ak_flatten.specs.declared.item.Taken.{Taken}
use Rattle.ak_flatten.specs.Item.{ItemData}
use Rattle.ak_turn.specs.Noted.{Noted}
use Rattle.ak_port.specs.declared.port_entry.PortEvent.{PortEvent}
use Rattle.ak_port.specs.declared.port_entry.PortEvent.TheVariants as event
use Rattle.ak_route.specs.declared.outcome.Route.{Route}
use Rattle.ak_route.specs.declared.outcome.Route.TheVariants as route
use Rattle.ak_action.specs.declared.answer.Answer.{Answer}
use Rattle.ak_action.specs.declared.answer.Answer.TheVariants as answer
use Rattle.ak_action.specs.declared.answer.Want.{Want}
use Rattle.ak_action.specs.declared.state.DeskState.{DeskState}
use Rattle.ak_desk.specs.declared.made.Made.{Made}
use Rattle.ak_desk.specs.Dispatch.{by_route, dispatch_of, fitting, forward_reply}
use Rattle.ak_desk.specs.Entry.{EntryData}
use Rattle.ak_desk.specs.Place.{routed_of}
use Rattle.ak_desk.specs.Replies.{none_reply}
use Rattle.ak_diary.specs.Looper.{LooperFacts, thread_of}
use Rattle.ak_diary.specs.Step.{Step, at_port, book_sights}
use Rattle.ak_diary.specs.Turns.{Carried, GivenUp}
use Rattle.ak_diary.specs.Wants.{EntersPort, ForwardsSo, LacksDoor, ServesAll, Through, ThroughDoor, forwarded_item}
use Rattle.ak_headline.proofs.Surface.{IsNoForward, IsReplied, has_reply, wants_are_own}
use Rattle.ak_world.specs.World.{Held, held, settled}
use Rattle.ak_sequence.proofs.Doing.{Doing, DoesAll, WritesIt}
use Rattle.ak_sequence.proofs.Parts as parts
use Rattle.ak_sequence.proofs.Parts.{ServedTo, kept, sent_on}
use Rattle.ak_sequence.proofs.Popped.{popped_past}
use Rattle.ak_sequence.proofs.Served.{Idles, Stays, port_does, stays_enters, stays_none, stays_opens, stays_serves_all, stays_through, unseen_both}
use Rattle.ak_sequence.proofs.Steps.{does_append}

module _ (short : List ℕ) (openings : ℕ → DeskState) (l : LooperFacts) (taken : Taken) (others : List Held) where
  -- what is served goes from what the thread has to do to that, where the item is the oldest in its hand
  abbrev ServesTo : Option MessageData → List Step → Type 0
  ServesTo reply served =
      book_sights served ≡ [] → (d : Doing) → d.asking ≡ None → d.work.hand ≡ held taken ∷ others
      → (d' : Doing) × DoesAll short openings (thread_of l) d served d' × ServedTo taken others reply d d'

  stays_so : (reply : Option MessageData) (served : List Step) → IsReplied reply → Stays short openings (thread_of l) served → ServesTo reply served
  stays_so reply served replied stays unseen d none hand = (d, stays unseen d none, kept refl (λ n owes. (replied.message, replied.is)))

  -- ---- it is sent on
  module _ (popped : ℕ) (more : taken.item.popped < popped) where
    abbrev sent : ItemData
    sent = forwarded_item taken.item popped

    writes_on : (d : Doing) → d.work.hand ≡ held taken ∷ others → (owed : Duty) → taken.item.duty ≡ owed
        → (d' : Doing) × WritesIt short openings (thread_of l) d sent owed d' × ServedTo taken others None d d'
    writes_on d hand duty.None owes = (d, refl, kept refl (λ n e. let never : duty.None ≡ duty.Slot n = sym owes ∙ e in absurd (cc never)))
    writes_on d hand (duty.Back to) owes = (d, refl, kept refl (λ n e. let never : duty.Back to ≡ duty.Slot n = sym owes ∙ e in absurd (cc never)))
    writes_on d hand (duty.Slot n) owes =
        let after : Doing = record d { work = record d.work { hand = settled (held taken) ∷ others } } in (
          after,
          inr (record { looper = l.number; is_by = refl; first = held taken; others = others; oldest = hand; owes = owes; popped = popped; more = more; item_is = refl; after = refl }),
          sent_on refl refl,
        )

    on_through : (so_far : List Step) (looper position : ℕ) (steps : List Step) → Through l so_far looper (EntersPort looper (event.Written position sent)) steps → ServesTo None steps
    on_through so_far looper position steps t unseen d none hand =
        let x = t.then_does.noted in
        let door_unseen = (unseen_both t.door t.rest (subst (λ (k : List Step). book_sights k ≡ []) t.is unseen)).0 in
        let writes = writes_on d hand taken.item.duty refl in
        let enters : DoesAll short openings (thread_of l) d (at_port looper x ∷ []) writes.0 =
        (writes.0, port_does short openings (thread_of l) looper x (event.Written position sent) d writes.0 t.then_does.event_is writes.1, refl) in (
          writes.0,
          subst (λ (k : List Step). DoesAll short openings (thread_of l) d k writes.0) (sym (t.is ∙ ap (λ k. t.door ++ k) t.then_does.is))
              (does_append short openings (thread_of l) t.door (at_port looper x ∷ []) d d writes.0 (stays_opens short openings (thread_of l) l so_far looper t.door t.opens door_unseen d none) enters),
          writes.2,
        )

    -- or it is not written, and there is a reply
    refused_serves : (so_far : List Step) (looper : ℕ) (e : PortEvent) (reply : Option MessageData) (served : List Step) → Idles short openings (thread_of l) e → IsReplied reply
        → Through l so_far looper (EntersPort looper e) served → ServesTo reply served
    refused_serves so_far looper e reply served idle replied t =
        stays_so reply served replied
        (stays_through short openings (thread_of l) l so_far looper (EntersPort looper e) served (λ rest p. stays_enters short openings (thread_of l) looper e rest idle p) t)

    lacking_serves : (so_far : List Step) (looper : ℕ) (reply : Option MessageData) (served : List Step) → IsReplied reply
        → LacksDoor l so_far looper served ⊎ Through l so_far looper (λ rest. rest ≡ []) served → ServesTo reply served
    lacking_serves so_far looper reply served replied lacks =
        stays_so reply served replied
        (⊎_elim (λ (t : LacksDoor l so_far looper served). stays_none short openings (thread_of l) served t.is)
        (λ (t : Through l so_far looper (λ rest. rest ≡ []) served).
        stays_through short openings (thread_of l) l so_far looper (λ rest. rest ≡ []) served (λ rest is. stays_none short openings (thread_of l) rest is) t) lacks)

    forward_serves : (so_far : List Step) (looper : ℕ) (a : Answer) (served : List Step) → ThroughDoor l so_far looper a (ForwardsSo looper sent a) served → ServesTo (forward_reply a) served
    forward_serves so_far looper (answer.Written position) served d = on_through so_far looper position served d
    forward_serves so_far looper answer.Closed served d = refused_serves so_far looper event.Refused _ served (λ at before k. refl) (record { message = _; is = refl }) d
    forward_serves so_far looper answer.Spent served d = refused_serves so_far looper event.Spent _ served (λ at before k. refl) (record { message = _; is = refl }) d
    forward_serves so_far looper answer.NoMemory served d = lacking_serves so_far looper _ served (record { message = _; is = refl }) d
    forward_serves so_far looper answer.Full served d = absurd d.then_does
    forward_serves so_far looper answer.TooLong served d = absurd d.then_does
    forward_serves so_far looper (answer.Team team first) served d = absurd d.then_does
    forward_serves so_far looper answer.NoTeam served d = absurd d.then_does
    forward_serves so_far looper (answer.Reply flat m) served d = absurd d.then_does

  -- ---- by its route
  module _ (so_far : List Step) (s : DeskState) (m : MessageData) (memory : Option ℕ) (served : List Step) where
    abbrev ServesBy : Route → List Answer → Type 0
    ServesBy r answers = ServesAll l so_far taken.item (by_route s m r answers memory).wants answers served

    own_serves : (r : Route) (answers : List Answer) → IsNoForward r → ServesBy r answers → ServesTo (by_route s m r answers memory).reply served
    own_serves r answers none serves =
        stays_so _ served (has_reply s m r answers memory none)
        (stays_serves_all short openings (thread_of l) l so_far taken.item (by_route s m r answers memory).wants answers served (wants_are_own s m r answers memory none) serves)

    route_serves : (r : Route) (answers : List Answer) → ((i : ℕ) → r ≡ route.Forward i → taken.item.popped < m.popped) → (by_route s m r answers memory).waits ≡ false → ServesBy r answers
        → ServesTo (by_route s m r answers memory).reply served
    route_serves (route.Deliver token t) answers more waits serves = own_serves (route.Deliver token t) answers tt serves
    route_serves route.Skipped answers more waits serves = own_serves route.Skipped answers tt serves
    route_serves route.Dropped answers more waits serves = own_serves route.Dropped answers tt serves
    route_serves route.NotUnderstood answers more waits serves = own_serves route.NotUnderstood answers tt serves
    route_serves (route.Forward place) [] more waits serves =
        let never : true ≡ false = waits in
        absurd cc
    route_serves (route.Forward place) (a ∷ []) more waits serves =
        subst (ServesTo (forward_reply a)) (sym (serves.4 ∙ ap (λ k. serves.0 ++ k) serves.3 ∙ append-nil serves.0))
        (forward_serves m.popped (more place refl) so_far (s.first + place) a serves.0 serves.2)
    route_serves (route.Forward place) (a ∷ b ∷ rest) more waits serves = absurd serves.3

  -- ---- as the looper tells it
  fitting_served : (reply : Option MessageData) (d d' : Doing) → ServedTo taken others reply d d' → ServedTo taken others (option_map fitting reply) d d'
  fitting_served reply d d' (kept is replied) = kept is (λ n owes. let some = replied n owes in (fitting some.0, ap (option_map fitting) some.1))
  fitting_served reply d d' (sent_on none is) = sent_on (ap (option_map fitting) none) is

  fitting_serves : (reply : Option MessageData) (served : List Step) → ServesTo reply served → ServesTo (option_map fitting reply) served
  fitting_serves reply served to unseen d none hand =
      let it = to unseen d none hand in
      (it.0, it.1, fitting_served reply d it.0 it.2)

  module _ (so_far : List Step) (asked : List Want) (heard : List Answer) (made : Made) (x : Noted EntryData) (served : List Step) (serves : ServesAll l so_far taken.item asked heard served) where
    carried_serves : Carried l.desk taken asked heard made x → ServesTo made.reply served
    carried_serves c =
        let h = c.dispatched in
        let r = routed_of c.before taken.item in
        let p = dispatch_of c.before taken.item h.dispatch.answers h.dispatch.memory in
        let so : ServesAll l so_far taken.item p.wants h.dispatch.answers served =
        subst (λ (k : List Want). ServesAll l so_far taken.item k h.dispatch.answers served) (sym h.asked_are) (subst (λ (k : List Answer). ServesAll l so_far taken.item asked k served) (sym h.heard_are) serves) in
        let to = route_serves so_far c.before r.message h.dispatch.memory served r.route h.dispatch.answers (λ i e. popped_past c.before taken.item i e) h.dispatch.waits so in
        let replied : option_map fitting p.reply ≡ made.reply = ap (option_map fitting) h.told ∙ sym (ap (λ (k : Made). k.reply) h.made_is) in
        subst (λ (k : Option MessageData). ServesTo k served) replied (fitting_serves p.reply served to)

    given_up_serves : GivenUp l.desk taken asked heard made x → ServesTo made.reply served
    given_up_serves g =
        let none : served ≡ [] =
        subst (λ (k : List Want). ServesAll l so_far taken.item k [] served) g.asked_none (subst (λ (k : List Answer). ServesAll l so_far taken.item asked k served) g.heard_none serves) in
        stays_so made.reply served (record { message = none_reply; is = ap (λ (k : Made). k.reply) g.given_up.made_is }) (stays_none short openings (thread_of l) served none)

pub serving : parts.Serving
serving short openings l so_far taken asked heard made x served serves comes unseen others d none hand =
    ⊎_elim
    (λ (c : Carried l.desk taken asked heard made x). carried_serves short openings l taken others so_far asked heard made x served serves c unseen d none hand)
    (λ (g : GivenUp l.desk taken asked heard made x). given_up_serves short openings l taken others so_far asked heard made x served serves g unseen d none hand) comes
