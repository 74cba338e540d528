-- What a dispatched message comes to: it was sent on, to a later looper, and nothing is replied; or there is a reply, and no item was written that owes what it owes.
use Rattle.std.proofs.Common.{◌≡◌, ℕ, ◌+◌, ◌≤◌, Bool, true, false, List, [], ◌∷◌, ◌++◌, Option, None, Some, refl, sym, ap, ◌∙◌, subst, append-nil, ⊎_elim}
use Rattle.std.specs.Prelude.{option_map, slice_get}
use Rattle.std.proofs.lemmas.Bool.{false≢true}
use Rattle.ak_base.specs.declared.error.KitError.TheVariants as error
use Rattle.ak_message.specs.Message.{MessageData}
use Rattle.ak_flatten.specs.Item.{ItemData}
use Rattle.ak_flatten.specs.declared.item.Taken.{Taken}
use Rattle.ak_turn.specs.Noted.{Noted}
use Rattle.ak_port.specs.declared.port_entry.PortEntry.{PortEntry}
use Rattle.ak_port.specs.declared.port_entry.PortEvent.TheVariants as event
use Rattle.ak_route.specs.Laws.{ResolvingOnlyPops}
use Rattle.ak_route.specs.declared.outcome.Route.{Route}
use Rattle.ak_route.specs.declared.outcome.Route.TheVariants as route
use Rattle.ak_action.specs.declared.answer.Answer.{Answer}
use Rattle.ak_action.specs.declared.answer.Answer.TheVariants as answer
use Rattle.ak_action.specs.declared.answer.AnswerWord.{AnswerWord}
use Rattle.ak_action.specs.declared.answer.AnswerWord.TheVariants as word
use Rattle.ak_action.specs.declared.answer.Want.{Want}
use Rattle.ak_action.specs.declared.state.DeskState.{DeskState}
use Rattle.ak_action.specs.Acts.{error_of}
use Rattle.ak_desk.specs.declared.entry.DeskEvent.{DeskEvent}
use Rattle.ak_desk.specs.declared.entry.DeskEvent.TheVariants as desk_event
use Rattle.ak_desk.specs.declared.entry.EntryRoute.TheVariants as went
use Rattle.ak_desk.specs.declared.made.Made.{Made}
use Rattle.ak_desk.specs.Desk.{dispatched_entry, given_up_entry}
use Rattle.ak_desk.specs.Dispatch.{by_route, dispatch_of, entry_route, fitting, forward_reply}
use Rattle.ak_desk.specs.Entry.{EntryData}
use Rattle.ak_desk.specs.Machine.{IsHistory}
use Rattle.ak_desk.specs.Place.{routed_of}
use Rattle.ak_desk.specs.Replies.{none_reply}
use Rattle.ak_diary.specs.Looper.{LooperFacts}
use Rattle.ak_diary.specs.Step.{Step, at_port}
use Rattle.ak_diary.specs.Turns.{Carried, ComesTo, GivenUp}
use Rattle.ak_diary.specs.Wants as wants
use Rattle.ak_diary.specs.Wants.{EntersPort, ForwardsSo, ServesAll, Through, ThroughDoor, forwarded_item}
use Rattle.ak_diary.proofs.Surface.{DispatchesIt, comes_to_it}
use Rattle.ak_headline.specs.Answers.{owes}
use Rattle.ak_headline.specs.Sends.{sent_to}
use Rattle.ak_headline.specs.Tally.{owes_at, owes_entry, owes_event, owes_listed, sent_on_event, was_sent_on, writes_owing}
use Rattle.ak_headline.proofs.Counting.{Adds, add_as, add_before, add_empty, add_sent_on, bit}
use Rattle.ak_headline.proofs.Later.{pops_more}
use Rattle.ak_headline.proofs.Lists.{same_last}
use Rattle.ak_headline.proofs.OwnWants.{IsNoForward, IsReplied, has_reply, wants_are_own}
use Rattle.ak_headline.proofs.Wanting.{add_enters, add_opens, add_serves_all, add_through}

module _ (Below : ℕ → Type 0) (n : ℕ) where
  -- the item was written at the port of a looper that is not below, as it is but for its target and what is popped
  pub record WroteOn (item : ItemData) (e : DeskEvent) (served : List Step) : Type 0 where
    pub door : List Step
    pub looper : ℕ
    pub x : Noted PortEntry
    pub is : served ≡ door ++ at_port looper x ∷ []
    pub door_adds : Adds Below n 0 0 door
    pub above : Below looper → ⊥
    pub to_it : sent_to e ≡ Some looper
    pub position : ℕ
    pub popped : ℕ
    pub more : ResolvingOnlyPops → item.popped ≤ popped
    pub written_is : x.entry.event ≡ event.Written position (forwarded_item item popped)

  -- what a dispatch comes to, whose event tells whether the message was sent on
  pub data Goes (item : ItemData) (e : DeskEvent) (reply : Option MessageData) (served : List Step) : Type 0 where
    on : sent_on_event e ≡ true → reply ≡ None → Adds Below n (bit (owes n item.duty)) 0 served → WroteOn item e served → Goes item e reply served
    stays : sent_on_event e ≡ false → IsReplied reply → Adds Below n 0 0 served → Goes item e reply served

  module _ (l : LooperFacts) (so_far : List Step) (item : ItemData) where
    -- ---- it is sent on
    on_through : (looper popped position : ℕ) (steps : List Step) → (Below looper → ⊥) → Through l so_far looper (EntersPort looper (event.Written position (forwarded_item item popped))) steps → Adds Below n (bit (owes n item.duty)) 0 steps
    on_through looper popped position steps apart t =
        let x = t.then_does.noted in
        add_before Below n (bit (owes n item.duty)) 0 t.door t.rest steps (add_opens Below n l so_far looper t.door t.opens)
        (add_as Below n (bit (owes n item.duty)) 0 t.rest (at_port looper x ∷ []) t.then_does.is
        (add_sent_on Below n looper x (owes n item.duty) (ap (writes_owing n) t.then_does.event_is) apart)) t.is

    wrote_on : (e : DeskEvent) (looper popped position : ℕ) (steps : List Step) → sent_to e ≡ Some looper → (Below looper → ⊥) → (ResolvingOnlyPops → item.popped ≤ popped)
        → Through l so_far looper (EntersPort looper (event.Written position (forwarded_item item popped))) steps → WroteOn item e steps
    wrote_on e looper popped position steps to_it apart more t = record {
      door = t.door;
      looper = looper;
      x = t.then_does.noted;
      is = t.is ∙ ap (λ k. t.door ++ k) t.then_does.is;
      door_adds = add_opens Below n l so_far looper t.door t.opens;
      above = apart;
      to_it = to_it;
      position = position;
      popped = popped;
      more = more;
      written_is = t.then_does.event_is;
    }

    forward_goes : (looper popped position : ℕ) (quit : Bool) (a : Answer) (served : List Step) → (Below looper → ⊥) → (ResolvingOnlyPops → item.popped ≤ popped) → ThroughDoor l so_far looper a (ForwardsSo looper (forwarded_item item popped) a) served
        → Goes item (desk_event.Dispatched position (went.Forward looper) (word.Error (error_of a) ∷ []) quit) (forward_reply a) served
    forward_goes looper popped position quit (answer.Written at) served apart more d = on refl refl (on_through looper popped at served apart d)
        (wrote_on (desk_event.Dispatched position (went.Forward looper) (word.Error error.Ok ∷ []) quit) looper popped at served refl apart more d)
    forward_goes looper popped position quit answer.Closed served apart more d =
        stays refl (record { message = _; is = refl }) (add_through Below n l so_far looper (EntersPort looper event.Refused) served (λ rest p. add_enters Below n looper event.Refused rest refl p) d)
    forward_goes looper popped position quit answer.Spent served apart more d =
        stays refl (record { message = _; is = refl }) (add_through Below n l so_far looper (EntersPort looper event.Spent) served (λ rest p. add_enters Below n looper event.Spent rest refl p) d)
    forward_goes looper popped position quit answer.NoMemory served apart more d =
        stays refl (record { message = _; is = refl })
        (⊎_elim (λ (t : wants.LacksDoor l so_far looper served). add_empty Below n served t.is)
        (λ (t : Through l so_far looper (λ rest. rest ≡ []) served). add_through Below n l so_far looper (λ rest. rest ≡ []) served (λ rest is. add_empty Below n rest is) t) d)
    forward_goes looper popped position quit answer.Full served apart more d = absurd d.then_does
    forward_goes looper popped position quit answer.TooLong served apart more d = absurd d.then_does
    forward_goes looper popped position quit (answer.Team team first) served apart more d = absurd d.then_does
    forward_goes looper popped position quit answer.NoTeam served apart more d = absurd d.then_does
    forward_goes looper popped position quit (answer.Reply flat m) served apart more d = absurd d.then_does

    -- ---- by its route
    module _ (s : DeskState) (m : MessageData) (memory : Option ℕ) (position : ℕ) (quit : Bool) (served : List Step) where
      abbrev GoesBy : Route → List Answer → Type 0
      GoesBy r answers = Goes item (desk_event.Dispatched position (entry_route s r) (by_route s m r answers memory).words quit) (by_route s m r answers memory).reply served

      abbrev ServesBy : Route → List Answer → Type 0
      ServesBy r answers = ServesAll l so_far item (by_route s m r answers memory).wants answers served

      replied_goes : (r : Route) (answers : List Answer) → IsNoForward r → ServesBy r answers → Adds Below n 0 0 served
      replied_goes r answers none serves = add_serves_all Below n l so_far item (by_route s m r answers memory).wants answers served (wants_are_own s m r answers memory none) serves

      route_goes : (r : Route) (answers : List Answer) → ((i : ℕ) → r ≡ route.Forward i → Below (s.first + i) → ⊥) → (ResolvingOnlyPops → item.popped ≤ m.popped) → (by_route s m r answers memory).waits ≡ false → ServesBy r answers → GoesBy r answers
      route_goes (route.Deliver token t) answers apart more waits serves = stays refl (has_reply s m (route.Deliver token t) answers memory tt) (replied_goes (route.Deliver token t) answers tt serves)
      route_goes route.Skipped answers apart more waits serves = stays refl (has_reply s m route.Skipped answers memory tt) (replied_goes route.Skipped answers tt serves)
      route_goes route.Dropped answers apart more waits serves = stays refl (has_reply s m route.Dropped answers memory tt) (replied_goes route.Dropped answers tt serves)
      route_goes route.NotUnderstood answers apart more waits serves = stays refl (has_reply s m route.NotUnderstood answers memory tt) (replied_goes route.NotUnderstood answers tt serves)
      route_goes (route.Forward place) [] apart more waits serves =
          let never : true ≡ false = waits in
          absurd cc
      route_goes (route.Forward place) (a ∷ []) apart more waits serves =
          subst (Goes item (desk_event.Dispatched position (went.Forward (s.first + place)) (word.Error (error_of a) ∷ []) quit) (forward_reply a))
          (sym (serves.4 ∙ ap (λ k. serves.0 ++ k) serves.3 ∙ append-nil serves.0))
          (forward_goes (s.first + place) m.popped position quit a serves.0 (apart place refl) more serves.2)
      route_goes (route.Forward place) (a ∷ b ∷ rest) apart more waits serves = absurd serves.3

    -- ---- as the looper tells it
    fitting_goes : (e : DeskEvent) (reply : Option MessageData) (served : List Step) → Goes item e reply served → Goes item e (option_map fitting reply) served
    fitting_goes e reply served (on is none adds wrote) = on is (ap (option_map fitting) none) adds wrote
    fitting_goes e reply served (stays is some adds) = stays is (record { message = fitting some.message; is = ap (option_map fitting) some.is }) adds

  module _ (l : LooperFacts) (so_far : List Step) (taken : Taken) (asked : List Want) (heard : List Answer) (made : Made) (x : Noted EntryData) (served : List Step) where
    -- it is sent on to loopers that are not below
    abbrev pub GoesLater : Type 0
    GoesLater = (s : DeskState) (i : ℕ) → IsHistory l.desk x.before s → (routed_of s taken.item).route ≡ route.Forward i → Below (s.first + i) → ⊥

    carried_goes : GoesLater → ServesAll l so_far taken.item asked heard served → Carried l.desk taken asked heard made x → Goes taken.item x.entry.plain.event made.reply served
    carried_goes later serves c =
        let d = c.dispatched in
        let is : x.entry ≡ dispatched_entry x.before c.clock taken.position taken.item c.before d.words d.quit = same_last x.before x.entry _ d.grown in
        let r = (routed_of c.before taken.item).route in
        let p = dispatch_of c.before taken.item d.dispatch.answers d.dispatch.memory in
        let so : ServesAll l so_far taken.item p.wants d.dispatch.answers served =
        subst (λ (k : List Want). ServesAll l so_far taken.item k d.dispatch.answers served) (sym d.asked_are) (subst (λ (k : List Answer). ServesAll l so_far taken.item asked k served) (sym d.heard_are) serves) in
        let goes = route_goes l so_far taken.item c.before (routed_of c.before taken.item).message d.dispatch.memory taken.position d.quit served r d.dispatch.answers (λ i e. later c.before i d.history e) (λ law. pops_more law c.before taken.item) d.dispatch.waits so in
        let event : DeskEvent = desk_event.Dispatched taken.position (entry_route c.before r) p.words d.quit in
        let told : event ≡ x.entry.plain.event =
        ap (λ (k : List AnswerWord). desk_event.Dispatched taken.position (entry_route c.before r) k d.quit) d.dispatch.words_are ∙ sym (ap (λ (e : EntryData). e.plain.event) is) in
        let replied : option_map fitting p.reply ≡ made.reply = ap (option_map fitting) d.told ∙ sym (ap (λ (k : Made). k.reply) d.made_is) in
        subst (λ (e : DeskEvent). Goes taken.item e made.reply served) told
        (subst (λ (k : Option MessageData). Goes taken.item event k served) replied (fitting_goes l so_far taken.item event p.reply served goes))

    nothing_served : (asked_is : asked ≡ []) (heard_is : heard ≡ []) → ServesAll l so_far taken.item asked heard served → served ≡ []
    nothing_served asked_is heard_is serves =
        subst (λ (k : List Want). ServesAll l so_far taken.item k [] served) asked_is (subst (λ (k : List Answer). ServesAll l so_far taken.item asked k served) heard_is serves)

    given_up_goes : ServesAll l so_far taken.item asked heard served → GivenUp l.desk taken asked heard made x → Goes taken.item x.entry.plain.event made.reply served
    given_up_goes serves c =
        let is : x.entry ≡ given_up_entry x.before c.clock taken.position = same_last x.before x.entry _ c.given_up.grown in
        stays (ap was_sent_on is) (record { message = none_reply; is = ap (λ (k : Made). k.reply) c.given_up.made_is }) (add_empty Below n served (nothing_served c.asked_none c.heard_none serves))

    pub comes_goes : GoesLater → ServesAll l so_far taken.item asked heard served → ComesTo l.desk taken asked heard made x → Goes taken.item x.entry.plain.event made.reply served
    comes_goes later serves comes =
        ⊎_elim (λ (c : Carried l.desk taken asked heard made x). carried_goes later serves c) (λ (c : GivenUp l.desk taken asked heard made x). given_up_goes serves c) comes

-- ---- its entry
-- where the message was sent on, the entry has it
pub entry_has_item : (opening : DeskState) (taken : Taken) (asked : List Want) (heard : List Answer) (made : Made) (x : Noted EntryData) → ComesTo opening taken asked heard made x → was_sent_on x.entry ≡ true → x.entry.item ≡ Some taken.item
entry_has_item opening taken asked heard made x comes sent =
    ⊎_elim
    (λ (c : Carried opening taken asked heard made x). ap (λ (e : EntryData). e.item) (same_last x.before x.entry (dispatched_entry x.before c.clock taken.position taken.item c.before c.dispatched.words c.dispatched.quit) c.dispatched.grown))
    (λ (c : GivenUp opening taken asked heard made x).
    let is : x.entry ≡ given_up_entry x.before c.clock taken.position = same_last x.before x.entry _ c.given_up.grown in
    absurd (false≢true (sym (ap was_sent_on is) ∙ sent))) comes

-- and owes what the message owes
pub entry_is_of : (opening : DeskState) (taken : Taken) (asked : List Want) (heard : List Answer) (made : Made) (x : Noted EntryData) (n : ℕ) → ComesTo opening taken asked heard made x → was_sent_on x.entry ≡ true
    → owes_entry n x.entry ≡ owes n taken.item.duty
entry_is_of opening taken asked heard made x n comes sent =
    let it : DispatchesIt taken x.entry = comes_to_it opening taken asked heard made x comes in
    (λ i. owes_event n (it.event_is i) (entry_has_item opening taken asked heard made x comes sent i))

-- by its position, each entry owes what its message owes
pub place_is_of : (opening : DeskState) (taken : Taken) (asked : List Want) (heard : List Answer) (made : Made) (x : Noted EntryData) (n : ℕ) (accepted : List Taken) → slice_get accepted taken.position ≡ Some taken
    → ComesTo opening taken asked heard made x → owes_at n accepted x.entry.plain.event ≡ owes n taken.item.duty
place_is_of opening taken asked heard made x n accepted listed comes =
    let it : DispatchesIt taken x.entry = comes_to_it opening taken asked heard made x comes in
    ap (owes_at n accepted) it.event_is ∙ ap (owes_listed n) listed
