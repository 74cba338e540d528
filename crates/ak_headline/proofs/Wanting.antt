-- What a want that is served adds to a diary: an ask takes what it opened, or cancels it, and a post writes nothing for which someone waits.
use Rattle.std.proofs.Common.{◌≡◌, ℕ, ◌+◌, ◌≤◌, ◌==◌, Bool, true, false, List, [], ◌∷◌, ◌++◌, Option, None, Some, All, refl, sym, subst, inl, arith, ⊎_elim}
use Rattle.std.proofs.lemmas.List.Elements.{All-head, All-tail}
use Rattle.ak_base.specs.declared.app_word.AppWord.{AppWord}
use Rattle.ak_message.specs.declared.address.Address.{Address}
use Rattle.ak_message.specs.Message.{MessageData}
use Rattle.ak_flatten.specs.declared.item.Duty.TheVariants as duty
use Rattle.ak_flatten.specs.Item.{ItemData}
use Rattle.ak_turn.specs.Noted.{Noted}
use Rattle.ak_roster.specs.declared.entry.RosterEntry.{RosterEntry}
use Rattle.ak_port.specs.declared.port_entry.PortEvent.{PortEvent}
use Rattle.ak_port.specs.declared.port_entry.PortEvent.TheVariants as event
use Rattle.ak_port.specs.declared.reply_entry.ReplyEvent.TheVariants as slot
use Rattle.ak_action.specs.declared.answer.Answer.{Answer}
use Rattle.ak_action.specs.declared.answer.Answer.TheVariants as answer
use Rattle.ak_action.specs.declared.answer.Want.{Want}
use Rattle.ak_action.specs.declared.answer.Want.TheVariants as want
use Rattle.ak_diary.specs.Looper.{LooperFacts, has_door}
use Rattle.ak_diary.specs.Step.{Step, at_roster, at_book, at_port, saw_book}
use Rattle.ak_diary.specs.Wants as wants
use Rattle.ak_diary.specs.Wants.{AsksInVain, AsksSo, Cancels, Converses, EntersPort, IsRefusedBy, LooksUp, Opens, OpensFor, PostsSo, Serves, ServesAll, ServesFind, Through, ThroughDoor, Withdraws}
use Rattle.ak_headline.specs.Answers.{owes}
use Rattle.ak_headline.specs.Tally.{writes_owing}
use Rattle.ak_headline.proofs.Asking.{converses_asks, converses_wrote}
use Rattle.ak_headline.proofs.Counting.{Adds, Counts, add_as, add_counted, add_empty, add_idle, bit, count_book, count_both, count_none, count_one, count_port}

-- an event that writes nothing that owes the slot, if there is one
abbrev pub Keeps : ℕ → Option PortEvent → Type 0
Keeps n None = Unit {0}
Keeps n (Some e) = writes_owing n e ≡ false

-- a want that is no message sent on
abbrev pub IsOwnWant : Want → Type 0
IsOwnWant (want.Forward looper popped) = ⊥
IsOwnWant _ = Unit {0}

-- ---- counts
module _ (n : ℕ) where
  count_empty : (steps : List Step) → steps ≡ [] → Counts n steps 0 0 0 0 0
  count_empty steps is = subst (λ (s : List Step). Counts n s 0 0 0 0 0) (sym is) (count_none n)

  count_enters : (looper : ℕ) (e : PortEvent) (steps : List Step) → writes_owing n e ≡ false → EntersPort looper e steps → Counts n steps 0 0 0 0 0
  count_enters looper e steps idle enters =
      subst (λ (s : List Step). Counts n s 0 0 0 0 0) (sym enters.is)
      (subst (λ (b : Bool). Counts n (at_port looper enters.noted ∷ []) (bit b) 0 0 0 0) idle (count_port n looper enters.noted e enters.event_is))

  count_refused : (looper : ℕ) (e : Option PortEvent) (steps : List Step) → Keeps n e → IsRefusedBy looper e steps → Counts n steps 0 0 0 0 0
  count_refused looper None steps idle r = count_empty steps r
  count_refused looper (Some e) steps idle r = count_enters looper e steps idle r

  -- at most one cancel
  record CountsCancel (m : ℕ) (steps : List Step) : Type 0 where
    cancelled : ℕ
    counts : Counts n steps 0 0 cancelled 0 0
    few : cancelled ≤ bit (m == n)

  count_cancels : (m : ℕ) (steps : List Step) → Cancels m steps → CountsCancel m steps
  count_cancels m steps c =
      ⊎_elim
      (λ (t : wants.EntersCancel m steps).
      record { cancelled = bit (m == n); counts = subst (λ (s : List Step). Counts n s 0 0 (bit (m == n)) 0 0) (sym t.is) (count_book n t.noted (slot.Cancelled m) t.event_is); few = omega arith })
      (λ (t : wants.FindsFilled m steps).
      record { cancelled = 0; counts = subst (λ (s : List Step). Counts n s 0 0 0 0 0) (sym t.is) (count_one n (saw_book t.seen)); few = omega arith }) c

bit_some : (b : Bool) → 1 ≤ bit b → b ≡ true
bit_some true some = refl
bit_some false some = absurd (omega (arith, some))

-- ---- what each act adds
module _ (Below : ℕ → Type 0) (n : ℕ) where
  abbrev Nothing : List Step → Type 0
  Nothing steps = Adds Below n 0 0 steps

  pub add_roster : (x : Noted RosterEntry) (steps : List Step) → steps ≡ at_roster x ∷ [] → Nothing steps
  add_roster x steps is = add_as Below n 0 0 steps (at_roster x ∷ []) is (add_counted Below n (at_roster x ∷ []) 0 0 (count_one n (at_roster x)) (omega arith))

  pub add_enters : (looper : ℕ) (e : PortEvent) (steps : List Step) → writes_owing n e ≡ false → EntersPort looper e steps → Nothing steps
  add_enters looper e steps idle enters = add_counted Below n steps 0 0 (count_enters n looper e steps idle enters) (omega arith)

  -- where the slot is this one, it is opened, written for and taken from; else nothing
  pub add_converses : (to : Address) (item : ItemData) (flat : List ℕ) (steps : List Step) → Converses to item flat steps → Nothing steps
  add_converses to item flat steps c =
      let mine : ℕ = bit (c.slot == n) in
      let first = count_book n c.opened (slot.Opened c.slot) c.opened_is in
      let second = count_port n to.looper c.written (event.Written c.position (record item { duty = duty.Slot c.slot })) c.written_is in
      let third = count_book n c.taken (slot.Taken c.slot) c.taken_is in
      let behind = count_both n (at_port to.looper c.written ∷ []) (at_book c.taken ∷ []) mine 0 0 0 0 0 0 0 mine 0 second third in
      let all = count_both n (at_book c.opened ∷ []) (at_port to.looper c.written ∷ at_book c.taken ∷ []) 0 mine 0 0 0 (mine + 0) (0 + 0) (0 + 0) (0 + mine) (0 + 0) first behind in
      add_as Below n 0 0 steps (at_book c.opened ∷ at_port to.looper c.written ∷ at_book c.taken ∷ []) c.is
      (record {
        asks = mine;
        sent_are = omega (arith, all.sent_are);
        opened = omega (arith, all.opened_are, all.cancelled_are);
        took = omega (arith, all.took_are);
        most = omega (arith, all.filled_are);
        settled = inl (omega (arith, all.filled_are));
        up = λ looper below. omega (arith, all.to_one looper);
        wrote = λ looper x there owed. inl (converses_wrote n to item flat steps c looper x there owed);
        asked = λ some. (to.looper, c.written, converses_asks n to item flat steps c (bit_some (c.slot == n) (omega (arith, some, all.took_are))));
      })

  pub add_withdraws : (to : Address) (e : Option PortEvent) (steps : List Step) → Keeps n e → Withdraws to e steps → Nothing steps
  add_withdraws to e steps idle w =
      let mine : ℕ = bit (w.slot == n) in
      let last = count_cancels n w.slot w.closing w.closes in
      let first = count_book n w.opened (slot.Opened w.slot) w.opened_is in
      let second = count_refused n to.looper e w.refused idle w.refused_is in
      let behind = count_both n w.refused w.closing 0 0 0 0 0 0 0 last.cancelled 0 0 second last.counts in
      let all = count_both n (at_book w.opened ∷ []) (w.refused ++ w.closing) 0 mine 0 0 0 (0 + 0) (0 + 0) (0 + last.cancelled) (0 + 0) (0 + 0) first behind in
      let few = last.few in
      add_as Below n 0 0 steps (at_book w.opened ∷ w.refused ++ w.closing) w.is
      (add_counted Below n (at_book w.opened ∷ w.refused ++ w.closing) mine last.cancelled
      (record {
        sent_are = all.sent_are;
        opened_are = omega (arith, all.opened_are);
        cancelled_are = omega (arith, all.cancelled_are);
        took_are = all.took_are;
        filled_are = all.filled_are;
        to_one = all.to_one;
      }) (omega arith))

  add_vain : (to : Address) (item : ItemData) (steps : List Step) → AsksInVain to item steps → Nothing steps
  add_vain to item steps (wants.before_all is) = add_empty Below n steps is
  add_vain to item steps (wants.for_the_item w) = add_withdraws to None steps tt w
  add_vain to item steps (wants.for_the_reply flat c) = add_converses to item flat steps c

  -- ---- doors
  add_opens_for : (l : LooperFacts) (so_far : List Step) (b : Bool) (looper : ℕ) (steps : List Step) → OpensFor l so_far b looper steps → Nothing steps
  add_opens_for l so_far true looper steps o = add_empty Below n steps o
  add_opens_for l so_far false looper steps o = add_roster o.noted steps o.is

  pub add_opens : (l : LooperFacts) (so_far : List Step) (looper : ℕ) (steps : List Step) → Opens l so_far looper steps → Nothing steps
  add_opens l so_far looper steps o = add_opens_for l so_far (has_door l so_far looper) looper steps o

  pub add_through : (l : LooperFacts) (so_far : List Step) (looper : ℕ) (P : List Step → Type 0) (steps : List Step) → ((rest : List Step) → P rest → Nothing rest) → Through l so_far looper P steps → Nothing steps
  add_through l so_far looper P steps each t = add_idle Below n t.door t.rest steps (add_opens l so_far looper t.door t.opens) (each t.rest t.then_does) t.is

  add_door : (l : LooperFacts) (so_far : List Step) (looper : ℕ) (a : Answer) (P : List Step → Type 0) (steps : List Step) → ((rest : List Step) → P rest → Nothing rest) → ThroughDoor l so_far looper a P steps → Nothing steps
  add_door l so_far looper answer.NoMemory P steps each d =
      ⊎_elim (λ (t : wants.LacksDoor l so_far looper steps). add_empty Below n steps t.is) (λ (t : Through l so_far looper P steps). add_through l so_far looper P steps each t) d
  add_door l so_far looper (answer.Team team first) P steps each d = add_through l so_far looper P steps each d
  add_door l so_far looper answer.NoTeam P steps each d = add_through l so_far looper P steps each d
  add_door l so_far looper (answer.Written position) P steps each d = add_through l so_far looper P steps each d
  add_door l so_far looper answer.Full P steps each d = add_through l so_far looper P steps each d
  add_door l so_far looper answer.Closed P steps each d = add_through l so_far looper P steps each d
  add_door l so_far looper answer.Spent P steps each d = add_through l so_far looper P steps each d
  add_door l so_far looper answer.TooLong P steps each d = add_through l so_far looper P steps each d
  add_door l so_far looper (answer.Reply flat message) P steps each d = add_through l so_far looper P steps each d

  -- ---- posts, asks, and looking for an application
  add_posts_so : (to : Address) (m : MessageData) (item : ItemData) (a : Answer) (steps : List Step) → owes n item.duty ≡ false → PostsSo to m item a steps → Nothing steps
  add_posts_so to m item (answer.Written position) steps idle p = add_enters to.looper (event.Written position item) steps idle p.enters
  add_posts_so to m item answer.Full steps idle p = add_enters to.looper event.Full steps refl p.enters
  add_posts_so to m item answer.Closed steps idle p = add_enters to.looper event.Refused steps refl p.enters
  add_posts_so to m item answer.Spent steps idle p = add_enters to.looper event.Spent steps refl p.enters
  add_posts_so to m item answer.TooLong steps idle p = add_empty Below n steps p.1
  add_posts_so to m item answer.NoMemory steps idle p = add_empty Below n steps p
  add_posts_so to m item (answer.Team team first) steps idle p = absurd p
  add_posts_so to m item answer.NoTeam steps idle p = absurd p
  add_posts_so to m item (answer.Reply flat message) steps idle p = absurd p

  add_asks_so : (to : Address) (m : MessageData) (item : ItemData) (a : Answer) (steps : List Step) → AsksSo to m item a steps → Nothing steps
  add_asks_so to m item (answer.Reply flat message) steps p = add_converses to item flat steps p.1.does
  add_asks_so to m item answer.Closed steps p = add_withdraws to (Some event.Refused) steps refl p.does
  add_asks_so to m item answer.Spent steps p = add_withdraws to (Some event.Spent) steps refl p.does
  add_asks_so to m item answer.TooLong steps p = add_empty Below n steps p.1
  add_asks_so to m item answer.NoMemory steps p = add_vain to item steps p
  add_asks_so to m item (answer.Written position) steps p = absurd p
  add_asks_so to m item answer.Full steps p = absurd p
  add_asks_so to m item (answer.Team team first) steps p = absurd p
  add_asks_so to m item answer.NoTeam steps p = absurd p

  add_looks : (l : LooperFacts) (word : AppWord) (a : Answer) (steps : List Step) → LooksUp l word a steps → Nothing steps
  add_looks l word a steps f = add_roster f.noted steps f.is

  add_finds : (l : LooperFacts) (word : AppWord) (a : Answer) (steps : List Step) → ServesFind l word a steps → Nothing steps
  add_finds l word answer.NoMemory steps f = add_empty Below n steps f
  add_finds l word (answer.Team team first) steps f = add_looks l word (answer.Team team first) steps f
  add_finds l word answer.NoTeam steps f = add_looks l word answer.NoTeam steps f
  add_finds l word (answer.Written position) steps f = add_looks l word (answer.Written position) steps f
  add_finds l word answer.Full steps f = add_looks l word answer.Full steps f
  add_finds l word answer.Closed steps f = add_looks l word answer.Closed steps f
  add_finds l word answer.Spent steps f = add_looks l word answer.Spent steps f
  add_finds l word answer.TooLong steps f = add_looks l word answer.TooLong steps f
  add_finds l word (answer.Reply flat message) steps f = add_looks l word (answer.Reply flat message) steps f

  -- nobody waits for a post
  no_slot_for : (back : Option Address) → owes n (wants.owed_to back) ≡ false
  no_slot_for None = refl
  no_slot_for (Some address) = refl

  pub add_serves : (l : LooperFacts) (so_far : List Step) (item : ItemData) (w : Want) (a : Answer) (steps : List Step) → IsOwnWant w → Serves l so_far item w a steps → Nothing steps
  add_serves l so_far item (want.Find word) a steps own s = add_finds l word a steps s
  add_serves l so_far item (want.Post to m back) a steps own s =
      add_door l so_far to.looper a (PostsSo to m (wants.sent_item l.team to (wants.owed_to back) m) a) steps
      (λ rest p. add_posts_so to m (wants.sent_item l.team to (wants.owed_to back) m) a rest (no_slot_for back) p) s
  add_serves l so_far item (want.Ask to m) a steps own s =
      add_door l so_far to.looper a (AsksSo to m (wants.sent_item l.team to duty.None m) a) steps (λ rest p. add_asks_so to m (wants.sent_item l.team to duty.None m) a rest p) s
  add_serves l so_far item (want.Forward looper popped) a steps own s = absurd own
  add_serves l so_far item want.Done a steps own s = absurd s

  pub add_serves_all : (l : LooperFacts) (so_far : List Step) (item : ItemData) (asked : List Want) (heard : List Answer) (steps : List Step) → All IsOwnWant asked → ServesAll l so_far item asked heard steps → Nothing steps
  add_serves_all l so_far item [] [] steps own s = add_empty Below n steps s
  add_serves_all l so_far item [] (a ∷ heard) steps own s = absurd s
  add_serves_all l so_far item (w ∷ asked) [] steps own s = absurd s
  add_serves_all l so_far item (w ∷ asked) (a ∷ heard) steps own s =
      add_idle Below n s.0 s.1 steps (add_serves l so_far item w a s.0 (All-head IsOwnWant w asked own) s.2)
      (add_serves_all l (so_far ++ s.0) item asked heard s.1 (All-tail IsOwnWant w asked own) s.3) s.4
