-- What a want of a reaction leaves a thread to do: what it had. A slot that it opens for an ask goes with the item of the ask, or is cancelled.
use Rattle.std.proofs.Common.{◌≡◌, ◌∙◌, ℕ, Bool, true, false, List, [], ◌∷◌, ◌++◌, Option, None, Some, All, refl, sym, ap, subst, inl, ⊎_elim}
use Rattle.std.proofs.lemmas.Grind.{flat_map-append}
use Rattle.std.proofs.lemmas.List.Elements.{All-head, All-tail}
use Rattle.ak_base.specs.declared.app_word.AppWord.{AppWord}
use Rattle.ak_message.specs.declared.address.Address.{Address}
use Rattle.ak_message.specs.Message.{MessageData}
use Rattle.ak_flatten.specs.declared.item.Duty.TheVariants as duty
use Rattle.ak_flatten.specs.Item.{ItemData}
use Rattle.ak_turn.specs.Noted.{Noted}
use Rattle.ak_port.specs.declared.port_entry.PortEntry.{PortEntry}
use Rattle.ak_port.specs.declared.port_entry.PortEvent.{PortEvent}
use Rattle.ak_port.specs.declared.port_entry.PortEvent.TheVariants as event
use Rattle.ak_port.specs.declared.reply_entry.ReplyEntry.{ReplyEntry}
use Rattle.ak_port.specs.declared.reply_entry.ReplyEvent.{ReplyEvent}
use Rattle.ak_port.specs.declared.reply_entry.ReplyEvent.TheVariants as slot
use Rattle.ak_action.specs.declared.answer.Answer.{Answer}
use Rattle.ak_action.specs.declared.answer.Answer.TheVariants as answer
use Rattle.ak_action.specs.declared.answer.Want.{Want}
use Rattle.ak_action.specs.declared.answer.Want.TheVariants as want
use Rattle.ak_action.specs.declared.state.DeskState.{DeskState}
use Rattle.ak_diary.specs.Looper.{LooperFacts, has_door}
use Rattle.ak_diary.specs.Step.{Step, at_book, at_port, at_roster, book_sight, book_sights}
use Rattle.ak_diary.specs.Wants as wants
use Rattle.ak_diary.specs.Wants.{AsksInVain, AsksSo, Cancels, Converses, EntersPort, IsRefusedBy, LooksUp, Opens, OpensFor, PostsSo, Serves, ServesAll, ServesFind, Through, ThroughDoor, Withdraws}
use Rattle.ak_headline.proofs.Surface.{IsOwnWant}
use Rattle.ak_sequence.proofs.Doing.{Doing, Does, DoesAll, DoesAtBook, DoesAtPort}
use Rattle.ak_sequence.proofs.Steps.{does_append, none_left}

-- ---- sights of the reply book
-- where there is none among all, there is none among the first and none among the others
pub unseen_both : (xs ys : List Step) → book_sights (xs ++ ys) ≡ [] → (book_sights xs ≡ []) × (book_sights ys ≡ [])
unseen_both xs ys unseen = none_left (book_sights xs) (book_sights ys) (sym (flat_map-append book_sight xs ys) ∙ unseen)

-- ---- a slot that was asked, and no longer is
asked_back : (d : Doing) (n : ℕ) → d.asking ≡ None → record (record d { asking = Some n }) { asking = None } ≡ d
asked_back d n none = ap (λ (o : Option ℕ). record d { asking = o }) (sym none)

module _ (short : List ℕ) (openings : ℕ → DeskState) (thread : ℕ) where
  abbrev Goes : Doing → List Step → Doing → Type 0
  Goes d steps d' = DoesAll short openings thread d steps d'

  -- ---- a thread that asks for nothing, and has no sight of the reply book, has to do what it had
  abbrev pub Stays : List Step → Type 0
  Stays steps = book_sights steps ≡ [] → (d : Doing) → d.asking ≡ None → Goes d steps d

  stays_as : (steps same : List Step) → steps ≡ same → Stays same → Stays steps
  stays_as steps same is stays = subst Stays (sym is) stays

  pub stays_none : (steps : List Step) → steps ≡ [] → Stays steps
  stays_none steps is = stays_as steps [] is (λ unseen d none. refl)

  pub stays_both : (first rest steps : List Step) → Stays first → Stays rest → steps ≡ first ++ rest → Stays steps
  stays_both first rest steps f r is =
      stays_as steps (first ++ rest) is (λ unseen d none.
      let each = unseen_both first rest unseen in
      does_append short openings thread first rest d d d (f each.0 d none) (r each.1 d none))

  stays_roster : (x : Noted _) (steps : List Step) → steps ≡ at_roster x ∷ [] → Stays steps
  stays_roster x steps is = stays_as steps (at_roster x ∷ []) is (λ unseen d none. (d, refl, refl))

  -- ---- entries
  book_does : (x : Noted ReplyEntry) (e : ReplyEvent) (d d' : Doing) → x.entry.event ≡ e → DoesAtBook short openings thread d e d' → Does short openings thread d (at_book x) d'
  book_does x e d d' is does = subst (λ (k : ReplyEvent). DoesAtBook short openings thread d k d') (sym is) does

  pub port_does : (looper : ℕ) (x : Noted PortEntry) (e : PortEvent) (d d' : Doing) → x.entry.event ≡ e → DoesAtPort short openings thread d looper x.before e d' → Does short openings thread d (at_port looper x) d'
  port_does looper x e d d' is does = subst (λ (k : PortEvent). DoesAtPort short openings thread d looper x.before k d') (sym is) does

  -- an event at a port that changes nothing
  abbrev pub Idles : PortEvent → Type 0
  Idles e = (looper : ℕ) (before : List PortEntry) (d : Doing) → DoesAtPort short openings thread d looper before e d

  enters_goes : (looper : ℕ) (e : PortEvent) (steps : List Step) → Idles e → EntersPort looper e steps → (d : Doing) → Goes d steps d
  enters_goes looper e steps idle enters d =
      let x = enters.noted in
      subst (λ (k : List Step). Goes d k d) (sym enters.is) (d, port_does looper x e d d enters.event_is (idle looper x.before d), refl)

  pub stays_enters : (looper : ℕ) (e : PortEvent) (steps : List Step) → Idles e → EntersPort looper e steps → Stays steps
  stays_enters looper e steps idle enters unseen d none = enters_goes looper e steps idle enters d

  -- ---- an ask
  stays_converses : (to : Address) (item : ItemData) (flat : List ℕ) (steps : List Step) → Converses to item flat steps → Stays steps
  stays_converses to item flat steps c =
      stays_as steps (at_book c.opened ∷ at_port to.looper c.written ∷ at_book c.taken ∷ []) c.is (λ unseen d none.
      let asking : Doing = record d { asking = Some c.slot } in
      let back : Doing = record asking { asking = None } in
      let opens = book_does c.opened (slot.Opened c.slot) d asking c.opened_is (none, refl) in
      let writes = port_does to.looper c.written (event.Written c.position (record item { duty = duty.Slot c.slot })) asking back c.written_is (inl (refl, refl)) in
      let takes = book_does c.taken (slot.Taken c.slot) back back c.taken_is refl in
      (asking, opens, (back, writes, (back, takes, sym (asked_back d c.slot none)))))

  abbrev IdlesIf : Option PortEvent → Type 0
  IdlesIf None = Unit {0}
  IdlesIf (Some e) = Idles e

  refused_goes : (looper : ℕ) (e : Option PortEvent) (steps : List Step) → IdlesIf e → IsRefusedBy looper e steps → (d : Doing) → Goes d steps d
  refused_goes looper None steps idle is d = subst (λ (k : List Step). Goes d k d) (sym is) refl
  refused_goes looper (Some e) steps idle enters d = enters_goes looper e steps idle enters d

  cancels_goes : (n : ℕ) (steps : List Step) → Cancels n steps → book_sights steps ≡ [] → (d : Doing) → d.asking ≡ Some n → Goes d steps (record d { asking = None })
  cancels_goes n steps c unseen d asks =
      ⊎_elim
      (λ (t : wants.EntersCancel n steps).
      let closed : Doing = record d { asking = None } in
      subst (λ (k : List Step). Goes d k closed) (sym t.is) (closed, book_does t.noted (slot.Cancelled n) d closed t.event_is (asks, refl), refl))
      (λ (t : wants.FindsFilled n steps).
      let seen : t.seen ∷ [] ≡ [] = subst (λ (k : List Step). book_sights k ≡ []) t.is unseen in
      absurd (cc seen)) c

  stays_withdraws : (to : Address) (e : Option PortEvent) (steps : List Step) → IdlesIf e → Withdraws to e steps → Stays steps
  stays_withdraws to e steps idle w =
      stays_as steps (at_book w.opened ∷ w.refused ++ w.closing) w.is (λ unseen d none.
      let asking : Doing = record d { asking = Some w.slot } in
      let behind = (unseen_both (at_book w.opened ∷ []) (w.refused ++ w.closing) unseen).1 in
      let closes = cancels_goes w.slot w.closing w.closes (unseen_both w.refused w.closing behind).1 asking refl in
      let opens = book_does w.opened (slot.Opened w.slot) d asking w.opened_is (none, refl) in
      let both = does_append short openings thread w.refused w.closing asking asking (record asking { asking = None }) (refused_goes to.looper e w.refused idle w.refused_is asking) closes in
      (asking, opens, subst (λ (k : Doing). Goes asking (w.refused ++ w.closing) k) (asked_back d w.slot none) both))

  stays_vain : (to : Address) (item : ItemData) (steps : List Step) → AsksInVain to item steps → Stays steps
  stays_vain to item steps (wants.before_all is) = stays_none steps is
  stays_vain to item steps (wants.for_the_item w) = stays_withdraws to None steps tt w
  stays_vain to item steps (wants.for_the_reply flat c) = stays_converses to item flat steps c

  -- ---- doors
  stays_opens_for : (l : LooperFacts) (so_far : List Step) (b : Bool) (looper : ℕ) (steps : List Step) → OpensFor l so_far b looper steps → Stays steps
  stays_opens_for l so_far true looper steps o = stays_none steps o
  stays_opens_for l so_far false looper steps o = stays_roster o.noted steps o.is

  pub stays_opens : (l : LooperFacts) (so_far : List Step) (looper : ℕ) (steps : List Step) → Opens l so_far looper steps → Stays steps
  stays_opens l so_far looper steps o = stays_opens_for l so_far (has_door l so_far looper) looper steps o

  pub stays_through : (l : LooperFacts) (so_far : List Step) (looper : ℕ) (P : List Step → Type 0) (steps : List Step) → ((rest : List Step) → P rest → Stays rest) → Through l so_far looper P steps → Stays steps
  stays_through l so_far looper P steps each t = stays_both t.door t.rest steps (stays_opens l so_far looper t.door t.opens) (each t.rest t.then_does) t.is

  stays_door : (l : LooperFacts) (so_far : List Step) (looper : ℕ) (a : Answer) (P : List Step → Type 0) (steps : List Step) → ((rest : List Step) → P rest → Stays rest) → ThroughDoor l so_far looper a P steps → Stays steps
  stays_door l so_far looper answer.NoMemory P steps each d =
      ⊎_elim (λ (t : wants.LacksDoor l so_far looper steps). stays_none steps t.is) (λ (t : Through l so_far looper P steps). stays_through l so_far looper P steps each t) d
  stays_door l so_far looper (answer.Team team first) P steps each d = stays_through l so_far looper P steps each d
  stays_door l so_far looper answer.NoTeam P steps each d = stays_through l so_far looper P steps each d
  stays_door l so_far looper (answer.Written position) P steps each d = stays_through l so_far looper P steps each d
  stays_door l so_far looper answer.Full P steps each d = stays_through l so_far looper P steps each d
  stays_door l so_far looper answer.Closed P steps each d = stays_through l so_far looper P steps each d
  stays_door l so_far looper answer.Spent P steps each d = stays_through l so_far looper P steps each d
  stays_door l so_far looper answer.TooLong P steps each d = stays_through l so_far looper P steps each d
  stays_door l so_far looper (answer.Reply flat message) P steps each d = stays_through l so_far looper P steps each d

  -- ---- posts, asks, and looking for an application
  stays_posts : (to : Address) (m : MessageData) (item : ItemData) (a : Answer) (steps : List Step) → ((position : ℕ) → Idles (event.Written position item)) → PostsSo to m item a steps → Stays steps
  stays_posts to m item (answer.Written position) steps idle p = stays_enters to.looper (event.Written position item) steps (idle position) p.enters
  stays_posts to m item answer.Full steps idle p = stays_enters to.looper event.Full steps (λ looper before d. refl) p.enters
  stays_posts to m item answer.Closed steps idle p = stays_enters to.looper event.Refused steps (λ looper before d. refl) p.enters
  stays_posts to m item answer.Spent steps idle p = stays_enters to.looper event.Spent steps (λ looper before d. refl) p.enters
  stays_posts to m item answer.TooLong steps idle p = stays_none steps p.1
  stays_posts to m item answer.NoMemory steps idle p = stays_none steps p
  stays_posts to m item (answer.Team team first) steps idle p = absurd p
  stays_posts to m item answer.NoTeam steps idle p = absurd p
  stays_posts to m item (answer.Reply flat message) steps idle p = absurd p

  stays_asks : (to : Address) (m : MessageData) (item : ItemData) (a : Answer) (steps : List Step) → AsksSo to m item a steps → Stays steps
  stays_asks to m item (answer.Reply flat message) steps p = stays_converses to item flat steps p.1.does
  stays_asks to m item answer.Closed steps p = stays_withdraws to (Some event.Refused) steps (λ looper before d. refl) p.does
  stays_asks to m item answer.Spent steps p = stays_withdraws to (Some event.Spent) steps (λ looper before d. refl) p.does
  stays_asks to m item answer.TooLong steps p = stays_none steps p.1
  stays_asks to m item answer.NoMemory steps p = stays_vain to item steps p
  stays_asks to m item (answer.Written position) steps p = absurd p
  stays_asks to m item answer.Full steps p = absurd p
  stays_asks to m item (answer.Team team first) steps p = absurd p
  stays_asks to m item answer.NoTeam steps p = absurd p

  stays_looks : (l : LooperFacts) (word : AppWord) (a : Answer) (steps : List Step) → LooksUp l word a steps → Stays steps
  stays_looks l word a steps f = stays_roster f.noted steps f.is

  stays_finds : (l : LooperFacts) (word : AppWord) (a : Answer) (steps : List Step) → ServesFind l word a steps → Stays steps
  stays_finds l word answer.NoMemory steps f = stays_none steps f
  stays_finds l word (answer.Team team first) steps f = stays_looks l word (answer.Team team first) steps f
  stays_finds l word answer.NoTeam steps f = stays_looks l word answer.NoTeam steps f
  stays_finds l word (answer.Written position) steps f = stays_looks l word (answer.Written position) steps f
  stays_finds l word answer.Full steps f = stays_looks l word answer.Full steps f
  stays_finds l word answer.Closed steps f = stays_looks l word answer.Closed steps f
  stays_finds l word answer.Spent steps f = stays_looks l word answer.Spent steps f
  stays_finds l word answer.TooLong steps f = stays_looks l word answer.TooLong steps f
  stays_finds l word (answer.Reply flat message) steps f = stays_looks l word (answer.Reply flat message) steps f

  -- nobody waits for a post
  post_idles : (team : ℕ) (to : Address) (back : Option Address) (m : MessageData) (position : ℕ) → Idles (event.Written position (wants.sent_item team to (wants.owed_to back) m))
  post_idles team to None m position looper before d = refl
  post_idles team to (Some address) m position looper before d = refl

  -- ---- each want, and all of them
  stays_serves : (l : LooperFacts) (so_far : List Step) (item : ItemData) (w : Want) (a : Answer) (steps : List Step) → IsOwnWant w → Serves l so_far item w a steps → Stays steps
  stays_serves l so_far item (want.Find word) a steps own s = stays_finds l word a steps s
  stays_serves l so_far item (want.Post to m back) a steps own s =
      stays_door l so_far to.looper a (PostsSo to m (wants.sent_item l.team to (wants.owed_to back) m) a) steps
      (λ rest p. stays_posts to m (wants.sent_item l.team to (wants.owed_to back) m) a rest (post_idles l.team to back m) p) s
  stays_serves l so_far item (want.Ask to m) a steps own s =
      stays_door l so_far to.looper a (AsksSo to m (wants.sent_item l.team to duty.None m) a) steps (λ rest p. stays_asks to m (wants.sent_item l.team to duty.None m) a rest p) s
  stays_serves l so_far item (want.Forward looper popped) a steps own s = absurd own
  stays_serves l so_far item want.Done a steps own s = absurd s

  pub stays_serves_all : (l : LooperFacts) (so_far : List Step) (item : ItemData) (asked : List Want) (heard : List Answer) (steps : List Step) → All IsOwnWant asked → ServesAll l so_far item asked heard steps → Stays steps
  stays_serves_all l so_far item [] [] steps own s = stays_none steps s
  stays_serves_all l so_far item [] (a ∷ heard) steps own s = absurd s
  stays_serves_all l so_far item (w ∷ asked) [] steps own s = absurd s
  stays_serves_all l so_far item (w ∷ asked) (a ∷ heard) steps own s =
      stays_both s.0 s.1 steps (stays_serves l so_far item w a s.0 (All-head IsOwnWant w asked own) s.2)
      (stays_serves_all l (so_far ++ s.0) item asked heard s.1 (All-tail IsOwnWant w asked own) s.3) s.4
