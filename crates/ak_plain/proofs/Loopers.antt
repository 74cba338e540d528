-- What a looper's thread looks up are words that are looked up, where its desk's actions name such words alone.
use Rattle.std.proofs.Common.{◌≡◌, ℕ, Bool, true, false, List, [], ◌∷◌, ◌++◌, Option, None, Some, refl, sym, subst, ⊎_elim}
use Rattle.std.specs.Prelude.{IsTrue}
use Rattle.std.specs.List.{AllByRecursion}
use Rattle.std.proofs.lemmas.List.{same_from_push}
use Rattle.ak_base.specs.declared.app_word.AppWord.{AppWord}
use Rattle.ak_message.specs.declared.address.Address.{Address}
use Rattle.ak_message.specs.Message.{MessageData}
use Rattle.ak_flatten.specs.declared.item.Duty.{Duty}
use Rattle.ak_flatten.specs.declared.item.Duty.TheVariants as duty
use Rattle.ak_flatten.specs.declared.item.Taken.{Taken}
use Rattle.ak_flatten.specs.Item.{ItemData}
use Rattle.ak_turn.specs.Noted.{Noted}
use Rattle.ak_action.specs.declared.answer.Answer.{Answer}
use Rattle.ak_action.specs.declared.answer.Answer.TheVariants as answer
use Rattle.ak_action.specs.declared.answer.Want.{Want}
use Rattle.ak_action.specs.declared.answer.Want.TheVariants as want
use Rattle.ak_action.specs.Laws.{TwoWordsAnAction}
use Rattle.ak_desk.specs.declared.made.Made.{Made}
use Rattle.ak_desk.specs.Entry.{EntryData}
use Rattle.ak_diary.specs.Diary as diaries
use Rattle.ak_diary.specs.Diary.{IsTurn, Works}
use Rattle.ak_diary.specs.Looper.{LooperFacts, closed_by, has_door, is_own}
use Rattle.ak_diary.specs.Step.{Step, at_roster, at_port, at_desk, saw_roster, lacked}
use Rattle.ak_diary.specs.Turns as turns
use Rattle.ak_diary.specs.Turns.{Carried, Closes, ClosesIf, ComesTo, GivenUp, IsDispatch, IsTake, LeavesAll, LeavesOne, LeavesRoster, Pays, RepliesBack, Settles, TriesBack, WritesText, is_no_reply, lacked_if}
use Rattle.ak_diary.specs.Wants as wants
use Rattle.ak_diary.specs.Wants.{AsksSo, ForwardsSo, OpensFor, PostsSo, Serves, ServesAll, ServesFind, Through, ThroughDoor}
use Rattle.ak_journal.specs.Plain.{IsPlainRoster}
use Rattle.ak_plain.proofs.Steps.{IsAsked}
use Rattle.ak_input.specs.Written.{is_looked_up}
use Rattle.ak_plain.proofs.Acting.{IsPlainWant}
use Rattle.ak_plain.proofs.Replaying.{dispatch_plain, replays_plain}
use Rattle.ak_plain.proofs.Rows.{IsNamedDesk}
use Rattle.ak_plain.proofs.Sides.{ArePlain, both, converses_plain, door_plain, fills_plain, more, none, one, port_plain, shuts_all_plain, vain_plain, withdraws_plain}

-- ---- one want
module _ (l : LooperFacts) (so_far : List Step) where
  opens_for_plain : (b : Bool) (looper : ℕ) (steps : List Step) → OpensFor l so_far b looper steps → ArePlain steps
  opens_for_plain true looper steps o = none steps o
  opens_for_plain false looper steps o = door_plain looper steps o

  through_plain : (looper : ℕ) (P : List Step → Type 0) (steps : List Step) → ((rest : List Step) → P rest → ArePlain rest) → Through l so_far looper P steps → ArePlain steps
  through_plain looper P steps each t = both t.door t.rest steps (opens_for_plain (has_door l so_far looper) looper t.door t.opens) (each t.rest t.then_does) t.is

  through_door_plain : (looper : ℕ) (a : Answer) (P : List Step → Type 0) (steps : List Step) → ((rest : List Step) → P rest → ArePlain rest) → ThroughDoor l so_far looper a P steps → ArePlain steps
  through_door_plain looper answer.NoMemory P steps each d =
      ⊎_elim (λ (t : wants.LacksDoor l so_far looper steps). none steps t.is) (λ (t : Through l so_far looper P steps). through_plain looper P steps each t) d
  through_door_plain looper (answer.Team team first) P steps each d = through_plain looper P steps each d
  through_door_plain looper answer.NoTeam P steps each d = through_plain looper P steps each d
  through_door_plain looper (answer.Written position) P steps each d = through_plain looper P steps each d
  through_door_plain looper answer.Full P steps each d = through_plain looper P steps each d
  through_door_plain looper answer.Closed P steps each d = through_plain looper P steps each d
  through_door_plain looper answer.Spent P steps each d = through_plain looper P steps each d
  through_door_plain looper answer.TooLong P steps each d = through_plain looper P steps each d
  through_door_plain looper (answer.Reply flat message) P steps each d = through_plain looper P steps each d

posts_plain : (to : Address) (m : MessageData) (item : ItemData) (a : Answer) (steps : List Step) → PostsSo to m item a steps → ArePlain steps
posts_plain to m item (answer.Written position) steps p = port_plain to.looper _ steps p.enters
posts_plain to m item answer.Full steps p = port_plain to.looper _ steps p.enters
posts_plain to m item answer.Closed steps p = port_plain to.looper _ steps p.enters
posts_plain to m item answer.Spent steps p = port_plain to.looper _ steps p.enters
posts_plain to m item answer.TooLong steps p = none steps p.1
posts_plain to m item answer.NoMemory steps p = none steps p
posts_plain to m item (answer.Team team first) steps p = absurd p
posts_plain to m item answer.NoTeam steps p = absurd p
posts_plain to m item (answer.Reply flat message) steps p = absurd p

asks_plain : (to : Address) (m : MessageData) (item : ItemData) (a : Answer) (steps : List Step) → AsksSo to m item a steps → ArePlain steps
asks_plain to m item (answer.Reply flat message) steps p = converses_plain to item flat steps p.1.does
asks_plain to m item answer.Closed steps p = withdraws_plain to _ steps p.does
asks_plain to m item answer.Spent steps p = withdraws_plain to _ steps p.does
asks_plain to m item answer.TooLong steps p = none steps p.1
asks_plain to m item answer.NoMemory steps p = vain_plain to item steps p
asks_plain to m item (answer.Written position) steps p = absurd p
asks_plain to m item answer.Full steps p = absurd p
asks_plain to m item (answer.Team team first) steps p = absurd p
asks_plain to m item answer.NoTeam steps p = absurd p

forwards_plain : (looper : ℕ) (item : ItemData) (a : Answer) (steps : List Step) → ForwardsSo looper item a steps → ArePlain steps
forwards_plain looper item (answer.Written position) steps p = port_plain looper _ steps p
forwards_plain looper item answer.Closed steps p = port_plain looper _ steps p
forwards_plain looper item answer.Spent steps p = port_plain looper _ steps p
forwards_plain looper item answer.NoMemory steps p = none steps p
forwards_plain looper item answer.Full steps p = absurd p
forwards_plain looper item answer.TooLong steps p = absurd p
forwards_plain looper item (answer.Team team first) steps p = absurd p
forwards_plain looper item answer.NoTeam steps p = absurd p
forwards_plain looper item (answer.Reply flat message) steps p = absurd p

looks_plain : (l : LooperFacts) (w : AppWord) (a : Answer) (steps : List Step) → IsTrue (is_looked_up w) → wants.LooksUp l w a steps → ArePlain steps
looks_plain l w a steps named f = one (at_roster f.noted) steps (subst IsPlainRoster (sym f.event_is) named) f.is

finds_plain : (l : LooperFacts) (w : AppWord) (a : Answer) (steps : List Step) → IsTrue (is_looked_up w) → ServesFind l w a steps → ArePlain steps
finds_plain l w answer.NoMemory steps named f = none steps f
finds_plain l w (answer.Team team first) steps named f = looks_plain l w _ steps named f
finds_plain l w answer.NoTeam steps named f = looks_plain l w _ steps named f
finds_plain l w (answer.Written position) steps named f = looks_plain l w _ steps named f
finds_plain l w answer.Full steps named f = looks_plain l w _ steps named f
finds_plain l w answer.Closed steps named f = looks_plain l w _ steps named f
finds_plain l w answer.Spent steps named f = looks_plain l w _ steps named f
finds_plain l w answer.TooLong steps named f = looks_plain l w _ steps named f
finds_plain l w (answer.Reply flat message) steps named f = looks_plain l w _ steps named f

serves_plain : (l : LooperFacts) (so_far : List Step) (item : ItemData) (w : Want) (a : Answer) (steps : List Step) → IsPlainWant w → Serves l so_far item w a steps → ArePlain steps
serves_plain l so_far item (want.Find w) a steps named s = finds_plain l w a steps named s
serves_plain l so_far item (want.Post to m back) a steps named s =
    through_door_plain l so_far to.looper a (PostsSo to m (wants.sent_item l.team to (wants.owed_to back) m) a) steps (posts_plain to m _ a) s
serves_plain l so_far item (want.Ask to m) a steps named s = through_door_plain l so_far to.looper a (AsksSo to m (wants.sent_item l.team to duty.None m) a) steps (asks_plain to m _ a) s
serves_plain l so_far item (want.Forward looper popped) a steps named s =
    through_door_plain l so_far looper a (ForwardsSo looper (wants.forwarded_item item popped) a) steps (forwards_plain looper _ a) s
serves_plain l so_far item want.Done a steps named s = absurd s

serves_all_plain : (l : LooperFacts) (so_far : List Step) (item : ItemData) (asked : List Want) (heard : List Answer) (steps : List Step) → AllByRecursion IsPlainWant asked → ServesAll l so_far item asked heard steps → ArePlain steps
serves_all_plain l so_far item [] [] steps named s = none steps s
serves_all_plain l so_far item [] (a ∷ heard) steps named s = absurd s
serves_all_plain l so_far item (w ∷ asked) [] steps named s = absurd s
serves_all_plain l so_far item (w ∷ asked) (a ∷ heard) steps named s =
    both s.0 s.1 steps (serves_plain l so_far item w a s.0 named.0 s.2) (serves_all_plain l (so_far ++ s.0) item asked heard s.1 named.1 s.3) s.4

-- ---- what follows a dispatch
leaves_plain : (l : LooperFacts) (own : Bool) (steps : List Step) → LeavesRoster l own steps → ArePlain steps
leaves_plain l true steps s =
    ⊎_elim (λ (t : turns.EntersGone l steps). one (at_roster t.noted) steps (subst IsPlainRoster (sym t.event_is) tt) t.is) (λ (t : turns.FindsGone l steps). one (saw_roster t.seen) steps tt t.is) s
leaves_plain l false steps s = none steps s

closes_plain : (l : LooperFacts) (steps : List Step) → Closes l steps → ArePlain steps
closes_plain l steps c = both c.gone c.shut steps (leaves_plain l (is_own l) c.gone c.leaves) (shuts_all_plain (closed_by l) c.shut c.shuts) c.is

closes_if_plain : (l : LooperFacts) (due : Bool) (steps : List Step) → ClosesIf l due steps → ArePlain steps
closes_if_plain l true steps c = closes_plain l steps c
closes_if_plain l false steps c = none steps c

tries_plain : (looper : ℕ) (item : ItemData) (steps : List Step) → TriesBack looper item steps → ArePlain steps
tries_plain looper item steps t =
    ⊎_elim (λ (p : turns.PostsBack looper item steps). port_plain looper p.what steps p.enters) (λ (is : steps ≡ lacked ∷ []). one lacked steps tt is) t

back_plain : (l : LooperFacts) (so_far : List Step) (b : Bool) (to : Address) (m : MessageData) (steps : List Step) → RepliesBack l so_far b to m steps → ArePlain steps
back_plain l so_far true to m steps r = none steps r
back_plain l so_far false to m steps r =
    ⊎_elim (λ (w : turns.LacksWay l so_far to.looper steps). one lacked steps tt w.is)
    (λ (t : Through l so_far to.looper (TriesBack to.looper (wants.sent_item l.team to duty.None m)) steps).
    through_plain l so_far to.looper (TriesBack to.looper (wants.sent_item l.team to duty.None m)) steps (tries_plain to.looper _) t) r

pays_plain : (l : LooperFacts) (so_far : List Step) (owed : Duty) (reply : Option MessageData) (steps : List Step) → Pays l so_far owed reply steps → ArePlain steps
pays_plain l so_far owed None steps p = none steps p
pays_plain l so_far duty.None (Some m) steps p = none steps p
pays_plain l so_far (duty.Slot n) (Some m) steps p = fills_plain n _ steps p
pays_plain l so_far (duty.Back to) (Some m) steps p = back_plain l so_far (is_no_reply m) to m steps p

text_plain : (owed : Duty) (reply told : Option MessageData) (steps : List Step) → WritesText owed reply told steps → ArePlain steps
text_plain owed reply _ _ turns.with_memory = none [] refl
text_plain owed reply _ _ (turns.without wants) = one lacked (lacked ∷ []) tt refl

settles_plain : (l : LooperFacts) (so_far : List Step) (owed : Duty) (reply : Option MessageData) (steps : List Step) → Settles l so_far owed reply steps → ArePlain steps
settles_plain l so_far owed reply steps s =
    both ((s.text ++ s.closing) ++ s.paying) s.late steps
    (both (s.text ++ s.closing) s.paying ((s.text ++ s.closing) ++ s.paying)
    (both s.text s.closing (s.text ++ s.closing) (text_plain owed reply s.told s.text s.writes) (closes_if_plain l _ s.closing s.closes) refl)
    (pays_plain l _ owed s.told s.paying s.pays) refl)
    (closes_if_plain l _ s.late s.closes_late) s.is

leaves_one_plain : (owed : Duty) (steps : List Step) → LeavesOne owed steps → ArePlain steps
leaves_one_plain duty.None steps f = none steps f
leaves_one_plain (duty.Slot n) steps f = fills_plain n _ steps f
leaves_one_plain (duty.Back to) steps f = none steps f

leaves_all_plain : (left : List Taken) (steps : List Step) → LeavesAll left steps → ArePlain steps
leaves_all_plain [] steps f = none steps f
leaves_all_plain (taken ∷ left) steps f = both f.0 f.1 steps (leaves_one_plain taken.item.duty f.0 f.2) (leaves_all_plain left f.1 f.3) f.4

lacked_plain : (b : Bool) → ArePlain (lacked_if b)
lacked_plain true = one lacked (lacked ∷ []) tt refl
lacked_plain false = none [] refl

-- ---- turns
module _ (two : TwoWordsAnAction) (l : LooperFacts) (named : IsNamedDesk l.desk) where
  -- what a dispatch asks for, and that its entry is no edit
  module _ (taken : Taken) (asked : List Want) (heard : List Answer) (made : Made) (n : Noted EntryData) where
    carried_asks : Carried l.desk taken asked heard made n → AllByRecursion IsPlainWant asked
    carried_asks c =
        let d = c.dispatched in
        let before : IsNamedDesk c.before = (replays_plain two l.desk.looper 0 l.desk n.before c.before named d.history.replays).1 in
        subst (AllByRecursion IsPlainWant) d.asked_are (dispatch_plain two c.before taken.item d.words d.quit c.after before d.dispatch).wants

    comes_asks : ComesTo l.desk taken asked heard made n → AllByRecursion IsPlainWant asked
    comes_asks c =
        ⊎_elim carried_asks (λ (g : GivenUp l.desk taken asked heard made n). subst (AllByRecursion IsPlainWant) (sym g.asked_none) tt) c

    comes_dispatched : ComesTo l.desk taken asked heard made n → IsAsked n.entry.plain.event
    comes_dispatched c =
        ⊎_elim
        (λ (t : Carried l.desk taken asked heard made n).
        let d = t.dispatched in
        let is = (same_from_push n.before n.before n.entry _ d.grown).1 in
        subst (λ (e : EntryData). IsAsked e.plain.event) (sym is) tt)
        (λ (t : GivenUp l.desk taken asked heard made n).
        let is = (same_from_push n.before n.before n.entry _ t.given_up.grown).1 in
        subst (λ (e : EntryData). IsAsked e.plain.event) (sym is) tt) c

  dispatch_turn_plain : (so_far turn : List Step) → IsDispatch l so_far turn → ArePlain turn
  dispatch_turn_plain so_far turn d =
      let entry = at_desk l.number d.noted ∷ lacked_if d.made.no_memory in
      both (d.served ++ entry) d.settled turn
      (both d.served entry (d.served ++ entry)
      (serves_all_plain l so_far d.taken.item d.asked d.heard d.served (comes_asks d.taken d.asked d.heard d.made d.noted d.comes) d.serves)
      (more (at_desk l.number d.noted) (lacked_if d.made.no_memory) entry (comes_dispatched d.taken d.asked d.heard d.made d.noted d.comes) (lacked_plain d.made.no_memory) refl)
      refl)
      (settles_plain l _ d.taken.item.duty d.made.reply d.settled d.settles) d.is

  turn_plain : (so_far turn : List Step) → IsTurn l so_far turn → ArePlain turn
  turn_plain so_far turn t =
      ⊎_elim (λ (k : IsTake l so_far turn). one (at_port l.number k.noted) turn tt k.is) (λ (d : IsDispatch l so_far turn). dispatch_turn_plain so_far turn d) t

  works_plain : (steps : List Step) → Works l steps → ArePlain steps
  works_plain _ diaries.begun = none [] refl
  works_plain _ (diaries.went_on so_far turn works is) = both so_far turn (so_far ++ turn) (works_plain so_far works) (turn_plain so_far turn is) refl

  pub diary_plain : (steps : List Step) → diaries.IsDiary l steps → ArePlain steps
  diary_plain steps d =
      both d.work d.end steps (works_plain d.work d.works)
      (more (at_port l.number d.ends.noted) d.ends.answers d.end tt (leaves_all_plain _ d.ends.answers d.ends.leaves) d.ends.is) d.is
