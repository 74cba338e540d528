-- A looper's diary, turn after turn: each slot that it fills it fills with what the rules make for the item that owes it, or with the text of no reply.
use Rattle.std.proofs.Common.{◌≡◌, ◌⊎◌, ℕ, ◌≤◌, Bool, true, false, List, [], ◌∷◌, ◌++◌, Option, None, Some, All, refl, sym, ap, ◌∙◌, subst, inl, inr, append_assoc, eq-eqb, ⊎_elim}
use Rattle.std.specs.Prelude.{◌||◌, Contains, option_map, slice_get}
use Rattle.std.proofs.lemmas.Bool.{false≢true}
use Rattle.std.proofs.lemmas.Grind.{flat_map-append}
use Rattle.std.proofs.lemmas.List.Elements.{All-contains, Contains-append_left, Contains-append_right, Contains-push}
use Rattle.std.proofs.lemmas.List.Folds.{list_any-append}
use Rattle.ak_base.specs.Thread.{looper_thread}
use Rattle.ak_message.specs.Message.{MessageData}
use Rattle.ak_flatten.specs.declared.item.Duty.{Duty}
use Rattle.ak_flatten.specs.declared.item.Duty.TheVariants as duty
use Rattle.ak_flatten.specs.declared.item.Taken.{Taken}
use Rattle.ak_flatten.specs.Item.{ItemData}
use Rattle.ak_flatten.specs.Spelling.{spelling}
use Rattle.ak_turn.specs.Entries.{AreByOthers}
use Rattle.ak_turn.specs.Noted.{Noted, StandsIn, noted}
use Rattle.ak_turn.proofs.Surface.{noted_stands}
use Rattle.ak_port.specs.declared.port_entry.PortEntry.{PortEntry}
use Rattle.ak_port.specs.PortMachine.{written_in}
use Rattle.ak_port.specs.Reply.{fills, none_text}
use Rattle.ak_route.specs.declared.outcome.Route.{Route}
use Rattle.ak_route.specs.declared.outcome.Route.TheVariants as route
use Rattle.ak_action.specs.declared.answer.Answer.{Answer}
use Rattle.ak_action.specs.declared.answer.AnswerWord.{AnswerWord}
use Rattle.ak_action.specs.declared.answer.Want.{Want}
use Rattle.ak_action.specs.declared.state.DeskState.{DeskState}
use Rattle.ak_desk.specs.declared.entry.DeskEvent.{DeskEvent}
use Rattle.ak_desk.specs.declared.entry.DeskEvent.TheVariants as event
use Rattle.ak_desk.specs.declared.entry.EntryRoute.{EntryRoute}
use Rattle.ak_desk.specs.declared.entry.EntryRoute.TheVariants as went
use Rattle.ak_desk.specs.declared.made.Made.{Made}
use Rattle.ak_desk.specs.Desk.{dispatched_entry, given_up_entry}
use Rattle.ak_desk.specs.Dispatch.{entry_route, fitting}
use Rattle.ak_desk.specs.Entry.{EntryData}
use Rattle.ak_desk.specs.Machine.{IsHistory, Replies, StepReplies, dispatches, paired}
use Rattle.ak_desk.specs.Place.{routed_of}
use Rattle.ak_desk.specs.Replies.{none_reply}
use Rattle.ak_desk.specs.Shared.{by_number}
use Rattle.ak_desk.proofs.Surface.{paired_routed}
use Rattle.ak_diary.specs.Diary.{IsTurn, Works, begun, went_on}
use Rattle.ak_diary.specs.Laws.{AcceptedIsDispatchedThenLeft, HasDiary, left_in}
use Rattle.ak_diary.specs.Looper.{LooperFacts, is_closing, thread_of}
use Rattle.ak_diary.specs.Step.{Step, at_desk, at_port, book_entries, desk_entries, desk_entry, is_lack, ran_short}
use Rattle.ak_diary.specs.Turns as turns
use Rattle.ak_diary.specs.Turns.{Carried, ComesTo, GivenUp, IsDispatch, IsTake, Pays, Settles, WritesText, lacked_if}
use Rattle.ak_headline.specs.Answers.{owes}
use Rattle.ak_headline.specs.Diaries.{LoopersPay}
use Rattle.ak_headline.specs.Tally.{PaidForDispatch, at_slot, how_many, was_sent_on}
use Rattle.ak_headline.proofs.Filling.{FillsSo, ForLeft, IsFillSo, fills_both, fills_more, fills_none, leaves_fill, pays_fill, uncounted}
use Rattle.ak_headline.proofs.LastTurn.{none_dispatched, or_true, others_behind, short_closes}
use Rattle.ak_headline.proofs.Listed.{Lists, listed_at, lists_all, lists_before}
use Rattle.ak_headline.proofs.Lists.{same_last}
use Rattle.ak_headline.proofs.LoopersTold.{turn_enters, work_entries}
use Rattle.ak_headline.proofs.Owing.{add_closes_if, settles_none, text_idle, told_some}
use Rattle.ak_headline.proofs.OwnWants.{IsReplied}
use Rattle.ak_headline.proofs.SendsTold.{IsOwnEntry, all_own}
use Rattle.ak_headline.proofs.SentOn.{Goes, comes_goes, on, place_is_of, stays}

-- ---- memory
pub short_left : (xs ys : List Step) → ran_short xs ≡ true → ran_short (xs ++ ys) ≡ true
short_left xs ys e = list_any-append is_lack xs ys ∙ ap (λ b. b || ran_short ys) e

pub short_right : (xs ys : List Step) → ran_short ys ≡ true → ran_short (xs ++ ys) ≡ true
short_right xs ys e = list_any-append is_lack xs ys ∙ ap (λ b. ran_short xs || b) e ∙ or_true (ran_short xs)

-- ---- what the entry of a dispatch tells that has a reply
record HasReplied (opening : DeskState) (taken : Taken) (made : Made) (x : Noted EntryData) : Type 0 where
  route : EntryRoute
  words : List AnswerWord
  quit : Bool
  event_is : x.entry.plain.event ≡ event.Dispatched taken.position route words quit
  item_is : x.entry.item ≡ paired route taken.item
  meets : DeskState
  leads_there : IsHistory opening x.before meets
  reply : MessageData
  replies : StepReplies meets route (Some taken.item) words (Some reply)
  made_is : made.reply ≡ Some (fitting reply)

replies_there : (s : DeskState) (r : Route) (item : ItemData) (words : List AnswerWord) (reply : Option MessageData) → Replies s item words reply → StepReplies s (entry_route s r) (Some item) words reply
replies_there s (route.Deliver token t) item words reply h = h
replies_there s route.Skipped item words reply h = h
replies_there s route.Dropped item words reply h = h
replies_there s route.NotUnderstood item words reply h = h
replies_there s (route.Forward looper) item words reply h = h

some_fits : (o : Option MessageData) (m : MessageData) → option_map fitting o ≡ Some m → IsReplied o
some_fits None m e = absurd cc
some_fits (Some reply) m e = record { message = reply; is = refl }

module _ (opening : DeskState) (taken : Taken) (asked : List Want) (heard : List Answer) (made : Made) (x : Noted EntryData) where
  carried_replies : IsReplied made.reply → Carried opening taken asked heard made x → HasReplied opening taken made x
  carried_replies some c =
      let d = c.dispatched in
      let is : x.entry ≡ dispatched_entry x.before c.clock taken.position taken.item c.before d.words d.quit = same_last x.before x.entry _ d.grown in
      let made_so : made.reply ≡ option_map fitting d.reply = ap (λ (k : Made). k.reply) d.made_is in
      let told = some_fits d.reply some.message (sym made_so ∙ some.is) in
      record {
        route = entry_route c.before (routed_of c.before taken.item).route;
        words = d.words;
        quit = d.quit;
        event_is = ap (λ (e : EntryData). e.plain.event) is;
        item_is = ap (λ (e : EntryData). e.item) is ∙ sym (paired_routed c.before (routed_of c.before taken.item).route taken.item);
        meets = c.before;
        leads_there = d.history;
        reply = told.message;
        replies =
            replies_there c.before (routed_of c.before taken.item).route taken.item d.words (Some told.message)
            (subst (λ (k : Option MessageData). Replies c.before taken.item d.words k) told.is d.replies);
        made_is = made_so ∙ ap (option_map fitting) told.is;
      }

  given_up_replies : GivenUp opening taken asked heard made x → HasReplied opening taken made x
  given_up_replies c =
      let is : x.entry ≡ given_up_entry x.before c.clock taken.position = same_last x.before x.entry _ c.given_up.grown in
      record {
        route = went.NoMemory;
        words = [];
        quit = false;
        event_is = ap (λ (e : EntryData). e.plain.event) is;
        item_is = ap (λ (e : EntryData). e.item) is;
        meets = c.state;
        leads_there = c.given_up.history;
        reply = none_reply;
        replies = refl;
        made_is = ap (λ (k : Made). k.reply) c.given_up.made_is;
      }

  has_replied : IsReplied made.reply → ComesTo opening taken asked heard made x → HasReplied opening taken made x
  has_replied some comes =
      ⊎_elim (λ (c : Carried opening taken asked heard made x). carried_replies some c) (λ (c : GivenUp opening taken asked heard made x). given_up_replies c) comes

-- ---- the text
-- it is that of the reply, unless there was no memory for it; then no dispatch is behind it
text_so : (short : Bool) (behind : List EntryData) (owed : Duty) (reply : MessageData) (made told : Option MessageData) (m : MessageData) (text : List Step) → made ≡ Some (fitting reply)
    → told ≡ Some m → (ran_short text ≡ true → (short ≡ true) × (dispatches behind ≡ 0)) → WritesText owed made told text
    → (spelling m ≡ spelling (fitting reply)) ⊎ ((short ≡ true) × (dispatches behind ≡ 0) × (spelling m ≡ none_text))
text_so short behind owed reply made _ m _ is told last_if turns.with_memory =
    let same : m ≡ fitting reply = cc in
    inl (ap spelling same)
text_so short behind owed reply made _ m _ is told last_if (turns.without wants) =
    let same : m ≡ none_reply = cc in
    let last = last_if refl in
    inr (last.0, last.1, ap spelling same)

-- ---- what follows the entry
module _ (P : ℕ → List ℕ → Type 0) (l : LooperFacts) (so_far : List Step) (owed : Duty) (reply : Option MessageData) (steps : List Step) (s : Settles l so_far owed reply steps) where
  settles_fill : IsReplied reply → ((n : ℕ) (m : MessageData) → owed ≡ duty.Slot n → s.told ≡ Some m → P n (spelling m)) → FillsSo P steps
  settles_fill some so =
      let told = told_some owed reply s.told s.text some s.writes in
      fills_both P (s.text ++ s.closing ++ s.paying) s.late steps
      (fills_both P (s.text ++ s.closing) s.paying (s.text ++ s.closing ++ s.paying)
      (fills_both P s.text s.closing (s.text ++ s.closing) (uncounted P s.text (λ n. (text_idle (λ _. ⊥) n owed reply s.told s.text s.writes).most))
      (uncounted P s.closing (λ n. (add_closes_if (λ _. ⊥) n l _ s.closing s.closes).most)) refl)
      (pays_fill P l (so_far ++ s.text ++ s.closing) owed told.message s.paying (λ n e. so n told.message e told.is)
      (subst (λ (k : Option MessageData). Pays l (so_far ++ s.text ++ s.closing) owed k s.paying) told.is s.pays)) refl)
      (uncounted P s.late (λ n. (add_closes_if (λ _. ⊥) n l _ s.late s.closes_late).most)) s.is

  short_in_text : ran_short s.text ≡ true → ran_short steps ≡ true
  short_in_text e =
      ap ran_short s.is
      ∙ short_left (s.text ++ s.closing ++ s.paying) s.late (short_left (s.text ++ s.closing) s.paying (short_left s.text s.closing e))

goes_few : (n : ℕ) (item : ItemData) (e : DeskEvent) (reply : Option MessageData) (served : List Step) → Goes (λ _. ⊥) n item e reply served → how_many (at_slot (fills n)) served ≤ 0
goes_few n item e reply served (on is none adds wrote) = adds.most
goes_few n item e reply served (stays is some adds) = adds.most

-- ---- turn after turn
module _ (l : LooperFacts) (desk : List EntryData) (short : Bool) where
  middle_fills : (x : Noted EntryData) (b : Bool) → book_entries (at_desk l.number x ∷ lacked_if b) ≡ []
  middle_fills x true = refl
  middle_fills x false = refl

  -- its entries stand in the desk's list
  abbrev pub AllStand : List Step → Type 0
  AllStand steps = (x : Noted EntryData) → Contains (desk_entries l.number steps) x → StandsIn desk x

  -- where the last turn is a dispatch that finds no memory, no dispatch stands behind its entry
  abbrev pub IsLast : List Step → Type 0
  IsLast work =
      (so_far turn : List Step) (d : IsDispatch l so_far turn) (stands : StandsIn desk d.noted) → work ≡ so_far ++ turn → ran_short turn ≡ true → (short ≡ true) × (dispatches stands.0 ≡ 0)

  pub turn_works : (so_far turn : List Step) → IsTurn l so_far turn → is_closing so_far ≡ false
  turn_works so_far turn does = ⊎_elim (λ (t : IsTake l so_far turn). t.works) (λ (d : IsDispatch l so_far turn). d.works) does

  -- a turn before another one found memory
  none_before : (so_far turn : List Step) → IsTurn l so_far turn → IsLast so_far
  none_before so_far turn does first next d stands is short_next =
      absurd (false≢true (sym (turn_works so_far turn does) ∙ short_closes so_far (ap ran_short is ∙ short_right first next short_next)))

  -- where its port accepted these
  module _ (accepted : List Taken) where
    abbrev pub ForDispatch : ℕ → List ℕ → Type 0
    ForDispatch n text = PaidForDispatch l.desk n accepted desk short text

    module _ (so_far turn : List Step) (d : IsDispatch l so_far turn) (stands : StandsIn desk d.noted) (listed : slice_get accepted d.taken.position ≡ Some d.taken) (last_if : ran_short turn ≡ true → (short ≡ true) × (dispatches stands.0 ≡ 0)) where
      abbrev middle : List Step
      middle = at_desk l.number d.noted ∷ lacked_if d.made.no_memory

      abbrev before_it : List Step
      before_it = so_far ++ d.served ++ middle

      goes_at : (n : ℕ) → Goes (λ _. ⊥) n d.taken.item d.noted.entry.plain.event d.made.reply d.served
      goes_at n = comes_goes (λ _. ⊥) n l so_far d.taken d.asked d.heard d.made d.noted d.served (λ s i history e below. below) d.serves d.comes

      paid_for : was_sent_on d.noted.entry ≡ false → IsReplied d.made.reply → (n : ℕ) (m : MessageData) → d.taken.item.duty ≡ duty.Slot n → d.settles.told ≡ Some m → ForDispatch n (spelling m)
      paid_for kept some n m owed told =
          let so = has_replied l.desk d.taken d.asked d.heard d.made d.noted some d.comes in
          record {
            before = d.noted.before;
            entry = d.noted.entry;
            behind = stands.0;
            there = stands.1 ∙ append_assoc d.noted.before (d.noted.entry ∷ []) stands.0;
            owed = place_is_of l.desk d.taken d.asked d.heard d.made d.noted n accepted listed d.comes ∙ ap (owes n) owed ∙ eq-eqb n n refl;
            kept = kept;
            position = d.taken.position;
            route = so.route;
            words = so.words;
            quit = so.quit;
            event_is = so.event_is;
            item = d.taken.item;
            item_is = so.item_is;
            item_at = listed;
            meets = so.meets;
            leads_there = so.leads_there;
            reply = so.reply;
            replies = so.replies;
            text_is =
                text_so short stands.0 d.taken.item.duty so.reply d.made.reply d.settles.told m d.settles.text so.made_is told
                (λ e. last_if (ap ran_short d.is ∙ short_right (d.served ++ middle) d.settled (short_in_text ForDispatch l before_it d.taken.item.duty d.made.reply d.settled d.settles e)))
                d.settles.writes;
          }

      settled_fills : Goes (λ _. ⊥) 0 d.taken.item d.noted.entry.plain.event d.made.reply d.served → FillsSo ForDispatch d.settled
      settled_fills (on is none adds wrote) =
          uncounted ForDispatch d.settled (λ n. (settles_none (λ _. ⊥) n l before_it d.taken.item.duty d.made.reply d.settled d.settles none).most)
      settled_fills (stays is some adds) = settles_fill ForDispatch l before_it d.taken.item.duty d.made.reply d.settled d.settles some (paid_for is some)

      dispatch_fills : FillsSo ForDispatch turn
      dispatch_fills =
          fills_both ForDispatch (d.served ++ middle) d.settled turn
          (fills_both ForDispatch d.served middle (d.served ++ middle) (uncounted ForDispatch d.served (λ n. goes_few n d.taken.item d.noted.entry.plain.event d.made.reply d.served (goes_at n)))
          (fills_none ForDispatch middle (middle_fills d.noted d.made.no_memory)) refl)
          (settled_fills (goes_at 0)) d.is

    take_fills : (so_far turn : List Step) → IsTake l so_far turn → FillsSo ForDispatch turn
    take_fills so_far turn t = fills_none ForDispatch turn (ap book_entries t.is)

    pub work_fills : (work : List Step) → Works l work → AllStand work → IsLast work → Lists l accepted work → FillsSo ForDispatch work
    work_fills _ begun stand last lists = fills_none ForDispatch [] refl
    work_fills _ (went_on so_far turn works does) stand last lists =
        let before = lists_before l accepted so_far turn lists in
        let parts = flat_map-append (desk_entry l.number) so_far turn in
        fills_both ForDispatch so_far turn (so_far ++ turn)
        (work_fills so_far works
        (λ x there. stand x (subst (λ (k : List (Noted EntryData)). Contains k x) (sym parts) (Contains-append_left (desk_entries l.number so_far) (desk_entries l.number turn) x there)))
        (none_before so_far turn does) before)
        (⊎_elim (λ (t : IsTake l so_far turn). take_fills so_far turn t)
        (λ (d : IsDispatch l so_far turn).
        let stands =
        stand d.noted
        (subst (λ (k : List (Noted EntryData)). Contains k d.noted) (sym parts)
        (Contains-append_right (desk_entries l.number so_far) (desk_entries l.number turn) d.noted
        (subst (λ (k : List (Noted EntryData)). Contains k d.noted) (sym (turn_enters l so_far turn d)) (Contains-push [] d.noted)))) in
        dispatch_fills so_far turn d stands (listed_at l accepted so_far turn before d) (λ e. last so_far turn d stands refl e)) does)
        refl

module _ (l : LooperFacts) (steps : List Step) (port : List PortEntry) (desk : List EntryData) (has : HasDiary l steps port desk) where
  abbrev work : List Step
  work = has.legal.work

  stands_so : AllStand l desk (ran_short steps) steps
  stands_so x there = All-contains (StandsIn desk) (noted by_number (thread_of l) desk) x (noted_stands by_number (thread_of l) desk) (subst (λ (k : List (Noted EntryData)). Contains k x) (sym has.desk_told) there)

  pub stands_in_work : AllStand l desk (ran_short steps) work
  stands_in_work x there =
      stands_so x
      (subst (λ (k : List (Noted EntryData)). Contains k x) (sym (ap (desk_entries l.number) has.legal.is ∙ flat_map-append (desk_entry l.number) work has.legal.end))
      (Contains-append_left (desk_entries l.number work) (desk_entries l.number has.legal.end) x there))

  pub last_in_work : IsLast l desk (ran_short steps) work
  last_in_work so_far turn d stands is short =
      let told : noted by_number (thread_of l) desk ≡ desk_entries l.number so_far ++ d.noted ∷ [] =
      has.desk_told ∙ work_entries l steps port desk has ∙ ap (desk_entries l.number) is ∙ flat_map-append (desk_entry l.number) so_far turn
      ∙ ap (λ k. desk_entries l.number so_far ++ k) (turn_enters l so_far turn d) in
      let others = others_behind by_number (thread_of l) desk (desk_entries l.number so_far) d.noted stands.0 stands.1 told in
      let own = all_own l.desk.looper 0 l.desk desk has.desk_legal.state has.desk_legal.history.replays in (
        ap ran_short has.legal.is ∙ short_left work has.legal.end (ap ran_short is ∙ short_right so_far turn short),
        none_dispatched l.desk.looper (d.noted.before ++ d.noted.entry ∷ []) stands.0 (subst (All (IsOwnEntry l.desk.looper)) stands.1 own)
            (subst (λ (k : ℕ). AreByOthers by_number (looper_thread k) stands.0) (sym has.own_desk) others),
      )

  abbrev ForAny : ℕ → List ℕ → Type 0
  ForAny n text = PaidForDispatch l.desk n (written_in port) desk (ran_short steps) text ⊎ ForLeft (left_in l steps has.legal) n text

  diary_fills : AcceptedIsDispatchedThenLeft → FillsSo ForAny steps
  diary_fills every =
      let e = has.legal.ends in
      let left = left_in l steps has.legal in
      fills_both ForAny work has.legal.end steps
      (fills_more (ForDispatch l desk (ran_short steps) (written_in port)) ForAny work (λ n text p. inl p)
      (work_fills l desk (ran_short steps) (written_in port) work has.legal.works stands_in_work last_in_work (lists_all every l steps port desk has)))
      (fills_both ForAny (at_port l.number e.noted ∷ []) e.answers has.legal.end (fills_none ForAny (at_port l.number e.noted ∷ []) refl)
      (fills_more (ForLeft left) ForAny e.answers (λ n text p. inr p) (leaves_fill left e.answers e.leaves)) e.is) has.legal.is

pub loopers_pay : AcceptedIsDispatchedThenLeft → LoopersPay
loopers_pay every l steps port desk has n text x there is =
    All-contains (IsFillSo (ForAny l steps port desk has)) (book_entries steps) x (diary_fills l steps port desk has every) there n text is
