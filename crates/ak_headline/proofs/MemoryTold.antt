-- Where an entry tells want of memory, the diary of its looper tells it too, and nothing was dispatched behind it.
use Rattle.std.proofs.Common.{◌≡◌, ℕ, suc, ◌+◌, ◌==◌, Bool, true, false, List, [], ◌∷◌, ◌++◌, map, Contains, Some, option_map, slice_get, refl, sym, ap, ◌∙◌, subst, append_assoc, arith, ⊎_elim}
use Rattle.std.specs.Prelude.{◌||◌}
use Rattle.std.proofs.lemmas.Bool.{false≢true}
use Rattle.std.proofs.lemmas.Grind.{flat_map-append}
use Rattle.std.proofs.lemmas.List.Elements.{All-contains, Contains-append_cases, Contains-append_right, Contains-push}
use Rattle.std.proofs.lemmas.Option.{slice_get_within}
use Rattle.ak_base.specs.Thread.{looper_thread}
use Rattle.ak_flatten.specs.declared.item.Taken.{Taken}
use Rattle.ak_turn.specs.Noted.{Noted, StandsIn, entry_of}
use Rattle.ak_roster.specs.declared.head.AppHead.{AppHead}
use Rattle.ak_port.specs.declared.port_entry.PortEntry.{PortEntry}
use Rattle.ak_port.specs.PortCalls.{PortData}
use Rattle.ak_route.specs.declared.outcome.Route.{Route}
use Rattle.ak_route.specs.declared.outcome.Route.TheVariants as route
use Rattle.ak_action.specs.declared.answer.Answer.{Answer}
use Rattle.ak_action.specs.declared.answer.AnswerWord.{AnswerWord}
use Rattle.ak_action.specs.declared.answer.Want.{Want}
use Rattle.ak_action.specs.declared.state.DeskState.{DeskState}
use Rattle.ak_desk.specs.declared.entry.DeskEvent.{DeskEvent}
use Rattle.ak_desk.specs.declared.entry.DeskEvent.TheVariants as event
use Rattle.ak_desk.specs.declared.entry.EntryRoute.{EntryRoute}
use Rattle.ak_desk.specs.declared.entry.EntryRoute.TheVariants as went
use Rattle.ak_desk.specs.declared.made.Made.{Made}
use Rattle.ak_desk.specs.Desk.{DeskData, dispatched_entry, given_up_entry}
use Rattle.ak_desk.specs.Dispatch.{entry_route, ran_out}
use Rattle.ak_desk.specs.Entry.{EntryData}
use Rattle.ak_desk.specs.Machine.{IsHistory, dispatches, gives_up, paired}
use Rattle.ak_desk.specs.Place.{routed_of}
use Rattle.ak_desk.specs.Shared.{by_number}
use Rattle.ak_desk.proofs.Surface.{paired_routed}
use Rattle.ak_diary.specs.declared.histories.Histories.{Histories}
use Rattle.ak_diary.specs.Diary.{Works, begun, went_on}
use Rattle.ak_diary.specs.Laws.{EachIsDispatchedByRule, IsDispatchedSo, WasGivenUp, WentByRule}
use Rattle.ak_diary.specs.Looper.{LooperFacts}
use Rattle.ak_diary.specs.Looper as loopers
use Rattle.ak_diary.specs.Step.{Step, at_desk, desk_entries, desk_entry, ran_short}
use Rattle.ak_diary.specs.Turns.{Carried, ComesTo, GivenUp, IsDispatch, IsTake, lacked_if}
use Rattle.ak_headline.specs.Headline.{RunsTellWantOfMemory, TellsWantOfMemory, WentWithMemory, tells_want}
use Rattle.ak_headline.specs.Run.{HasLooper, desk_list, port_list}
use Rattle.ak_headline.proofs.Asking.{none_in, only_in}
use Rattle.ak_headline.proofs.LastTurn.{dispatches_behind, short_closes}
use Rattle.ak_headline.proofs.Lists.{same_last}
use Rattle.ak_headline.proofs.Loopers.{desk_there, each_at}
use Rattle.ak_headline.proofs.LoopersTold.{IsOwn, list_both, middle, own_list, turn_enters}
use Rattle.ak_headline.proofs.Paying.{last_in_work, short_left, short_right, stands_in_work, turn_works}
use Rattle.ak_headline.proofs.Replies.{is_short}
use Rattle.ak_headline.proofs.Senders.{parted_in}
use Rattle.ak_headline.proofs.SendsTold.{IsOwnEntry, all_own, contains_kept}
use Rattle.ak_headline.proofs.WithMemory.{with_memory}

-- ---- what a dispatch came to, by its entry
pub record ComesSo (taken : Taken) (made : Made) (x : Noted EntryData) : Type 0 where
  pub route : EntryRoute
  pub words : List AnswerWord
  pub quit : Bool
  pub event_is : x.entry.plain.event ≡ event.Dispatched taken.position route words quit
  pub position_is : taken.position ≡ dispatches x.before
  pub memory : tells_want (event.Dispatched taken.position route words quit) ≡ made.no_memory

no_giving_up : (s : DeskState) (r : Route) (position : ℕ) (words : List AnswerWord) (quit : Bool) → gives_up (event.Dispatched position (entry_route s r) words quit) ≡ false
no_giving_up s (route.Deliver token t) position words quit = refl
no_giving_up s route.Skipped position words quit = refl
no_giving_up s route.Dropped position words quit = refl
no_giving_up s route.NotUnderstood position words quit = refl
no_giving_up s (route.Forward looper) position words quit = refl

module _ (opening : DeskState) (taken : Taken) (asked : List Want) (heard : List Answer) (made : Made) (x : Noted EntryData) where
  carried_so : Carried opening taken asked heard made x → ComesSo taken made x
  carried_so c =
      let d = c.dispatched in
      let is : x.entry ≡ dispatched_entry x.before c.clock taken.position taken.item c.before d.words d.quit = same_last x.before x.entry _ d.grown in
      let r = (routed_of c.before taken.item).route in
      record {
        route = entry_route c.before r;
        words = d.words;
        quit = d.quit;
        event_is = ap (λ (e : EntryData). e.plain.event) is;
        position_is = d.position_is;
        memory = ap (λ b. b || ran_out d.words) (no_giving_up c.before r taken.position d.words d.quit) ∙ sym (ap (λ (k : Made). k.no_memory) d.made_is);
      }

  given_up_so : GivenUp opening taken asked heard made x → ComesSo taken made x
  given_up_so c =
      let is : x.entry ≡ given_up_entry x.before c.clock taken.position = same_last x.before x.entry _ c.given_up.grown in
      record {
        route = went.NoMemory;
        words = [];
        quit = false;
        event_is = ap (λ (e : EntryData). e.plain.event) is;
        position_is = c.given_up.position_is;
        memory = sym (ap (λ (k : Made). k.no_memory) c.given_up.made_is);
      }

  comes_so : ComesTo opening taken asked heard made x → ComesSo taken made x
  comes_so comes = ⊎_elim (λ (c : Carried opening taken asked heard made x). carried_so c) (λ (c : GivenUp opening taken asked heard made x). given_up_so c) comes

or_false : (a b : Bool) → (a || b) ≡ false → (a ≡ false) × (b ≡ false)
or_false true b is = absurd (false≢true (sym is))
or_false false b is = (refl, is)

-- ---- its turn
module _ (l : LooperFacts) where
  lack_short : (x : Noted EntryData) (b : Bool) → b ≡ true → ran_short (at_desk l.number x ∷ lacked_if b) ≡ true
  lack_short x true is = refl
  lack_short x false is = absurd (false≢true is)

  module _ (so_far turn : List Step) (d : IsDispatch l so_far turn) where
    abbrev its : ComesSo d.taken d.made d.noted
    its = comes_so l.desk d.taken d.asked d.heard d.made d.noted d.comes

    pub dispatch_short : tells_want d.noted.entry.plain.event ≡ true → ran_short turn ≡ true
    dispatch_short tells =
        let none : d.made.no_memory ≡ true = sym its.memory ∙ ap tells_want (sym its.event_is) ∙ tells in
        ap ran_short d.is ∙ short_left (d.served ++ middle l so_far turn d) d.settled (short_right d.served (middle l so_far turn d) (lack_short d.noted d.made.no_memory none))

  -- the last turn of its work is the dispatch with that entry
  pub record IsLastTurn (work : List Step) (entry : EntryData) : Type 0 where
    pub so_far : List Step
    pub turn : List Step
    pub d : IsDispatch l so_far turn
    pub is : work ≡ so_far ++ turn
    pub entry_is : d.noted.entry ≡ entry
    pub short : ran_short turn ≡ true

  pub last_turn : (entry : EntryData) → tells_want entry.plain.event ≡ true → (work : List Step) → Works l work → Contains (loopers.desk_list l work) entry → IsLastTurn work entry
  last_turn entry tells _ begun there = absurd (none_in entry there)
  last_turn entry tells _ (went_on so_far turn works does) there =
      ⊎_elim
      (λ (earlier : Contains (loopers.desk_list l so_far) entry).
      let t = last_turn entry tells so_far works earlier in
      absurd (false≢true (sym (turn_works l [] false so_far turn does) ∙ short_closes so_far (ap ran_short t.is ∙ short_right t.so_far t.turn t.short))))
      (λ (here : Contains (loopers.desk_list l turn) entry).
      ⊎_elim
      (λ (t : IsTake l so_far turn). absurd (none_in entry (subst (λ (k : List Step). Contains (loopers.desk_list l k) entry) t.is here)))
      (λ (d : IsDispatch l so_far turn).
      let same : d.noted.entry ≡ entry = only_in d.noted.entry entry (subst (λ (k : List (Noted EntryData)). Contains (map entry_of k) entry) (turn_enters l so_far turn d) here) in
      record {
        so_far = so_far;
        turn = turn;
        d = d;
        is = refl;
        entry_is = same;
        short = dispatch_short so_far turn d (ap (λ (e : EntryData). tells_want e.plain.event) same ∙ tells);
      }) does)
      (Contains-append_cases (loopers.desk_list l so_far) (loopers.desk_list l turn) entry (subst (λ (k : List EntryData). Contains k entry) (list_both l so_far turn) there))

-- ---- one looper
record IsDispatchEntry (e : DeskEvent) : Type 0 where
  position : ℕ
  route : EntryRoute
  words : List AnswerWord
  quit : Bool
  is : e ≡ event.Dispatched position route words quit

telling_form : (e : DeskEvent) → tells_want e ≡ true → IsDispatchEntry e
telling_form (event.Dispatched position r words quit) e = record { position = position; route = r; words = words; quit = quit; is = refl }
telling_form (event.Edited edit answer) e = absurd (false≢true e)

telling_own : (e : DeskEvent) (b : Bool) → tells_want e ≡ true → IsOwn e b → b ≡ true
telling_own (event.Dispatched position r words quit) b is own = own
telling_own (event.Edited edit answer) b is own = absurd (false≢true is)

module _ (law : EachIsDispatchedByRule) (heads : List AppHead) (short : List ℕ) (h : Histories) (k : ℕ) (has : HasLooper heads short h k) (before : List EntryData) (entry : EntryData)
    (behind : List EntryData) (there : desk_list h k ≡ before ++ entry ∷ behind) (tells : tells_want entry.plain.event ≡ true) where
  abbrev l : LooperFacts
  l = has.facts

  abbrev desk : List EntryData
  desk = desk_list h k

  abbrev work : List Step
  work = has.diary.legal.work

  within : Contains desk entry
  within = parted_in desk entry before behind there

  mine : EntryData → Bool
  mine x = by_number x == looper_thread l.desk.looper

  is_mine : mine entry ≡ true
  unfolding mine
  is_mine = telling_own entry.plain.event (mine entry) tells (All-contains (IsOwnEntry l.desk.looper) desk entry (all_own l.desk.looper 0 l.desk desk has.diary.desk_legal.state has.diary.desk_legal.history.replays) within)

  in_work : Contains (loopers.desk_list l work) entry
  unfolding mine
  in_work = subst (λ (xs : List EntryData). Contains xs entry) (own_list l has.steps (port_list h k) desk has.diary) (contains_kept mine desk entry within is_mine)

  its_turn : IsLastTurn l work entry
  its_turn = last_turn l entry tells work has.diary.legal.works in_work

  abbrev noted : Noted EntryData
  noted = its_turn.d.noted

  in_entries : Contains (desk_entries l.number work) noted
  in_entries =
      subst (λ (xs : List (Noted EntryData)). Contains xs noted) (sym (ap (desk_entries l.number) its_turn.is ∙ flat_map-append (desk_entry l.number) its_turn.so_far its_turn.turn))
      (Contains-append_right (desk_entries l.number its_turn.so_far) (desk_entries l.number its_turn.turn) noted
      (subst (λ (xs : List (Noted EntryData)). Contains xs noted) (sym (turn_enters l its_turn.so_far its_turn.turn its_turn.d)) (Contains-push [] noted)))

  stands : StandsIn desk noted
  stands = stands_in_work l has.steps (port_list h k) desk has.diary noted in_entries

  last : (ran_short has.steps ≡ true) × (dispatches stands.0 ≡ 0)
  last = last_in_work l has.steps (port_list h k) desk has.diary its_turn.so_far its_turn.turn its_turn.d stands its_turn.is its_turn.short

  form : IsDispatchEntry entry.plain.event
  form = telling_form entry.plain.event tells

  here : dispatches desk ≡ suc form.position + dispatches behind
  here =
      ap dispatches there
      ∙ dispatches_behind before entry behind form.position form.route form.words form.quit form.is
      (law l has.steps (port_list h k) desk has.diary before entry behind form.position form.route form.words form.quit there form.is).position_is

  came : ComesSo its_turn.d.taken its_turn.d.made noted
  came = comes_so l.desk its_turn.d.taken its_turn.d.asked its_turn.d.heard its_turn.d.made noted its_turn.d.comes

  at_turn : dispatches desk ≡ suc its_turn.d.taken.position + dispatches stands.0
  at_turn =
      ap dispatches (stands.1 ∙ append_assoc noted.before (noted.entry ∷ []) stands.0)
      ∙ dispatches_behind noted.before noted.entry stands.0 its_turn.d.taken.position came.route came.words came.quit came.event_is came.position_is

  same_position : form.position ≡ its_turn.d.taken.position
  same_position =
      let both : event.Dispatched form.position form.route form.words form.quit ≡ event.Dispatched its_turn.d.taken.position came.route came.words came.quit =
      sym form.is ∙ ap (λ (e : EntryData). e.plain.event) (sym its_turn.entry_is) ∙ came.event_is in
      cc both

  pub is_told : Contains short k × (dispatches behind ≡ 0)
  is_told = (is_short short k (sym has.short_is ∙ last.0), omega (arith, here, at_turn, same_position, last.1))

-- ---- each other dispatch
none_told : (position : ℕ) (r : EntryRoute) (words : List AnswerWord) (quit : Bool) → tells_want (event.Dispatched position r words quit) ≡ false → (gives_up (event.Dispatched position r words quit) ≡ false) × (ran_out words ≡ false)
none_told position r words quit is = or_false (gives_up (event.Dispatched position r words quit)) (ran_out words) is

went_so : (opening : DeskState) (l : LooperFacts) (port : List PortEntry) (before : List EntryData) (entry : EntryData) (position : ℕ) (r : EntryRoute) (words : List AnswerWord) (quit : Bool) → l.desk ≡ opening
    → tells_want (event.Dispatched position r words quit) ≡ false → IsDispatchedSo l port before entry position r words quit → WentWithMemory opening before entry r words quit
went_so opening l port before entry position r words quit is none so =
    let told = none_told position r words quit none in
    let goes : WentByRule so.meets so.item r words quit so.leaves =
    ⊎_elim (λ (goes : WentByRule so.meets so.item r words quit so.leaves). goes)
    (λ (given_up : WasGivenUp so.meets r words quit so.leaves).
    absurd (false≢true (sym told.0 ∙ ap (λ (k : EntryRoute). gives_up (event.Dispatched position k words quit)) given_up.route))) so.goes in
    record {
      item = so.item;
      item_is = so.item_is ∙ ap (λ (k : EntryRoute). paired k so.item) goes.route ∙ paired_routed so.meets (routed_of so.meets so.item).route so.item;
      meets = so.meets;
      leaves = so.leaves;
      leads_there = subst (λ (s : DeskState). IsHistory s before so.meets) is so.leads_there;
      leads_on = subst (λ (s : DeskState). IsHistory s (before ++ entry ∷ []) so.leaves) is so.leads_on;
      route = goes.route;
      dispatch = with_memory so.meets so.item words quit so.leaves goes.comes told.1;
    }

-- ---- of all
module _ (law : EachIsDispatchedByRule) (heads : List AppHead) (short : List ℕ) (h : Histories) (k : ℕ) (has : HasLooper heads short h k) (port : PortData) (desk : DeskData)
    (at_desk : slice_get h.desks.items k ≡ Some desk) where
  desk_is : desk_list h k ≡ desk.entries
  desk_is = desk_there h k desk at_desk

  opening_is : has.facts.desk ≡ desk.opening
  opening_is = let both : Some desk.opening ≡ Some has.facts.desk = sym (ap (λ o. option_map (λ (d : DeskData). d.opening) o) at_desk) ∙ has.opened in cc both

  one_tells : TellsWantOfMemory short k port desk
  one_tells = record {
    told = λ before entry behind there tells. is_told law heads short h k has before entry behind (desk_is ∙ there) tells;
    others = λ before entry behind position r words quit there is none.
        went_so desk.opening has.facts (port_list h k) before entry position r words quit opening_is (ap tells_want (sym is) ∙ none)
        (law has.facts has.steps (port_list h k) (desk_list h k) has.diary before entry behind position r words quit (desk_is ∙ there) is);
  }

pub runs_tell_want_of_memory : EachIsDispatchedByRule → RunsTellWantOfMemory
runs_tell_want_of_memory law sessions heads short h run =
    each_at (TellsWantOfMemory short) 0 h.ports.items h.desks.items run.histories.each
    (λ k port desk at_port at_desk.
    let same : k ≡ 0 + k = omega arith in
    subst (λ (m : ℕ). TellsWantOfMemory short m port desk) same (one_tells law heads short h k (run.loopers k (slice_get_within h.ports.items k port at_port)) port desk at_desk))
