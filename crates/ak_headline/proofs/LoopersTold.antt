-- A looper's diary, turn after turn: what it asked, sent on, filled and took.
use Rattle.std.proofs.Common.{◌≡◌, ℕ, ◌+◌, ◌≤◌, ◌==◌, Bool, true, false, not, cond, List, [], ◌∷◌, ◌++◌, map, Option, Some, refl, sym, ap, ◌∙◌, subst, arith, append-nil, eq-eqb, ⊎_elim}
use Rattle.std.specs.Prelude.{◌&&◌, slice_get}
use Rattle.std.proofs.lemmas.Grind.{flat_map-append}
use Rattle.std.proofs.lemmas.List.{map-append}
use Rattle.ak_base.specs.Thread.{looper_thread}
use Rattle.ak_flatten.specs.Item.{ItemData}
use Rattle.ak_flatten.specs.declared.item.Duty.{Duty}
use Rattle.ak_flatten.specs.declared.item.Duty.TheVariants as duty
use Rattle.ak_flatten.specs.declared.item.Taken.{Taken}
use Rattle.ak_turn.specs.Entries.{made_by}
use Rattle.ak_turn.specs.Noted.{Noted, entry_of}
use Rattle.ak_turn.proofs.Surface.{noted_is_made}
use Rattle.ak_port.specs.declared.port_entry.PortEntry.{PortEntry}
use Rattle.ak_port.specs.PortMachine.{written_in}
use Rattle.ak_route.specs.Laws.{ForwardIsLater}
use Rattle.ak_route.specs.declared.outcome.Route.TheVariants as route
use Rattle.ak_action.specs.declared.state.DeskState.{DeskState}
use Rattle.ak_desk.specs.declared.entry.DeskEvent.{DeskEvent}
use Rattle.ak_desk.specs.declared.entry.DeskEvent.TheVariants as event
use Rattle.ak_desk.specs.Entry.{EntryData}
use Rattle.ak_desk.specs.Machine.{IsBy, IsHistory, Replays, counted}
use Rattle.ak_desk.specs.Place.{routed_of}
use Rattle.ak_desk.specs.Shared.{by_number}
use Rattle.ak_diary.specs.Diary.{Works, begun, went_on}
use Rattle.ak_diary.specs.Laws.{AcceptedIsDispatchedThenLeft, HasDiary, left_in}
use Rattle.ak_diary.specs.Looper.{LooperFacts, desk_list, thread_of}
use Rattle.ak_diary.specs.Step.{Step, at_desk, at_port, desk_entries, desk_entry, lacked}
use Rattle.ak_diary.specs.Turns as turns
use Rattle.ak_diary.specs.Turns.{IsDispatch, IsEnd, IsTake, LeavesAll, LeavesOne, lacked_if, left_at}
use Rattle.ak_diary.proofs.Surface.{all_serving, are_quiet, quiet_at_no_desk, settles_quiet}
use Rattle.ak_headline.specs.Answers.{owes}
use Rattle.ak_headline.specs.Diaries.{LoopersSendUp, LoopersTally}
use Rattle.ak_headline.specs.Tally.{how_many, kept_in, owes_at, owes_entry, owes_event, owing_in, sent_on_in, was_sent_on, writes_owing}
use Rattle.ak_headline.proofs.Counting.{Adds, add_as, add_before, add_behind, add_both, add_counted, add_none, add_port, add_so, bit, count_one, many_both, many_one}
use Rattle.ak_headline.proofs.Later.{goes_up, number_stays}
use Rattle.ak_headline.proofs.Listed.{Lists, listed_at, lists_all, lists_before}
use Rattle.ak_headline.proofs.Owing.{add_leaves_all, settles_none, settles_owed}
use Rattle.ak_headline.proofs.SentOn.{Goes, comes_goes, entry_is_of, on, place_is_of, stays}

-- ---- the desk's entries
pub list_both : (l : LooperFacts) (xs ys : List Step) → desk_list l (xs ++ ys) ≡ desk_list l xs ++ desk_list l ys
list_both l xs ys = ap (map entry_of) (flat_map-append (desk_entry l.number) xs ys) ∙ map-append entry_of (desk_entries l.number xs) (desk_entries l.number ys)

own_step : {A : Type 0} (looper : ℕ) (n : A) (ns : List A) → cond (looper == looper) (n ∷ []) [] ++ ns ≡ n ∷ ns
own_step looper n ns = ap (λ b. cond b (n ∷ []) [] ++ ns) (eq-eqb looper looper refl)

middle_enters : (looper : ℕ) (x : Noted EntryData) (b : Bool) → desk_entries looper (at_desk looper x ∷ lacked_if b) ≡ x ∷ []
middle_enters looper x true = own_step looper x []
middle_enters looper x false = own_step looper x []

module _ (l : LooperFacts) (so_far turn : List Step) (d : IsDispatch l so_far turn) where
  abbrev pub middle : List Step
  middle = at_desk l.number d.noted ∷ lacked_if d.made.no_memory

  -- a dispatch makes one entry there
  pub turn_enters : desk_entries l.number turn ≡ d.noted ∷ []
  turn_enters =
      ap (desk_entries l.number) d.is ∙ flat_map-append (desk_entry l.number) (d.served ++ middle) d.settled
      ∙ (λ i. flat_map-append (desk_entry l.number) d.served middle i ++ quiet_at_no_desk l.number d.settled (settles_quiet l (so_far ++ d.served ++ middle) d.taken.item.duty d.made.reply d.settled d.settles) i)
      ∙ (λ i. (quiet_at_no_desk l.number d.served (are_quiet d.served (all_serving l so_far d.taken.item d.asked d.heard d.served d.serves)) i ++ middle_enters l.number d.noted d.made.no_memory i) ++ [])

-- what is left makes none
fills_at_no_desk : (looper n : ℕ) (text : List ℕ) (steps : List Step) → turns.Fills n text steps → desk_entries looper steps ≡ []
fills_at_no_desk looper n text steps f =
    ⊎_elim (λ (t : turns.EntersFill n text steps). ap (desk_entries looper) t.is) (λ (t : turns.FindsSettled n steps). ap (desk_entries looper) t.is) f

leaves_one_at_no_desk : (looper : ℕ) (owed : Duty) (steps : List Step) → LeavesOne owed steps → desk_entries looper steps ≡ []
leaves_one_at_no_desk looper duty.None steps f = ap (desk_entries looper) f
leaves_one_at_no_desk looper (duty.Slot n) steps f = fills_at_no_desk looper n _ steps f
leaves_one_at_no_desk looper (duty.Back to) steps f = ap (desk_entries looper) f

leaves_at_no_desk : (looper : ℕ) (left : List Taken) (steps : List Step) → LeavesAll left steps → desk_entries looper steps ≡ []
leaves_at_no_desk looper [] steps f = ap (desk_entries looper) f
leaves_at_no_desk looper (taken ∷ left) steps f =
    ap (desk_entries looper) f.4 ∙ flat_map-append (desk_entry looper) f.0 f.1 ∙ (λ i. leaves_one_at_no_desk looper taken.item.duty f.0 f.2 i ++ leaves_at_no_desk looper left f.1 f.3 i)

module _ (l : LooperFacts) (steps : List Step) (port : List PortEntry) (desk : List EntryData) (has : HasDiary l steps port desk) where
  abbrev work : List Step
  work = has.legal.work

  abbrev rest : Noted PortEntry
  rest = has.legal.ends.noted

  abbrev answers : List Step
  answers = has.legal.ends.answers

  pub work_entries : desk_entries l.number steps ≡ desk_entries l.number work
  work_entries =
      ap (desk_entries l.number) (has.legal.is ∙ ap (λ s. work ++ s) has.legal.ends.is) ∙ flat_map-append (desk_entry l.number) work (at_port l.number rest ∷ answers)
      ∙ ap (λ k. desk_entries l.number work ++ k) (leaves_at_no_desk l.number (left_at l work rest) answers has.legal.ends.leaves) ∙ append-nil (desk_entries l.number work)

  pub work_list : desk_list l steps ≡ desk_list l work
  work_list = ap (map entry_of) work_entries

  -- its own entries are those of its work
  pub own_list : made_by by_number (looper_thread l.desk.looper) desk ≡ desk_list l work
  own_list =
      ap (λ (k : ℕ). made_by by_number (looper_thread k) desk) has.own_desk ∙ sym (noted_is_made by_number (thread_of l) desk) ∙ ap (map entry_of) has.desk_told ∙ work_list

-- ---- counted
-- an entry that has to be among the looper's own
abbrev pub IsOwn : DeskEvent → Bool → Type 0
IsOwn (event.Dispatched position r words quit) b = b ≡ true
IsOwn (event.Edited edit answer) b = Unit {0}

pub is_own : (looper by : ℕ) (e : DeskEvent) → IsBy looper by e → IsOwn e (by == looper_thread looper)
is_own looper by (event.Dispatched position r words quit) own = eq-eqb by (looper_thread looper) own
is_own looper by (event.Edited edit answer) own = tt

module _ (test : EntryData → Bool) (spares : (x : EntryData) → IsOwn x.plain.event false → test x ≡ false) where
  many_first : (x : EntryData) (xs : List EntryData) → how_many test (x ∷ xs) ≡ bit (test x) + how_many test xs
  many_first x xs = many_both test (x ∷ []) xs ∙ ap (λ (k : ℕ). k + how_many test xs) (many_one test x)

  own_first : (x : EntryData) (mine : List EntryData) (b : Bool) → IsOwn x.plain.event b → bit (test x) + how_many test mine ≡ how_many test (cond b (x ∷ mine) mine)
  own_first x mine true own = sym (many_first x mine)
  own_first x mine false own = omega (arith, ap bit (spares x own))

  -- those of others are edits
  pub own_many : (looper n : ℕ) (s : DeskState) (entries : List EntryData) (t : DeskState) → Replays looper n s entries t → how_many test entries ≡ how_many test (made_by by_number (looper_thread looper) entries)
  own_many looper n s [] t e = refl
  own_many looper n s (x ∷ entries) t (u, (step, rest)) =
      many_first x entries ∙ ap (λ (k : ℕ). bit (test x) + k) (own_many looper (counted n x.plain.event) u entries t rest)
      ∙ own_first x (made_by by_number (looper_thread looper) entries) (by_number x == looper_thread looper) (is_own looper x.plain.by.0 x.plain.event step.by)

pub no_owing : (n : ℕ) (e : DeskEvent) (item : Option ItemData) → IsOwn e false → owes_event n e item ≡ false
no_owing n (event.Dispatched position r words quit) item own = absurd cc
no_owing n (event.Edited edit answer) item own = refl

pub no_place : (n : ℕ) (accepted : List Taken) (e : DeskEvent) → IsOwn e false → owes_at n accepted e ≡ false
no_place n accepted (event.Dispatched position r words quit) own = absurd cc
no_place n accepted (event.Edited edit answer) own = refl

-- ---- turn after turn
on_bit : (b : Bool) → bit (b && true) ≡ bit b
on_bit true = refl
on_bit false = refl

off_bit : (b : Bool) → bit (b && false) ≡ 0
off_bit true = refl
off_bit false = refl

module _ (later : ForwardIsLater) (l : LooperFacts) (number_is : l.desk.looper ≡ l.number) (n : ℕ) where
  -- the looper itself, and those before it
  abbrev Below : ℕ → Type 0
  Below looper = looper ≤ l.number

  pub sent_later : (taken : Taken) (x : Noted EntryData) (s : DeskState) (i : ℕ) → IsHistory l.desk x.before s → (routed_of s taken.item).route ≡ route.Forward i → s.first + i ≤ l.number → ⊥
  sent_later taken x s i history e below =
      let same = number_stays l.desk.looper 0 l.desk x.before s history.replays in
      let far = goes_up later s taken.item i e in
      absurd (omega (arith, same, far, number_is, below))

  module _ (so_far turn : List Step) (d : IsDispatch l so_far turn) where
    pub entry_alone : desk_list l turn ≡ d.noted.entry ∷ []
    entry_alone = ap (map entry_of) (turn_enters l so_far turn d)

    pub middle_adds : (b : Bool) → Adds Below n 0 0 (at_desk l.number d.noted ∷ lacked_if b)
    middle_adds true =
        add_both Below n 0 0 0 0 (at_desk l.number d.noted ∷ []) (lacked ∷ []) (add_counted Below n (at_desk l.number d.noted ∷ []) 0 0 (count_one n (at_desk l.number d.noted)) (omega arith))
        (add_counted Below n (lacked ∷ []) 0 0 (count_one n lacked) (omega arith))
    middle_adds false = add_counted Below n (at_desk l.number d.noted ∷ []) 0 0 (count_one n (at_desk l.number d.noted)) (omega arith)

    -- by what it came to: so often sent on, and so much due
    parts_add : (sent due : ℕ) → Adds Below n sent 0 d.served → Adds Below n 0 due d.settled → Adds Below n sent due turn
    parts_add sent due served settled =
        add_as Below n sent due turn (d.served ++ middle l so_far turn d ++ d.settled) d.is
        (add_so Below n (sent + 0) (0 + due) sent due (d.served ++ middle l so_far turn d ++ d.settled) (omega arith) (omega arith)
        (add_both Below n sent 0 0 due (d.served ++ middle l so_far turn d) d.settled
        (add_behind Below n sent 0 d.served (middle l so_far turn d) (d.served ++ middle l so_far turn d) served (middle_adds d.made.no_memory) refl) settled))

    sent_so : was_sent_on d.noted.entry ≡ true → sent_on_in n (desk_list l turn) ≡ bit (owes n d.taken.item.duty)
    sent_so is =
        ap (sent_on_in n) entry_alone ∙ many_one (λ (x : EntryData). owes_entry n x && was_sent_on x) d.noted.entry
        ∙ (λ i. bit (entry_is_of l.desk d.taken d.asked d.heard d.made d.noted n d.comes is i && is i)) ∙ on_bit (owes n d.taken.item.duty)

    none_sent : was_sent_on d.noted.entry ≡ false → sent_on_in n (desk_list l turn) ≡ 0
    none_sent is =
        ap (sent_on_in n) entry_alone ∙ many_one (λ (x : EntryData). owes_entry n x && was_sent_on x) d.noted.entry
        ∙ ap (λ b. bit (owes_entry n d.noted.entry && b)) is ∙ off_bit (owes_entry n d.noted.entry)

  pub end_adds : (so_far turn : List Step) (e : IsEnd l so_far turn) → Adds Below n 0 (owing_in n (left_at l so_far e.noted)) turn
  end_adds so_far turn e =
      add_before Below n 0 (owing_in n (left_at l so_far e.noted)) (at_port l.number e.noted ∷ []) e.answers turn (add_port Below n l.number e.noted (ap (writes_owing n) e.event_is))
      (add_leaves_all Below n (left_at l so_far e.noted) e.answers e.leaves) e.is

  -- where its port accepted these
  module _ (accepted : List Taken) where
    -- so many of the entries were sent on, and so many kept
    abbrev TurnAdds : List EntryData → List Step → Type 0
    TurnAdds entries steps = Adds Below n (sent_on_in n entries) (kept_in n accepted entries) steps

    take_adds : (so_far turn : List Step) → IsTake l so_far turn → TurnAdds (desk_list l turn) turn
    take_adds so_far turn t =
        subst (λ (k : List Step). TurnAdds (desk_list l k) k) (sym t.is) (add_port Below n l.number t.noted (ap (writes_owing n) t.event_is))

    module _ (so_far turn : List Step) (d : IsDispatch l so_far turn) (listed : slice_get accepted d.taken.position ≡ Some d.taken) where
      kept_so : (b : Bool) → was_sent_on d.noted.entry ≡ b → kept_in n accepted (desk_list l turn) ≡ bit (owes n d.taken.item.duty && not b)
      kept_so b is =
          ap (kept_in n accepted) (entry_alone so_far turn d) ∙ many_one (λ (x : EntryData). owes_at n accepted x.plain.event && not (was_sent_on x)) d.noted.entry
          ∙ (λ i. bit (place_is_of l.desk d.taken d.asked d.heard d.made d.noted n accepted listed d.comes i && not (is i)))

      goes_adds : Goes Below n d.taken.item d.noted.entry.plain.event d.made.reply d.served → TurnAdds (desk_list l turn) turn
      goes_adds (on is none served wrote) =
          add_so Below n (bit (owes n d.taken.item.duty)) 0 (sent_on_in n (desk_list l turn)) (kept_in n accepted (desk_list l turn)) turn
          (sym (sent_so so_far turn d is)) (sym (kept_so true is ∙ off_bit (owes n d.taken.item.duty)))
          (parts_add so_far turn d (bit (owes n d.taken.item.duty)) 0 served
          (settles_none Below n l (so_far ++ d.served ++ middle l so_far turn d) d.taken.item.duty d.made.reply d.settled d.settles none))
      goes_adds (stays is some served) =
          add_so Below n 0 (bit (owes n d.taken.item.duty)) (sent_on_in n (desk_list l turn)) (kept_in n accepted (desk_list l turn)) turn
          (sym (none_sent so_far turn d is)) (sym (kept_so false is ∙ on_bit (owes n d.taken.item.duty)))
          (parts_add so_far turn d 0 (bit (owes n d.taken.item.duty)) served
          (settles_owed Below n l (so_far ++ d.served ++ middle l so_far turn d) d.taken.item.duty d.made.reply d.settled d.settles some))

      dispatch_adds : TurnAdds (desk_list l turn) turn
      dispatch_adds = goes_adds (comes_goes Below n l so_far d.taken d.asked d.heard d.made d.noted d.served (sent_later d.taken d.noted) d.serves d.comes)

    work_adds : (work : List Step) → Works l work → Lists l accepted work → TurnAdds (desk_list l work) work
    work_adds _ begun lists = add_none Below n
    work_adds _ (went_on so_far turn works does) lists =
        let before = lists_before l accepted so_far turn lists in
        let so = work_adds so_far works before in
        let more : TurnAdds (desk_list l turn) turn =
        ⊎_elim (λ (t : IsTake l so_far turn). take_adds so_far turn t) (λ (t : IsDispatch l so_far turn). dispatch_adds so_far turn t (listed_at l accepted so_far turn before t)) does in
        let all = list_both l so_far turn in
        add_so Below n (sent_on_in n (desk_list l so_far) + sent_on_in n (desk_list l turn)) (kept_in n accepted (desk_list l so_far) + kept_in n accepted (desk_list l turn))
        (sent_on_in n (desk_list l (so_far ++ turn))) (kept_in n accepted (desk_list l (so_far ++ turn))) (so_far ++ turn)
        (sym (ap (sent_on_in n) all ∙ many_both (λ (x : EntryData). owes_entry n x && was_sent_on x) (desk_list l so_far) (desk_list l turn)))
        (sym (ap (kept_in n accepted) all ∙ many_both (λ (x : EntryData). owes_at n accepted x.plain.event && not (was_sent_on x)) (desk_list l so_far) (desk_list l turn)))
        (add_both Below n (sent_on_in n (desk_list l so_far)) (kept_in n accepted (desk_list l so_far)) (sent_on_in n (desk_list l turn)) (kept_in n accepted (desk_list l turn)) so_far turn so more)

module _ (later : ForwardIsLater) (every : AcceptedIsDispatchedThenLeft) (l : LooperFacts) (steps : List Step) (port : List PortEntry) (desk : List EntryData) (has : HasDiary l steps port desk) (n : ℕ) where
  told_of : (test : EntryData → Bool) → ((x : EntryData) → IsOwn x.plain.event false → test x ≡ false) → how_many test desk ≡ how_many test (desk_list l has.legal.work)
  told_of test spares =
      own_many test spares l.desk.looper 0 l.desk desk has.desk_legal.state has.desk_legal.history.replays ∙ ap (how_many test) (own_list l steps port desk has)

  diary_adds : Adds (λ looper. looper ≤ l.number) n (sent_on_in n desk) (kept_in n (written_in port) desk + owing_in n (left_in l steps has.legal)) steps
  diary_adds =
      let sent = told_of (λ (x : EntryData). owes_entry n x && was_sent_on x) (λ x own. ap (λ b. b && was_sent_on x) (no_owing n x.plain.event x.item own)) in
      let kept =
      told_of (λ (x : EntryData). owes_at n (written_in port) x.plain.event && not (was_sent_on x)) (λ x own. ap (λ b. b && not (was_sent_on x)) (no_place n (written_in port) x.plain.event own)) in
      let work = has.legal.work in
      let left = owing_in n (left_in l steps has.legal) in
      add_as (λ looper. looper ≤ l.number) n (sent_on_in n desk) (kept_in n (written_in port) desk + left) steps (work ++ has.legal.end) has.legal.is
      (add_so (λ looper. looper ≤ l.number) n (sent_on_in n (desk_list l work) + 0) (kept_in n (written_in port) (desk_list l work) + left) (sent_on_in n desk)
      (kept_in n (written_in port) desk + left) (work ++ has.legal.end) (omega (arith, sent)) (omega (arith, kept))
      (add_both (λ looper. looper ≤ l.number) n (sent_on_in n (desk_list l work)) (kept_in n (written_in port) (desk_list l work)) 0 left work has.legal.end
      (work_adds later l has.own_desk n (written_in port) work has.legal.works (lists_all every l steps port desk has)) (end_adds later l has.own_desk n work has.legal.end has.legal.ends)))

pub loopers_tally : ForwardIsLater → AcceptedIsDispatchedThenLeft → LoopersTally
loopers_tally later every l steps port desk has n =
    let a = diary_adds later every l steps port desk has n in
    record { asks = a.asks; sent = a.sent_are; opened = a.opened; took = a.took; filled = a.most; settled = a.settled }

pub loopers_send_up : ForwardIsLater → AcceptedIsDispatchedThenLeft → LoopersSendUp
loopers_send_up later every l steps port desk has n looper below untaken =
    let a = diary_adds later every l steps port desk has n in
    let few = a.up looper below in
    omega (arith, few, a.took, untaken)
