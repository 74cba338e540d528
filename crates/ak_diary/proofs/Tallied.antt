-- What a looper took and dispatched, turn after turn.
use Rattle.std.proofs.Common.{◌≡◌, ◌⊎◌, ℕ, ◌+◌, ◌<◌, ◌≤◌, ◌==◌, Bool, true, false, List, [], ◌∷◌, ◌++◌, length, map, take, All, cond, Some, refl, sym, ap, ◌∙◌, subst, arith, append-nil, length-append, length-take, eq-eqb, ⊎_elim}
use Rattle.std.proofs.lemmas.Grind.{flat_map-append}
use Rattle.std.proofs.lemmas.List.{map-append}
use Rattle.std.proofs.lemmas.List.Folds.{list_any-append}
use Rattle.std.specs.Prelude.{◌||◌, slice_get}
use Rattle.ak_turn.specs.Noted.{Noted, entry_of}
use Rattle.ak_flatten.specs.declared.item.Taken.{Taken}
use Rattle.ak_port.specs.declared.port_entry.PortEntry.{PortEntry}
use Rattle.ak_port.specs.PortMachine.{handed_out, pending_items, state_of}
use Rattle.ak_port.specs.TakerLaws.{handed_at, handed_by}
use Rattle.ak_action.specs.declared.answer.Answer.{Answer}
use Rattle.ak_action.specs.declared.answer.AnswerWord.{AnswerWord}
use Rattle.ak_action.specs.declared.answer.Want.{Want}
use Rattle.ak_action.specs.declared.state.DeskState.{DeskState}
use Rattle.ak_desk.specs.declared.entry.DeskEvent.TheVariants as desk_event
use Rattle.ak_desk.specs.declared.entry.EntryRoute.{EntryRoute}
use Rattle.ak_desk.specs.declared.entry.EntryRoute.TheVariants as went
use Rattle.ak_desk.specs.declared.made.Made.{Made}
use Rattle.ak_desk.specs.Desk.{dispatched_entry, given_up_entry}
use Rattle.ak_desk.specs.Dispatch.{entry_route}
use Rattle.ak_desk.specs.Entry.{EntryData}
use Rattle.ak_desk.specs.Machine.{counted, counted_all, dispatches, paired}
use Rattle.ak_desk.specs.Place.{routed_of}
use Rattle.ak_desk.proofs.Surface.{counted_push, paired_routed}
use Rattle.ak_diary.specs.Diary.{Works, begun, went_on}
use Rattle.ak_diary.specs.Looper.{LooperFacts, calls_for_closing, desk_list, dispatched_in, in_hand, is_closing, taken_in}
use Rattle.ak_diary.specs.Step.{Step, at_port, at_desk, desk_entries, desk_entry, port_entries, port_entry}
use Rattle.ak_diary.specs.Turns.{Carried, ComesTo, GivenUp, IsDispatch, IsTake, LeavesAll, lacked_if}
use Rattle.ak_diary.proofs.Lists.{drop_get, get_front, more_than, no_more_than, same_last}
use Rattle.ak_diary.proofs.Quiet.{IsQuiet, all_serving, are_quiet, handed-append, leaves_all_quiet, quiet_at_no_desk, quiet_hand_nothing, settles_quiet}

-- ---- what steps add
-- all that steps take of that looper's port
abbrev pub handed_in : ℕ → List Step → List Taken
handed_in looper steps = handed_by (port_entries looper steps)

pub handed_both : (looper : ℕ) (xs ys : List Step) → handed_in looper (xs ++ ys) ≡ handed_in looper xs ++ handed_in looper ys
handed_both looper xs ys = ap handed_by (flat_map-append (port_entry looper) xs ys) ∙ handed-append (port_entries looper xs) (port_entries looper ys)

pub entries_both : (looper : ℕ) (xs ys : List Step) → desk_entries looper (xs ++ ys) ≡ desk_entries looper xs ++ desk_entries looper ys
entries_both looper xs ys = flat_map-append (desk_entry looper) xs ys

pub own_step : {A : Type 0} (looper : ℕ) (n : A) (ns : List A) → cond (looper == looper) (n ∷ []) [] ++ ns ≡ n ∷ ns
own_step looper n ns = ap (λ b. cond b (n ∷ []) [] ++ ns) (eq-eqb looper looper refl)

-- ---- dispatched messages
-- an entry that dispatches that one: it tells the position, and is paired with the message where there was memory to begin with it
pub record DispatchesIt (taken : Taken) (entry : EntryData) : Type 0 where
  pub route : EntryRoute
  pub words : List AnswerWord
  pub quit : Bool
  pub event_is : entry.plain.event ≡ desk_event.Dispatched taken.position route words quit
  pub item_is : entry.item ≡ paired route taken.item

carried_it : (opening : DeskState) (taken : Taken) (asked : List Want) (heard : List Answer) (made : Made) (n : Noted EntryData) → Carried opening taken asked heard made n → DispatchesIt taken n.entry
carried_it opening taken asked heard made n c =
    let d = c.dispatched in
    let r = (routed_of c.before taken.item).route in
    let e = dispatched_entry n.before c.clock taken.position taken.item c.before d.words d.quit in
    let is : n.entry ≡ e = same_last n.before n.entry e d.grown in
    record {
      route = entry_route c.before r;
      words = d.words;
      quit = d.quit;
      event_is = ap (λ (x : EntryData). x.plain.event) is;
      item_is = ap (λ (x : EntryData). x.item) is ∙ sym (paired_routed c.before r taken.item);
    }

given_up_it : (opening : DeskState) (taken : Taken) (asked : List Want) (heard : List Answer) (made : Made) (n : Noted EntryData) → GivenUp opening taken asked heard made n → DispatchesIt taken n.entry
given_up_it opening taken asked heard made n c =
    let e = given_up_entry n.before c.clock taken.position in
    let is : n.entry ≡ e = same_last n.before n.entry e c.given_up.grown in
    record { route = went.NoMemory; words = []; quit = false; event_is = ap (λ (x : EntryData). x.plain.event) is; item_is = ap (λ (x : EntryData). x.item) is }

pub comes_to_it : (opening : DeskState) (taken : Taken) (asked : List Want) (heard : List Answer) (made : Made) (n : Noted EntryData) → ComesTo opening taken asked heard made n → DispatchesIt taken n.entry
comes_to_it opening taken asked heard made n c =
    ⊎_elim (λ (t : Carried opening taken asked heard made n). carried_it opening taken asked heard made n t) (λ (t : GivenUp opening taken asked heard made n). given_up_it opening taken asked heard made n t) c

-- ---- entries that dispatch messages one after another
-- the entry dispatches the message at that place
pub record IsOf (taken : List Taken) (n : ℕ) (entry : EntryData) : Type 0 where
  pub one : Taken
  pub there : slice_get taken n ≡ Some one
  pub is : DispatchesIt one entry

-- the entries dispatch the messages from that place on, each the next one
abbrev pub ArePaired : List Taken → ℕ → List EntryData → Type 0
ArePaired taken n [] = Unit {0}
ArePaired taken n (entry ∷ entries) = IsOf taken n entry × ArePaired taken (n + 1) entries

paired_counted : (taken : List Taken) (n : ℕ) (entries : List EntryData) → ArePaired taken n entries → counted_all n entries ≡ n + length entries
paired_counted taken n [] paired = omega arith
paired_counted taken n (x ∷ entries) (first, rest) =
    let more : counted n x.plain.event ≡ n + 1 = ap (counted n) first.is.event_is in
    let on : counted_all (counted n x.plain.event) entries ≡ counted_all (n + 1) entries = ap (λ (k : ℕ). counted_all k entries) more in
    omega (arith, on, paired_counted taken (n + 1) entries rest)

-- also where more are taken
paired_more : (taken more : List Taken) (n : ℕ) (entries : List EntryData) → ArePaired taken n entries → ArePaired (taken ++ more) n entries
paired_more taken more n [] paired = tt
paired_more taken more n (x ∷ entries) (first, rest) =
    (record { one = first.one; there = get_front taken more n first.one first.there; is = first.is }, paired_more taken more (n + 1) entries rest)

-- with the next one
paired_push : (taken : List Taken) (n : ℕ) (entries : List EntryData) (entry : EntryData) (place : ℕ) → place ≡ n + length entries → IsOf taken place entry → ArePaired taken n entries
    → ArePaired taken n (entries ++ entry ∷ [])
paired_push taken n [] entry place is it paired =
    let here : place ≡ n = omega (arith, is) in
    (subst (λ (k : ℕ). IsOf taken k entry) here it, tt)
paired_push taken n (x ∷ entries) entry place is it (first, rest) = (first, paired_push taken (n + 1) entries entry place (omega (arith, is)) it rest)

-- one of them
pub paired_at : (taken : List Taken) (n : ℕ) (before : List EntryData) (entry : EntryData) (behind : List EntryData) → ArePaired taken n (before ++ entry ∷ behind) → (place : ℕ) × IsOf taken place entry
paired_at taken n [] entry behind (first, rest) = (n, first)
paired_at taken n (x ∷ before) entry behind (first, rest) = paired_at taken (n + 1) before entry behind rest

-- ---- how it stands
-- what it dispatched are the first of those that it took; there is one more at most, and nothing calls for its closing while there is
pub record IsTallied (l : LooperFacts) (work : List Step) : Type 0 where
  pub most : dispatched_in l work ≤ length (taken_in l work)
  pub one : length (taken_in l work) ≤ dispatched_in l work + 1
  pub not_closing : dispatched_in l work < length (taken_in l work) → is_closing work ≡ false
  pub pairs : ArePaired (taken_in l work) 0 (desk_list l work)

-- by what a turn adds
module _ (l : LooperFacts) (work turn : List Step) where
  record TakesOne : Type 0 where
    handed : List Taken
    taken_is : taken_in l (work ++ turn) ≡ taken_in l work ++ handed
    none_more : length handed ≤ 1
    entries_are : desk_list l (work ++ turn) ≡ desk_list l work
    none_left : in_hand l work ≡ []
    not_closing : is_closing (work ++ turn) ≡ false

  took_on : TakesOne → IsTallied l work → IsTallied l (work ++ turn)
  took_on t so =
      let same : dispatched_in l (work ++ turn) ≡ dispatched_in l work = ap dispatches t.entries_are in
      let long : length (taken_in l (work ++ turn)) ≡ length (taken_in l work) + length t.handed = ap (λ k. length k) t.taken_is ∙ length-append (taken_in l work) t.handed in
      let few = no_more_than (dispatched_in l work) (taken_in l work) t.none_left in
      record {
        most = omega (arith, same, long, so.most);
        one = omega (arith, same, long, few, t.none_more);
        not_closing = λ _. t.not_closing;
        pairs =
            subst (λ (ts : List Taken). ArePaired ts 0 (desk_list l (work ++ turn))) (sym t.taken_is)
            (subst (λ (es : List EntryData). ArePaired (taken_in l work ++ t.handed) 0 es) (sym t.entries_are) (paired_more (taken_in l work) t.handed 0 (desk_list l work) so.pairs));
      }

  record DispatchesOne : Type 0 where
    taken : Taken
    others : List Taken
    oldest : in_hand l work ≡ taken ∷ others
    taken_is : taken_in l (work ++ turn) ≡ taken_in l work
    entry : EntryData
    is : DispatchesIt taken entry
    entries_are : desk_list l (work ++ turn) ≡ desk_list l work ++ entry ∷ []

  dispatched_on : DispatchesOne → IsTallied l work → IsTallied l (work ++ turn)
  dispatched_on d so =
      let more : dispatched_in l (work ++ turn) ≡ dispatched_in l work + 1 = ap dispatches d.entries_are ∙ counted_push 0 (desk_list l work) d.entry ∙ ap (counted (dispatched_in l work)) d.is.event_is in
      let long : length (taken_in l (work ++ turn)) ≡ length (taken_in l work) = ap (λ k. length k) d.taken_is in
      let some = more_than (dispatched_in l work) (taken_in l work) d.taken d.others d.oldest in
      let counts : dispatched_in l work ≡ 0 + length (desk_list l work) = paired_counted (taken_in l work) 0 (desk_list l work) so.pairs in
      let next : IsOf (taken_in l work) (dispatched_in l work) d.entry = record { one = d.taken; there = drop_get (dispatched_in l work) (taken_in l work) d.taken d.others d.oldest; is = d.is } in
      record {
        most = omega (arith, more, long, some);
        one = omega (arith, more, long, so.one);
        not_closing = λ some. absurd (omega (arith, some, more, long, so.one));
        pairs =
            subst (λ (ts : List Taken). ArePaired ts 0 (desk_list l (work ++ turn))) (sym d.taken_is)
            (subst (λ (es : List EntryData). ArePaired (taken_in l work) 0 es) (sym d.entries_are) (paired_push (taken_in l work) 0 (desk_list l work) d.entry (dispatched_in l work) counts next so.pairs));
      }

  -- ---- a take
  takes_one : IsTake l work turn → TakesOne
  takes_one t = record {
    handed = handed_at t.noted;
    taken_is =
        ap (λ s. taken_in l (work ++ s)) t.is ∙ handed_both l.number work (at_port l.number t.noted ∷ [])
        ∙ ap (λ k. taken_in l work ++ handed_by k) (own_step l.number t.noted []) ∙ ap (λ k. taken_in l work ++ k) (append-nil (handed_at t.noted));
    none_more =
        let so : handed_at t.noted ≡ take 1 (pending_items (state_of t.noted.before)) = ap (handed_out (state_of t.noted.before)) t.event_is in
        omega (arith, ap (λ k. length k) so, length-take 1 (pending_items (state_of t.noted.before)));
    entries_are =
        ap (λ s. desk_list l (work ++ s)) t.is ∙ ap (map entry_of) (entries_both l.number work (at_port l.number t.noted ∷ []) ∙ append-nil (desk_entries l.number work));
    none_left = t.rested;
    not_closing =
        ap (λ s. is_closing (work ++ s)) t.is ∙ list_any-append calls_for_closing work (at_port l.number t.noted ∷ []) ∙ ap (λ b. b || false) t.works;
  }

  -- ---- a dispatch
  module _ (d : IsDispatch l work turn) where
    abbrev middle : Bool → List Step
    middle b = at_desk l.number d.noted ∷ lacked_if b

    middle_hands : (b : Bool) → handed_in l.number (middle b) ≡ []
    middle_hands true = refl
    middle_hands false = refl

    middle_enters : (b : Bool) → desk_entries l.number (middle b) ≡ d.noted ∷ []
    middle_enters true = own_step l.number d.noted []
    middle_enters false = own_step l.number d.noted []

    served_quiet : All IsQuiet d.served
    served_quiet = are_quiet d.served (all_serving l work d.taken.item d.asked d.heard d.served d.serves)

    settled_quiet : All IsQuiet d.settled
    settled_quiet = settles_quiet l (work ++ d.served ++ middle d.made.no_memory) d.taken.item.duty d.made.reply d.settled d.settles

    turn_hands : handed_in l.number turn ≡ []
    turn_hands =
        ap (handed_in l.number) d.is ∙ handed_both l.number (d.served ++ middle d.made.no_memory) d.settled
        ∙ (λ i. handed_both l.number d.served (middle d.made.no_memory) i ++ quiet_hand_nothing l.number d.settled settled_quiet i)
        ∙ (λ i. (quiet_hand_nothing l.number d.served served_quiet i ++ middle_hands d.made.no_memory i) ++ [])

    turn_enters : desk_entries l.number turn ≡ d.noted ∷ []
    turn_enters =
        ap (desk_entries l.number) d.is ∙ entries_both l.number (d.served ++ middle d.made.no_memory) d.settled
        ∙ (λ i. entries_both l.number d.served (middle d.made.no_memory) i ++ quiet_at_no_desk l.number d.settled settled_quiet i)
        ∙ (λ i. (quiet_at_no_desk l.number d.served served_quiet i ++ middle_enters d.made.no_memory i) ++ [])

    dispatches_one : DispatchesOne
    dispatches_one = record {
      taken = d.taken;
      others = d.others;
      oldest = d.oldest;
      taken_is = handed_both l.number work turn ∙ ap (λ k. taken_in l work ++ k) turn_hands ∙ append-nil (taken_in l work);
      entry = d.noted.entry;
      is = comes_to_it l.desk d.taken d.asked d.heard d.made d.noted d.comes;
      entries_are =
          ap (map entry_of) (entries_both l.number work turn ∙ ap (λ k. desk_entries l.number work ++ k) turn_enters) ∙ map-append entry_of (desk_entries l.number work) (d.noted ∷ []);
    }

  turned : (IsTake l work turn ⊎ IsDispatch l work turn) → IsTallied l work → IsTallied l (work ++ turn)
  turned t so = ⊎_elim (λ (k : IsTake l work turn). took_on (takes_one k) so) (λ (k : IsDispatch l work turn). dispatched_on (dispatches_one k) so) t

pub tallied : (l : LooperFacts) (work : List Step) → Works l work → IsTallied l work
tallied l _ begun = record { most = omega arith; one = omega arith; not_closing = λ _. refl; pairs = tt }
tallied l _ (went_on so_far turn works t) = turned l so_far turn t (tallied l so_far works)

-- ---- the end
-- what is answered at the end takes nothing of its port, and makes no entry at its desk
module _ (l : LooperFacts) (work : List Step) (n : Noted PortEntry) (answers : List Step) (left : List Taken) (leaves : LeavesAll left answers) where
  answers_quiet : All IsQuiet answers
  answers_quiet = leaves_all_quiet left answers leaves

  pub port_at_end : port_entries l.number (work ++ at_port l.number n ∷ answers) ≡ port_entries l.number work ++ n ∷ port_entries l.number answers
  port_at_end = flat_map-append (port_entry l.number) work (at_port l.number n ∷ answers) ∙ ap (λ k. port_entries l.number work ++ k) (own_step l.number n (port_entries l.number answers))

  pub handed_at_end : handed_by (port_entries l.number work ++ n ∷ port_entries l.number answers) ≡ taken_in l work ++ handed_at n
  handed_at_end =
      handed-append (port_entries l.number work) (n ∷ port_entries l.number answers) ∙ ap (λ k. taken_in l work ++ (handed_at n ++ k)) (quiet_hand_nothing l.number answers answers_quiet)
      ∙ ap (λ k. taken_in l work ++ k) (append-nil (handed_at n))

  pub desk_at_end : desk_entries l.number (work ++ at_port l.number n ∷ answers) ≡ desk_entries l.number work
  desk_at_end =
      entries_both l.number work (at_port l.number n ∷ answers) ∙ ap (λ k. desk_entries l.number work ++ k) (quiet_at_no_desk l.number answers answers_quiet)
      ∙ append-nil (desk_entries l.number work)
