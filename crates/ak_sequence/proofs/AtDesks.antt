-- At which desks a thread makes entries: a looper's at its own alone; a session's at those whose doors it got before.
use Rattle.std.proofs.Common.{◌≡◌, ◌∙◌, ◌⊎◌, ℕ, ◌<◌, zero, suc, get_or, Bool, true, false, List, [], ◌∷◌, ◌++◌, All, Contains, inl, inr, refl, sym, ap, subst, ⊎_elim, arith}
use Rattle.std.proofs.lemmas.Grind.{flat_map-append}
use Rattle.std.proofs.lemmas.List.Elements.{All-append, All-cons, All-head, All-nil, All-tail, All-weaker, Contains-append_cases}
use Rattle.ak_turn.specs.Noted.{Noted}
use Rattle.ak_roster.specs.declared.entry.RosterEntry.{RosterEntry}
use Rattle.ak_roster.specs.declared.entry.RosterEvent.{RosterEvent}
use Rattle.ak_roster.specs.declared.entry.RosterEvent.TheVariants as roster_event
use Rattle.ak_flatten.specs.declared.item.Duty.{Duty}
use Rattle.ak_flatten.specs.declared.item.Duty.TheVariants as duty
use Rattle.ak_flatten.specs.declared.item.Taken.{Taken}
use Rattle.ak_desk.specs.Entry.{EntryData}
use Rattle.ak_diary.specs.Diary.{IsDiary, Works, begun, went_on}
use Rattle.ak_diary.specs.Looper.{LooperFacts, door_in, doors_got}
use Rattle.ak_diary.specs.Step.{Step, at_roster, at_book, at_port, at_desk, saw_roster, saw_book, saw_port, lacked, roster_entries, roster_entry}
use Rattle.ak_diary.specs.Turns as turns
use Rattle.ak_diary.specs.Turns.{IsDispatch, IsEnd, IsTake, LeavesAll, LeavesOne, lacked_if}
use Rattle.ak_diary.proofs.Surface.{IsQuiet, all_serving, are_quiet, settles_quiet}
use Rattle.ak_headline.specs.Main as diaries
use Rattle.ak_headline.specs.Main.{IsSessionDiary, IsThroughDoor}
use Rattle.ak_sequence.proofs.GoingOn.{There}

-- ---- what holds of all holds of one
pub all_there : {X : Type 0} (P : X → Type 0) (xs : List X) (z : X) → All P xs → There z xs → P z
all_there P [] z all there = absurd there
all_there P (x ∷ xs) z all (inl same) = subst P same (All-head P x xs all)
all_there P (x ∷ xs) z all (inr behind) = all_there P xs z (All-tail P x xs all) behind

all_between : {X : Type 0} (P : X → Type 0) (before : List X) (z : X) (behind : List X) → All P (before ++ z ∷ behind) → P z
all_between P [] z behind all = All-head P z behind all
all_between P (x ∷ before) z behind all = all_between P before z behind (All-tail P x (before ++ z ∷ behind) all)

pub there_more : {X : Type 0} (z : X) (xs ys : List X) → There z xs → There z (xs ++ ys)
there_more z [] ys there = absurd there
there_more z (x ∷ xs) ys (inl same) = inl same
there_more z (x ∷ xs) ys (inr behind) = inr (there_more z xs ys behind)

-- ---- a looper's diary
-- where the step is an entry at a desk, it is that looper's
abbrev AtOwn : ℕ → Step → Type 0
AtOwn number (at_desk looper n) = looper ≡ number
AtOwn number _ = Unit {0}

module _ (number : ℕ) where
  quiet_own : (step : Step) → IsQuiet step → AtOwn number step
  quiet_own (at_roster n) quiet = tt
  quiet_own (at_book n) quiet = tt
  quiet_own (at_port looper n) quiet = tt
  quiet_own (at_desk looper n) quiet = absurd quiet
  quiet_own (saw_roster seen) quiet = tt
  quiet_own (saw_book seen) quiet = tt
  quiet_own (saw_port looper seen) quiet = tt
  quiet_own lacked quiet = tt

  none_own : (steps : List Step) → steps ≡ [] → All (AtOwn number) steps
  none_own steps is = subst (All (AtOwn number)) (sym is) (All-nil (AtOwn number))

  one_own : (step : Step) (steps : List Step) → AtOwn number step → steps ≡ step ∷ [] → All (AtOwn number) steps
  one_own step steps own is = subst (All (AtOwn number)) (sym is) (All-cons (AtOwn number) step [] own (All-nil (AtOwn number)))

  lacked_own : (b : Bool) → All (AtOwn number) (lacked_if b)
  lacked_own true = one_own lacked (lacked ∷ []) tt refl
  lacked_own false = none_own [] refl

  leaves_one_own : (owed : Duty) (steps : List Step) → LeavesOne owed steps → All (AtOwn number) steps
  leaves_one_own duty.None steps leaves = none_own steps leaves
  leaves_one_own (duty.Slot n) steps leaves =
      ⊎_elim (λ (t : turns.EntersFill n _ steps). one_own (at_book t.noted) steps tt t.is) (λ (t : turns.FindsSettled n steps). one_own (saw_book t.seen) steps tt t.is) leaves
  leaves_one_own (duty.Back to) steps leaves = none_own steps leaves

  leaves_own : (left : List Taken) (steps : List Step) → LeavesAll left steps → All (AtOwn number) steps
  leaves_own [] steps leaves = none_own steps leaves
  leaves_own (taken ∷ left) steps leaves =
      subst (All (AtOwn number)) (sym leaves.4)
      (All-append (AtOwn number) leaves.0 leaves.1 (leaves_one_own taken.item.duty leaves.0 leaves.2) (leaves_own left leaves.1 leaves.3))

module _ (l : LooperFacts) where
  abbrev Own : Step → Type 0
  Own step = AtOwn l.number step

  dispatch_own : (so_far turn : List Step) → IsDispatch l so_far turn → All Own turn
  dispatch_own so_far turn d =
      let middle : List Step = at_desk l.number d.noted ∷ lacked_if d.made.no_memory in
      let served : All Own d.served = All-weaker IsQuiet Own (quiet_own l.number) d.served (are_quiet d.served (all_serving l so_far d.taken.item d.asked d.heard d.served d.serves)) in
      let between : All Own middle = All-cons Own (at_desk l.number d.noted) (lacked_if d.made.no_memory) refl (lacked_own l.number d.made.no_memory) in
      let settled : All Own d.settled =
      All-weaker IsQuiet Own (quiet_own l.number) d.settled (settles_quiet l (so_far ++ d.served ++ middle) d.taken.item.duty d.made.reply d.settled d.settles) in
      subst (All Own) (sym d.is) (All-append Own (d.served ++ middle) d.settled (All-append Own d.served middle served between) settled)

  work_own : (work : List Step) → Works l work → All Own work
  work_own _ begun = All-nil Own
  work_own _ (went_on so_far turn works does) =
      All-append Own so_far turn (work_own so_far works)
      (⊎_elim (λ (t : IsTake l so_far turn). one_own l.number (at_port l.number t.noted) turn tt t.is) (λ (t : IsDispatch l so_far turn). dispatch_own so_far turn t) does)

  end_own : (so_far turn : List Step) → IsEnd l so_far turn → All Own turn
  end_own so_far turn e = subst (All Own) (sym e.is) (All-cons Own (at_port l.number e.noted) e.answers tt (leaves_own l.number _ e.answers e.leaves))

  pub at_own_desk : (steps : List Step) → IsDiary l steps → (before : List Step) (looper : ℕ) (n : Noted EntryData) (behind : List Step) → steps ≡ before ++ at_desk looper n ∷ behind → looper ≡ l.number
  at_own_desk steps diary before looper n behind is =
      let all : All Own steps = subst (All Own) (sym diary.is) (All-append Own diary.work diary.end (work_own diary.work diary.works) (end_own diary.work diary.end diary.ends)) in
      all_between Own before (at_desk looper n) behind (subst (All Own) is all)

-- ---- a session's diary
-- the door of that looper was got among these
abbrev pub GotDoor : ℕ → List Step → Type 0
GotDoor looper so_far = (n : Noted RosterEntry) × There n (roster_entries so_far) × (n.entry.event ≡ roster_event.Door looper)

in_one : (l looper : ℕ) → Contains (l ∷ []) looper → l ≡ looper
in_one l looper within = only_one within.0 within.1 within.2
  where
    only_one : (k : ℕ) → k < 1 → get_or (l ∷ []) k looper ≡ looper → l ≡ looper
    only_one zero lt is = is
    only_one (suc k) lt is = absurd (omega arith)

abbrev no_loopers : List ℕ
no_loopers = []

in_none : (looper : ℕ) → Contains no_loopers looper → ⊥
in_none looper within = let lt = within.1 in absurd (omega arith)

door_by : (event : RosterEvent) (looper : ℕ) → Contains (door_in event) looper → event ≡ roster_event.Door looper
door_by (roster_event.Door l) looper within = ap (λ (k : ℕ). roster_event.Door k) (in_one l looper within)
door_by (roster_event.Launch word outcome) looper within = absurd (in_none looper within)
door_by (roster_event.Find word outcome) looper within = absurd (in_none looper within)
door_by (roster_event.Gone team) looper within = absurd (in_none looper within)

door_there : (so_far : List Step) (looper : ℕ) → Contains (doors_got so_far) looper → GotDoor looper so_far
door_there [] looper within = absurd (in_none looper within)
door_there (at_roster n ∷ steps) looper within =
    ⊎_elim
    (λ (now : Contains (door_in n.entry.event) looper). (n, inl refl, door_by n.entry.event looper now))
    (λ (later : Contains (doors_got steps) looper). let got = door_there steps looper later in (got.0, inr got.1, got.2))
    (Contains-append_cases (door_in n.entry.event) (doors_got steps) looper within)
door_there (at_book n ∷ steps) looper within = door_there steps looper within
door_there (at_port number n ∷ steps) looper within = door_there steps looper within
door_there (at_desk number n ∷ steps) looper within = door_there steps looper within
door_there (saw_roster seen ∷ steps) looper within = door_there steps looper within
door_there (saw_book seen ∷ steps) looper within = door_there steps looper within
door_there (saw_port number seen ∷ steps) looper within = door_there steps looper within
door_there (lacked ∷ steps) looper within = door_there steps looper within

got_more : (looper : ℕ) (xs ys : List Step) → GotDoor looper xs → GotDoor looper (xs ++ ys)
got_more looper xs ys got =
    (got.0, subst (There got.0) (sym (flat_map-append roster_entry xs ys)) (there_more got.0 (roster_entries xs) (roster_entries ys) got.1), got.2)

-- a step of a list in two parts is of the first, or of the second
abbrev InFirst : List Step → List Step → Step → Type 0
InFirst xs before z = (rest : List Step) × (xs ≡ before ++ z ∷ rest)

abbrev InSecond : List Step → List Step → List Step → Step → List Step → Type 0
InSecond xs ys before z behind = (more : List Step) × (ys ≡ more ++ z ∷ behind) × (before ≡ xs ++ more)

part : (xs ys before : List Step) (z : Step) (behind : List Step) → xs ++ ys ≡ before ++ z ∷ behind → InFirst xs before z ⊎ InSecond xs ys before z behind
part [] ys before z behind is = inr (before, is, refl)
part (x ∷ xs) ys [] z behind is = let same : x ≡ z = cc in inl (xs, ap (λ (k : Step). k ∷ xs) same)
part (x ∷ xs) ys (y ∷ before) z behind is =
    let first : x ≡ y = cc in
    let others : xs ++ ys ≡ before ++ z ∷ behind = cc in
    ⊎_elim
    (λ (t : InFirst xs before z). inl (t.0, ap (λ (k : Step). k ∷ xs) first ∙ ap (λ (l : List Step). y ∷ l) t.1))
    (λ (t : InSecond xs ys before z behind). inr (t.0, t.1, ap (λ (k : Step). k ∷ before) (sym first) ∙ ap (λ (l : List Step). x ∷ l) t.2))
    (part xs ys before z behind others)

none_in : (before : List Step) (z : Step) (behind : List Step) → [] ≡ before ++ z ∷ behind → ⊥
none_in [] z behind is = absurd (cc is)
none_in (x ∷ before) z behind is = absurd (cc is)

pub through_its_door : (steps : List Step) → IsSessionDiary steps → (before : List Step) (looper : ℕ) (n : Noted EntryData) (behind : List Step) → steps ≡ before ++ at_desk looper n ∷ behind → GotDoor looper before
through_its_door _ diaries.begun before looper n behind is = absurd (none_in before (at_desk looper n) behind is)
through_its_door _ (diaries.went_on so_far act acts does) before looper n behind is =
    ⊎_elim
    (λ (t : InFirst so_far before (at_desk looper n)). through_its_door so_far acts before looper n t.0 t.1)
    (λ (t : InSecond so_far act before (at_desk looper n) behind).
    let got : Contains (doors_got so_far) looper = all_between (IsThroughDoor so_far) t.0 (at_desk looper n) behind (subst (All (IsThroughDoor so_far)) t.1 does.through_doors) in
    subst (GotDoor looper) (sym t.2) (got_more looper so_far t.0 (door_there so_far looper got)))
    (part so_far act before (at_desk looper n) behind is)
