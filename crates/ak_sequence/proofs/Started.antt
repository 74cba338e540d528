-- What a thread does at the desk of a looper has a later stamp than the launch that started the looper.
use Rattle.std.proofs.Common.{◌≡◌, ◌∙◌, ◌⊎◌, ℕ, ◌+◌, ◌<◌, ◌≤◌, ◌==◌, Bool, true, false, cond, List, [], ◌∷◌, ◌++◌, length, All, slice_get, inl, inr, refl, sym, ap, subst, ⊎_elim, append_assoc, arith, eqb-true}
use Rattle.std.proofs.lemmas.Bool.{cases_lt}
use Rattle.std.proofs.lemmas.Grind.{flat_map-append}
use Rattle.std.proofs.lemmas.List.Elements.{All-cons, All-nil}
use Rattle.std.proofs.lemmas.Option.{slice_get_past}
use Rattle.ak_turn.specs.Noted.{Noted, StandsIn, note, noted, noted_from}
use Rattle.ak_turn.specs.Stamps.{Rise}
use Rattle.ak_turn.proofs.Surface.{noted_stands}
use Rattle.ak_roster.specs.declared.head.AppHead.{AppHead}
use Rattle.ak_roster.specs.declared.entry.RosterEntry.{RosterEntry}
use Rattle.ak_roster.specs.declared.entry.RosterEvent.{RosterEvent}
use Rattle.ak_roster.specs.declared.entry.RosterEvent.TheVariants as roster_event
use Rattle.ak_roster.specs.Kept.{count_of}
use Rattle.ak_roster.specs.Machine.{HasNoDoor, IsHistory, IsLegal, RosterState, after, start, state_from, state_of}
use Rattle.ak_roster.proofs.Surface.{loopers-after, state_of-append}
use Rattle.ak_desk.specs.Entry.{EntryData}
use Rattle.ak_diary.specs.declared.histories.Histories.{Histories}
use Rattle.ak_diary.specs.Step.{AreStamped, Step, at_roster, at_book, at_port, at_desk, saw_roster, saw_book, saw_port, lacked, roster_entries, roster_entry, roster_stamp}
use Rattle.ak_headline.specs.Main.{IsSessionDiary}
use Rattle.ak_headline.specs.Run.{EditsStarted, HasDone, roster_maker, started_by}
use Rattle.ak_journal.specs.declared.entry.Entry.{Entry}
use Rattle.ak_journal.specs.declared.entry.ObjectName.TheVariants as object
use Rattle.ak_sequence.specs.Laws.{entries_in, is_at}
use Rattle.ak_world.specs.Merged.{stamp_of}
use Rattle.ak_sequence.proofs.AtDesks.{GotDoor, all_there, there_more, through_its_door}
use Rattle.ak_sequence.proofs.Diaries.{past_due}
use Rattle.ak_sequence.proofs.GoingOn.{There}

-- ---- two entries of one list of the roster
rise_between : (last : ℕ) (before : List RosterEntry) (y : RosterEntry) (behind : List RosterEntry) → Rise roster_stamp last (before ++ y ∷ behind) → last < y.stamp
rise_between last [] y behind rise = rise.0
rise_between last (w ∷ before) y behind rise =
    let first : last < w.stamp = rise.0 in
    let rest : w.stamp < y.stamp = rise_between w.stamp before y behind rise.1 in
    omega arith

-- the second one stands behind the other, or it is the other; or all up to it stands before the other
abbrev IsBefore : List RosterEntry → RosterEntry → List RosterEntry → Type 0
IsBefore c y a = (between : List RosterEntry) × (a ≡ (c ++ y ∷ []) ++ between)

two_there
    : (a : List RosterEntry) (x : RosterEntry) (b c : List RosterEntry) (y : RosterEntry) (d : List RosterEntry) (last : ℕ) → Rise roster_stamp last (a ++ x ∷ b) → a ++ x ∷ b ≡ c ++ y ∷ d
    → (x.stamp ≤ y.stamp) ⊎ IsBefore c y a
two_there [] x b [] y d last rise is =
    let same : x ≡ y = cc in
    let stamps : x.stamp ≡ y.stamp = ap (λ (z : RosterEntry). z.stamp) same in
    inl (omega arith)
two_there [] x b (w ∷ c) y d last rise is =
    let others : b ≡ c ++ y ∷ d = cc in
    let later : x.stamp < y.stamp = rise_between x.stamp c y d (subst (Rise roster_stamp x.stamp) others rise.1) in
    inl (omega arith)
two_there (z ∷ a) x b [] y d last rise is = let same : z ≡ y = cc in inr (a, ap (λ (k : RosterEntry). k ∷ a) same)
two_there (z ∷ a) x b (w ∷ c) y d last rise is =
    let first : z ≡ w = cc in
    let others : a ++ x ∷ b ≡ c ++ y ∷ d = cc in
    ⊎_elim
    (λ (le : x.stamp ≤ y.stamp). inl le)
    (λ (t : IsBefore c y a). inr (t.0, ap (λ (k : RosterEntry). k ∷ a) first ∙ ap (λ (l : List RosterEntry). w ∷ l) t.1))
    (two_there a x b c y d z.stamp rise.1 others)

-- ---- the loopers that were started are never fewer
module _ (heads : List AppHead) where
  never_fewer : (s : RosterState) (xs : List RosterEntry) → length s.loopers ≤ length (state_from heads s xs).loopers
  never_fewer s [] = omega arith
  never_fewer s (x ∷ xs) =
      let one = loopers-after heads s x.by.0 x.event in
      let rest = never_fewer (after heads s x.by.0 x.event) xs in
      omega arith

  from_both : (s : RosterState) (xs ys : List RosterEntry) → state_from heads s (xs ++ ys) ≡ state_from heads (state_from heads s xs) ys
  from_both s [] ys = refl
  from_both s (x ∷ xs) ys = from_both (after heads s x.by.0 x.event) xs ys

  -- behind that list, and then with one entry more
  one_more : (xs : List RosterEntry) (x : RosterEntry) → length (state_of heads (xs ++ x ∷ [])).loopers ≡ length (state_of heads xs).loopers + count_of heads x.event
  one_more xs x = ap (λ (s : RosterState). length s.loopers) (state_of-append heads xs x) ∙ loopers-after heads (state_of heads xs) x.by.0 x.event

  -- behind that entry the looper is started
  abbrev pub IsStartedBy : ℕ → Noted RosterEntry → Type 0
  IsStartedBy looper n = looper < length (state_of heads (n.before ++ n.entry ∷ [])).loopers

  -- ---- what main's entries started, was started behind the last of them
  abbrev Found : ℕ → List (Noted RosterEntry) → Type 0
  Found looper ns = (n : Noted RosterEntry) × There n ns × IsStartedBy looper n

  module _ (thread : ℕ) where
    abbrev Finds : List RosterEntry → Type 0
    Finds xs =
        (before : List RosterEntry) (ns ms : List (Noted RosterEntry)) → noted_from roster_maker thread before xs ≡ ns ++ ms
        → (count looper : ℕ) → count ≤ length (state_of heads before).loopers → count ≤ looper → looper < count + started_by heads ns → Found looper ns

    module _ (before : List RosterEntry) (x : RosterEntry) (xs : List RosterEntry) (finds : Finds xs) where
      abbrev rest_noted : List (Noted RosterEntry)
      rest_noted = noted_from roster_maker thread (before ++ x ∷ []) xs

      finds_by
          : (own : Bool) (ns ms : List (Noted RosterEntry)) → cond own (note before x ∷ rest_noted) rest_noted ≡ ns ++ ms
          → (count looper : ℕ) → count ≤ length (state_of heads before).loopers → count ≤ looper → looper < count + started_by heads ns → Found looper ns
      finds_by false ns ms is count looper has le lt = let more = one_more before x in finds (before ++ x ∷ []) ns ms is count looper (omega arith) le lt
      finds_by true [] ms is count looper has le lt = let none : looper < count + 0 = lt in absurd (omega arith)
      finds_by true (n ∷ ns) ms is count looper has le lt =
          let first : note before x ≡ n = cc in
          let rest : rest_noted ≡ ns ++ ms = cc in
          let more = one_more before x in
          let due : looper < count + (count_of heads n.entry.event + started_by heads ns) = lt in
          let same : count_of heads x.event ≡ count_of heads n.entry.event = ap (λ (z : Noted RosterEntry). count_of heads z.entry.event) first in
          ⊎_elim
          (λ (now : looper < count + count_of heads x.event).
          let here : looper < length (state_of heads (before ++ x ∷ [])).loopers = omega arith in
          (n, inl refl, subst (IsStartedBy looper) first here))
          (λ (not_yet : count + count_of heads x.event ≤ looper).
          let found = finds (before ++ x ∷ []) ns ms rest (count + count_of heads x.event) looper (omega arith) not_yet (omega arith) in
          (found.0, inr found.1, found.2))
          (cases_lt looper (count + count_of heads x.event))

    found_in : (xs : List RosterEntry) → Finds xs
    found_in [] before [] ms is count looper has le lt = let none : looper < count + 0 = lt in absurd (omega arith)
    found_in [] before (n ∷ ns) ms is count looper has le lt = absurd (cc is)
    found_in (x ∷ xs) before ns ms is count looper has le lt = finds_by before x xs (found_in xs) (roster_maker x == thread) ns ms is count looper has le lt

-- ---- stamps of a diary
-- a later entry at a desk has a later stamp than the time before
pub desk_is_later : (time : ℕ) (before : List Step) (looper : ℕ) (n : Noted EntryData) (behind : List Step) → AreStamped time (before ++ at_desk looper n ∷ behind) → time < n.entry.plain.stamp
desk_is_later time [] looper n behind are = past_due time _ n.entry.plain.stamp are.0
desk_is_later time (at_roster m ∷ before) looper n behind are =
    let one : time < m.entry.stamp = past_due time _ m.entry.stamp are.0 in
    let rest = desk_is_later m.entry.stamp before looper n behind are.1 in
    omega arith
desk_is_later time (at_book m ∷ before) looper n behind are =
    let one : time < m.entry.stamp = past_due time _ m.entry.stamp are.0 in
    let rest = desk_is_later m.entry.stamp before looper n behind are.1 in
    omega arith
desk_is_later time (at_port number m ∷ before) looper n behind are =
    let one : time < m.entry.stamp = past_due time _ m.entry.stamp are.0 in
    let rest = desk_is_later m.entry.stamp before looper n behind are.1 in
    omega arith
desk_is_later time (at_desk number m ∷ before) looper n behind are =
    let one : time < m.entry.plain.stamp = past_due time _ m.entry.plain.stamp are.0 in
    let rest = desk_is_later m.entry.plain.stamp before looper n behind are.1 in
    omega arith
desk_is_later time (saw_roster seen ∷ before) looper n behind are = desk_is_later time before looper n behind are.1
desk_is_later time (saw_book seen ∷ before) looper n behind are = desk_is_later time before looper n behind are.1
desk_is_later time (saw_port number seen ∷ before) looper n behind are = desk_is_later time before looper n behind are.1
desk_is_later time (lacked ∷ before) looper n behind are = desk_is_later time before looper n behind are.1

-- and so it has than each entry at the roster before it
behind_note
    : (time : ℕ) (before : List Step) (m : Noted RosterEntry) → There m (roster_entries before) → (looper : ℕ) (n : Noted EntryData) (behind : List Step)
    → AreStamped time (before ++ at_desk looper n ∷ behind) → m.entry.stamp < n.entry.plain.stamp
behind_note time [] m there looper n behind are = absurd there
behind_note time (at_roster x ∷ before) m (inl same) looper n behind are =
    subst (λ (z : Noted RosterEntry). z.entry.stamp < n.entry.plain.stamp) same (desk_is_later x.entry.stamp before looper n behind are.1)
behind_note time (at_roster x ∷ before) m (inr there) looper n behind are = behind_note x.entry.stamp before m there looper n behind are.1
behind_note time (at_book x ∷ before) m there looper n behind are = behind_note x.entry.stamp before m there looper n behind are.1
behind_note time (at_port number x ∷ before) m there looper n behind are = behind_note x.entry.stamp before m there looper n behind are.1
behind_note time (at_desk number x ∷ before) m there looper n behind are = behind_note x.entry.plain.stamp before m there looper n behind are.1
behind_note time (saw_roster seen ∷ before) m there looper n behind are = behind_note time before m there looper n behind are.1
behind_note time (saw_book seen ∷ before) m there looper n behind are = behind_note time before m there looper n behind are.1
behind_note time (saw_port number seen ∷ before) m there looper n behind are = behind_note time before m there looper n behind are.1
behind_note time (lacked ∷ before) m there looper n behind are = behind_note time before m there looper n behind are.1

-- ---- what holds of each entry at the desk, holds of the diary
module _ (looper time : ℕ) where
  abbrev pub AtDeskLater : Entry → Type 0
  AtDeskLater e = is_at (object.Desk looper) e ≡ true → time < stamp_of e

  abbrev pub DeskLater : List Step → Type 0
  DeskLater steps = (before : List Step) (n : Noted EntryData) (behind : List Step) → steps ≡ before ++ at_desk looper n ∷ behind → time < n.entry.plain.stamp

  elsewhere : (step : Step) (steps : List Step) → DeskLater (step ∷ steps) → DeskLater steps
  elsewhere step steps later before n behind is = later (step ∷ before) n behind (ap (λ (l : List Step). step ∷ l) is)

  pub each_later : (steps : List Step) → DeskLater steps → All AtDeskLater (entries_in steps)
  each_later [] later = All-nil AtDeskLater
  each_later (at_roster n ∷ steps) later = All-cons AtDeskLater _ (entries_in steps) (λ at. absurd (cc at)) (each_later steps (elsewhere (at_roster n) steps later))
  each_later (at_book n ∷ steps) later = All-cons AtDeskLater _ (entries_in steps) (λ at. absurd (cc at)) (each_later steps (elsewhere (at_book n) steps later))
  each_later (at_port number n ∷ steps) later = All-cons AtDeskLater _ (entries_in steps) (λ at. absurd (cc at)) (each_later steps (elsewhere (at_port number n) steps later))
  each_later (at_desk number n ∷ steps) later =
      All-cons AtDeskLater _ (entries_in steps)
      (λ at. let same : looper ≡ number = eqb-true looper number at in later [] n steps (ap (λ (k : ℕ). at_desk k n ∷ steps) (sym same)))
      (each_later steps (elsewhere (at_desk number n) steps later))
  each_later (saw_roster seen ∷ steps) later = each_later steps (elsewhere (saw_roster seen) steps later)
  each_later (saw_book seen ∷ steps) later = each_later steps (elsewhere (saw_book seen) steps later)
  each_later (saw_port number seen ∷ steps) later = each_later steps (elsewhere (saw_port number seen) steps later)
  each_later (lacked ∷ steps) later = each_later steps (elsewhere lacked steps later)

-- ---- the looper was started by that entry: fewer were before it
module _ (heads : List AppHead) (h : Histories) (history : IsHistory heads h.roster.items) (rise : Rise roster_stamp 0 h.roster.items) (a : List RosterEntry) (first : RosterEntry) (b : List RosterEntry)
    (there : h.roster.items ≡ a ++ first ∷ b) (looper : ℕ) (fewer : length (state_of heads a).loopers ≤ looper) where
  -- an entry behind which it is started is that one, or a later one
  not_before : (c : List RosterEntry) (y : RosterEntry) (d : List RosterEntry) → h.roster.items ≡ c ++ y ∷ d → looper < length (state_of heads (c ++ y ∷ [])).loopers → first.stamp ≤ y.stamp
  not_before c y d is lt =
      ⊎_elim
      (λ (le : first.stamp ≤ y.stamp). le)
      (λ (t : IsBefore c y a).
      let same : state_of heads a ≡ state_from heads (state_of heads (c ++ y ∷ [])) t.0 = ap (state_of heads) t.1 ∙ from_both heads start (c ++ y ∷ []) t.0 in
      let size : length (state_of heads a).loopers ≡ length (state_from heads (state_of heads (c ++ y ∷ [])) t.0).loopers = ap (λ (s : RosterState). length s.loopers) same in
      let grown = never_fewer heads (state_of heads (c ++ y ∷ [])) t.0 in
      absurd (omega arith))
      (two_there a first b c y d 0 (subst (Rise roster_stamp 0) there rise) (sym there ∙ is))

  module _ (thread time : ℕ) (steps : List Step) (stamped : AreStamped time steps) (done : HasDone h thread steps) where
    -- what it noted at the roster before an entry at the desk
    module _ (before : List Step) (n : Noted EntryData) (behind : List Step) (is : steps ≡ before ++ at_desk looper n ∷ behind) where
      abbrev later_notes : List (Noted RosterEntry)
      later_notes = roster_entries (at_desk looper n ∷ behind)

      notes_are : noted roster_maker thread h.roster.items ≡ roster_entries before ++ later_notes
      notes_are = done.at_roster ∙ ap roster_entries is ∙ flat_map-append roster_entry before (at_desk looper n ∷ behind)

      among_notes : (m : Noted RosterEntry) → There m (roster_entries before) → There m (noted roster_maker thread h.roster.items)
      among_notes m among = subst (There m) (sym notes_are) (there_more m (roster_entries before) later_notes among)

    stands_there : (m : Noted RosterEntry) → There m (noted roster_maker thread h.roster.items) → (rest : List RosterEntry) × (h.roster.items ≡ m.before ++ m.entry ∷ rest)
    stands_there m among =
        let stands : StandsIn h.roster.items m = all_there (StandsIn h.roster.items) (noted roster_maker thread h.roster.items) m (noted_stands roster_maker thread h.roster.items) among in
        (stands.0, stands.1 ∙ append_assoc m.before (m.entry ∷ []) stands.0)

    -- where the thread's entries before tell that it is started, it is late enough
    told_by
        : (before : List Step) (n : Noted EntryData) (behind : List Step) → steps ≡ before ++ at_desk looper n ∷ behind
        → (m : Noted RosterEntry) → There m (roster_entries before) → IsStartedBy heads looper m → first.stamp < n.entry.plain.stamp
    told_by before n behind is m among started =
        let stands = stands_there m (among_notes before n behind is m among) in
        let le : first.stamp ≤ m.entry.stamp = not_before m.before m.entry stands.0 stands.1 started in
        let lt : m.entry.stamp < n.entry.plain.stamp = behind_note time before m among looper n behind (subst (AreStamped time) is stamped) in
        omega arith

    -- ---- main
    pub main_is_later : EditsStarted heads steps → DeskLater looper first.stamp steps
    main_is_later edits before n behind is =
        let due : looper < started_by heads (roster_entries before) = edits before looper n behind is in
        let found =
        found_in heads thread h.roster.items [] (roster_entries before) (later_notes before n behind is) (notes_are before n behind is) 0 looper (omega arith) (omega arith) (omega arith) in
        told_by before n behind is found.0 found.1 found.2

    -- ---- a session
    has_looper : (by : ℕ) (s : RosterState) → HasNoDoor by (slice_get s.loopers looper) → looper < length s.loopers
    has_looper by s no_door =
        ⊎_elim
        (λ (lt : looper < length s.loopers). lt)
        (λ (le : length s.loopers ≤ looper). absurd (subst (HasNoDoor by) (slice_get_past s.loopers looper le) no_door))
        (cases_lt looper (length s.loopers))

    door_starts : (m : Noted RosterEntry) → There m (noted roster_maker thread h.roster.items) → m.entry.event ≡ roster_event.Door looper → IsStartedBy heads looper m
    door_starts m among is =
        let stands = stands_there m among in
        let step = history.steps m.before m.entry stands.0 stands.1 in
        let no_door : HasNoDoor m.entry.by.0 (slice_get (state_of heads m.before).loopers looper) = subst (λ (e : RosterEvent). IsLegal heads (state_of heads m.before) m.entry.by.0 e) is step.legal in
        let was : looper < length (state_of heads m.before).loopers = has_looper m.entry.by.0 (state_of heads m.before) no_door in
        let more = one_more heads m.before m.entry in
        omega arith

    pub session_is_later : IsSessionDiary steps → DeskLater looper first.stamp steps
    session_is_later diary before n behind is =
        let got : GotDoor looper before = through_its_door steps diary before looper n behind is in
        told_by before n behind is got.0 got.1 (door_starts got.0 (among_notes before n behind is got.0 got.1) got.2)
