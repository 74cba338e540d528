-- Every looper that the roster has was started by main, so main's own entries tell how many there are.
use Rattle.std.proofs.Common.{◌≡◌, ℕ, ◌+◌, suc, zero, Bool, true, false, List, [], ◌∷◌, ◌++◌, length, length-append, Option, None, Some, is_some, cond, refl, sym, ap, ◌∙◌, eq-eqb, arith}
use Rattle.std.specs.Prelude.{filter, replicate, ◌==◌, IfSome}
use Rattle.std.proofs.lemmas.List.Elements.{filter-append}
use Rattle.ak_base.specs.Thread.{main_thread}
use Rattle.ak_turn.specs.Entries.{made_by}
use Rattle.ak_roster.specs.declared.head.AppHead.{AppHead}
use Rattle.ak_roster.specs.declared.entry.LaunchOutcome.{LaunchOutcome}
use Rattle.ak_roster.specs.declared.entry.LaunchOutcome.TheVariants as launch
use Rattle.ak_roster.specs.declared.entry.RosterEntry.{RosterEntry}
use Rattle.ak_roster.specs.declared.entry.RosterEvent.{RosterEvent}
use Rattle.ak_roster.specs.declared.entry.RosterEvent.TheVariants as event
use Rattle.ak_roster.specs.Kept.{count_of, count_launched}
use Rattle.ak_roster.specs.Machine.{LooperData, RosterState, after, loopers_at, loopers_of, given_to, with_given, start, state_from, state_of}
use Rattle.ak_roster.specs.Roster.{AreKept}
use Rattle.ak_looper.specs.declared.kept_door.KeptDoor.{KeptDoor}
use Rattle.ak_looper.specs.Rosters.{maker_of, Object}
use Rattle.ak_looper.specs.Counting.{started_in}
use Rattle.std.specs.Arc.{arc_value}
use Rattle.ak_looper.specs.Doors.{door_object}

-- by that thread
abbrev is_by : ℕ → LooperData → Bool
is_by thread looper = looper.starter == thread

abbrev count_by : ℕ → List LooperData → ℕ
count_by thread loopers = length (filter (is_by thread) loopers)

count_first : (thread : ℕ) (l : LooperData) (ls : List LooperData) → count_by thread (l ∷ ls) ≡ cond (is_by thread l) 1 0 + count_by thread ls
count_first thread l ls = by_case (is_by thread l)
  where
    by_case : (b : Bool) → length (cond b (l ∷ filter (is_by thread) ls) (filter (is_by thread) ls)) ≡ cond b 1 0 + count_by thread ls
    by_case true = omega arith
    by_case false = omega arith

count_append : (thread : ℕ) (xs ys : List LooperData) → count_by thread (xs ++ ys) ≡ count_by thread xs + count_by thread ys
count_append thread xs ys = ap length (filter-append (is_by thread) xs ys) ∙ length-append (filter (is_by thread) xs) (filter (is_by thread) ys)

none : (b : Bool) (n : ℕ) → n ≡ cond b n n
none true n = refl
none false n = refl

count_replicate : (thread n : ℕ) (l : LooperData) → count_by thread (replicate n l) ≡ cond (is_by thread l) n 0
count_replicate thread zero l = none (is_by thread l) 0
count_replicate thread (suc n) l = count_first thread l (replicate n l) ∙ ap (λ m. cond (is_by thread l) 1 0 + m) (count_replicate thread n l) ∙ by_case (is_by thread l)
  where
    by_case : (b : Bool) → cond b 1 0 + cond b n 0 ≡ cond b (suc n) 0
    by_case true = omega arith
    by_case false = refl

-- a door that is given changes no starter
count_given : (thread by number : ℕ) (ls : List LooperData) → count_by thread (with_given by number ls) ≡ count_by thread ls
count_given thread by number [] = refl
count_given thread by zero (l ∷ ls) = count_first thread (given_to by l) ls ∙ sym (count_first thread l ls)
count_given thread by (suc number) (l ∷ ls) = count_first thread l (with_given by number ls) ∙ ap (λ m. cond (is_by thread l) 1 0 + m) (count_given thread by number ls) ∙ sym (count_first thread l ls)

module _ (heads : List AppHead) (thread : ℕ) where
  count_launched_by : (by : ℕ) (o : LaunchOutcome) → count_by thread (loopers_of heads by o) ≡ cond (by == thread) (count_launched heads o) 0
  count_launched_by by (launch.Started place team first) = count_replicate thread (loopers_at heads place) (record { own = first; starter = by; given = [] })
  count_launched_by by (launch.AlreadyRunning team) = none (by == thread) 0
  count_launched_by by launch.NotFound = none (by == thread) 0
  count_launched_by by launch.Limit = none (by == thread) 0

  nothing_more : (b : Bool) (n : ℕ) → n ≡ n + cond b 0 0
  nothing_more b n = omega (arith, none b 0)

  count_after : (s : RosterState) (by : ℕ) (what : RosterEvent) → count_by thread (after heads s by what).loopers ≡ count_by thread s.loopers + cond (by == thread) (count_of heads what) 0
  count_after s by (event.Launch word o) = count_append thread s.loopers (loopers_of heads by o) ∙ ap (λ m. count_by thread s.loopers + m) (count_launched_by by o)
  count_after s by (event.Find word o) = nothing_more (by == thread) (count_by thread s.loopers)
  count_after s by (event.Gone team) = nothing_more (by == thread) (count_by thread s.loopers)
  count_after s by (event.Door looper) = count_given thread by looper s.loopers ∙ nothing_more (by == thread) (count_by thread s.loopers)

  started_made : (entry : RosterEntry) (entries : List RosterEntry)
      → started_in heads (made_by maker_of thread (entry ∷ entries)) ≡ cond (entry.by.0 == thread) (count_of heads entry.event) 0 + started_in heads (made_by maker_of thread entries)
  started_made entry entries = by_case (entry.by.0 == thread)
    where
      by_case : (b : Bool) → started_in heads (cond b (entry ∷ made_by maker_of thread entries) (made_by maker_of thread entries)) ≡ cond b (count_of heads entry.event) 0 + started_in heads (made_by maker_of thread entries)
      by_case true = refl
      by_case false = omega arith

  count_from : (s : RosterState) (entries : List RosterEntry) → count_by thread (state_from heads s entries).loopers ≡ count_by thread s.loopers + started_in heads (made_by maker_of thread entries)
  count_from s [] = omega arith
  count_from s (entry ∷ entries) =
      let step = count_after s entry.by.0 entry.event in
      let rest = count_from (after heads s entry.by.0 entry.event) entries in
      let made = started_made entry entries in
      rest ∙ ap (λ n. n + started_in heads (made_by maker_of thread entries)) step ∙ regroup (count_by thread s.loopers) (cond (entry.by.0 == thread) (count_of heads entry.event) 0) (started_in heads (made_by maker_of thread entries)) ∙ ap (λ n. count_by thread s.loopers + n) (sym made)
    where
      regroup : (a b c : ℕ) → (a + b) + c ≡ a + (b + c)
      regroup a b c = omega arith

  -- what a thread's entries started is what the roster has by it
  pub count_of_thread : (entries : List RosterEntry) → count_by thread (state_of heads entries).loopers ≡ started_in heads (made_by maker_of thread entries)
  count_of_thread entries = count_from start entries ∙ none_before (started_in heads (made_by maker_of thread entries))
    where
      none_before : (n : ℕ) → 0 + n ≡ n
      none_before n = omega arith

-- ---- all of them are main's
abbrev pub threads : KeptDoor → Option (List ℕ)
threads door = door.port_seat.names

told : (names : Option (List ℕ)) (P : List ℕ → Type 0) (q : Type 0) → is_some names ≡ true → IfSome names (λ ns. P ns × q) → q
told None P q head if_some = absurd (cc)
told (Some ns) P q head if_some = if_some.1

count_all : (number : ℕ) (doors : List KeptDoor) (loopers : List LooperData) → AreKept threads number doors loopers → count_by main_thread loopers ≡ length loopers
count_all number [] [] kept = refl
count_all number [] (l ∷ ls) kept = absurd (cc)
count_all number (door ∷ doors) [] kept = absurd kept
count_all number (door ∷ doors) (l ∷ ls) kept =
    let by_main : l.starter ≡ main_thread = told door.port_seat.names _ (l.starter ≡ main_thread) door.head kept.0 in
    let one_more : 1 + count_by main_thread ls ≡ suc (length ls) = omega (arith, count_all (suc number) doors ls kept.1) in
    count_first main_thread l ls ∙ ap (λ b. cond b 1 0 + count_by main_thread ls) (eq-eqb l.starter main_thread by_main) ∙ one_more

-- so there are as many as main's own entries started
pub all_by_main : (heads : List AppHead) (entries : List RosterEntry) (doors : List KeptDoor) → AreKept threads 0 doors (state_of heads entries).loopers
    → length (state_of heads entries).loopers ≡ started_in heads (made_by maker_of main_thread entries)
all_by_main heads entries doors kept = sym (count_all 0 doors (state_of heads entries).loopers kept) ∙ count_of_thread heads main_thread entries

-- what the roster pairs a looper with
abbrev pub object : KeptDoor → Option Object
object kept = door_object (arc_value kept.port) (arc_value kept.desk)
