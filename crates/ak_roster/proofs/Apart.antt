-- Running teams keep apart by their modes, and the least one is found.
use Rattle.std.proofs.Common.{◌≡◌, ◌≢◌, ◌<◌, ◌≤◌, ℕ, suc, ◌+◌, Bool, true, false, not, cond, List, [], ◌∷◌, ◌++◌, length, get_or, refl, sym, ap, ◌∙◌, subst, arith, append-nil, Option, None, Some, All, AllPairs, Contains, find}
use Rattle.std.specs.Prelude.{slice_get, MatchOption}
use Rattle.std.specs.Str.{bytes_eq}
use Rattle.std.proofs.lemmas.Bool.{both_ways, false≢true}
use Rattle.std.proofs.lemmas.List.Elements.{All-cons, All-filter, All-nil, All-push, All-weaker}
use Rattle.std.proofs.lemmas.List.Kept.{AllPairs-filter}
use Rattle.std.proofs.lemmas.List.Quantifiers.{all_pairs_push}
use Rattle.std.proofs.lemmas.Slice.Eq.{bytes_eq-Decides}
use Rattle.ak_base.specs.declared.app_word.AppWord.{AppWord}
use Rattle.ak_roster.specs.declared.head.AppHead.{AppHead}
use Rattle.ak_roster.specs.declared.head.Mode.{Mode}
use Rattle.ak_roster.specs.declared.head.Mode.TheVariants as mode
use Rattle.ak_roster.specs.declared.team.Running.{Running}
use Rattle.ak_roster.specs.declared.entry.RosterEntry.{RosterEntry}
use Rattle.ak_roster.specs.declared.entry.RosterEvent.{RosterEvent}
use Rattle.ak_roster.specs.declared.entry.RosterEvent.TheVariants as event
use Rattle.ak_roster.specs.declared.entry.LaunchOutcome.{LaunchOutcome}
use Rattle.ak_roster.specs.declared.entry.LaunchOutcome.TheVariants as launch
use Rattle.ak_roster.specs.Heads.{excludes, excludes_as, passes, team_fits}
use Rattle.ak_roster.specs.Machine.{RosterState, IsHistory, IsLegal, after, launch_of, loopers_at, runs_team, state_of, team_of}
use Rattle.ak_roster.specs.Laws.{AreApart, DifferBy, IsLeast, LeastIsFound, ModesHold}
use Rattle.ak_roster.proofs.Launching.{started_facts}
use Rattle.ak_roster.proofs.Carried.{carried}

module _ {A : Type 0} (test : A → Bool) where
  fails : (x : A) (xs : List A) (b : Bool) → b ≡ test x → (find test xs ≡ None → All (λ y. test y ≡ false) xs) → cond b (Some x) (find test xs) ≡ None
      → All (λ y. test y ≡ false) (x ∷ xs)
  fails x xs true is rest e = absurd cc
  fails x xs false is rest e = All-cons (λ y. test y ≡ false) x xs (sym is) (rest e)

  -- what is not found passes nowhere
  found_none : (xs : List A) → find test xs ≡ None → All (λ x. test x ≡ false) xs
  found_none [] e = All-nil (λ x. test x ≡ false)
  found_none (x ∷ xs) e = fails x xs (test x) refl (found_none xs) e

differ : (xs ys : List ℕ) → bytes_eq xs ys ≡ false → xs ≢ ys
differ xs ys unlike same = both_ways (bytes_eq xs ys) unlike ((bytes_eq-Decides xs ys).1 same)

apart_by : (m : Mode) (head other : AppHead) → excludes_as m head other ≡ false → DifferBy m other head
apart_by mode.Single head other unlike = differ other.path head.path unlike
apart_by mode.Multiple head other unlike = tt
apart_by mode.Exclusive head other unlike = differ other.signature head.signature unlike

some_same : {A : Type 0} (x y : A) (o : Option A) → o ≡ Some x → o ≡ Some y → x ≡ y
some_same x y o e f = cc

module _ (heads : List AppHead) (s : RosterState) (h : AllPairs (AreApart heads) s.running) where
  abbrev new_team : ℕ → ℕ → ℕ → Running
  new_team place team first = record { team = team; description = place; first = first; loopers = loopers_at heads place }

  -- a new team is apart from one that does not keep it from starting
  new_apart : (place team first : ℕ) (head : AppHead) (other : Running) → slice_get heads place ≡ Some head
      → passes (excludes head) (slice_get heads other.description) ≡ false → AreApart heads other (new_team place team first)
  new_apart place team first head other stands unlike a b is_a is_b =
      let same : head ≡ b = some_same head b (slice_get heads place) stands is_b in
      let free : excludes head a ≡ false = ap (passes (excludes head)) (sym is_a) ∙ unlike in
      subst (λ (x : AppHead). DifferBy x.mode a x) same (apart_by head.mode head a free)

  launch_apart : (word : AppWord) (o : LaunchOutcome) → o ≡ launch_of heads s word → AllPairs (AreApart heads) (s.running ++ team_of heads o)
  launch_apart word (launch.Started place team first) legal =
      let f = started_facts heads s word place team first (sym legal) in
      let free = found_none (λ team. passes (excludes f.head) (slice_get heads team.description)) s.running f.free in
      all_pairs_push (AreApart heads) s.running (new_team place team first) h
      (λ k d low. new_apart place team first f.head (get_or s.running k d) f.stands (free k d low))
  launch_apart word (launch.AlreadyRunning team) legal = subst (AllPairs (AreApart heads)) (sym (append-nil s.running)) h
  launch_apart word launch.NotFound legal = subst (AllPairs (AreApart heads)) (sym (append-nil s.running)) h
  launch_apart word launch.Limit legal = subst (AllPairs (AreApart heads)) (sym (append-nil s.running)) h

  event_apart : (by : ℕ) (what : RosterEvent) → IsLegal heads s by what → AllPairs (AreApart heads) (after heads s by what).running
  event_apart by (event.Launch word o) legal = launch_apart word o legal
  event_apart by (event.Find word o) legal = h
  event_apart by (event.Gone team) legal = AllPairs-filter (AreApart heads) (λ r. not (runs_team team r)) s.running h
  event_apart by (event.Door looper) legal = h

pub modes_hold : ModesHold
modes_hold heads entries h =
    carried heads (λ es s. AllPairs (AreApart heads) s.running) (λ before s e p legal. event_apart heads s p e.by.0 e.event legal) [] entries h
    (λ i j d low high. absurd (omega arith))

-- ---- the least team
abbrev pub AreRising : RosterState → Type 0
AreRising s = AllPairs (λ a b. a.team < b.team) s.running × All (λ r. r.team ≤ s.teams) s.running

module _ (heads : List AppHead) (s : RosterState) (h : AreRising s) where
  still_rising : (n : ℕ) → AllPairs (λ a b. a.team < b.team) (s.running ++ []) × All (λ r. r.team ≤ s.teams + n) (s.running ++ [])
  still_rising n =
      subst (λ (rs : List Running). AllPairs (λ a b. a.team < b.team) rs × All (λ r. r.team ≤ s.teams + n) rs) (sym (append-nil s.running))
      (h.0, All-weaker (λ r. r.team ≤ s.teams) (λ r. r.team ≤ s.teams + n) (λ r low. omega arith) s.running h.1)

  launch_rising : (word : AppWord) (o : LaunchOutcome) → o ≡ launch_of heads s word
      → AllPairs (λ a b. a.team < b.team) (s.running ++ team_of heads o) × All (λ r. r.team ≤ s.teams + length (team_of heads o)) (s.running ++ team_of heads o)
  launch_rising word (launch.Started place team first) legal =
      let f = started_facts heads s word place team first (sym legal) in
      let new : Running = record { team = team; description = place; first = first; loopers = loopers_at heads place } in (
        all_pairs_push (λ a b. a.team < b.team) s.running new h.0 (λ k d low. omega (arith, h.1 k d low, f.team_is)),
        All-push (λ r. r.team ≤ s.teams + 1) s.running new (All-weaker (λ r. r.team ≤ s.teams) (λ r. r.team ≤ s.teams + 1) (λ r low. omega arith) s.running h.1) (omega (arith, f.team_is)),
      )
  launch_rising word (launch.AlreadyRunning team) legal = still_rising 0
  launch_rising word launch.NotFound legal = still_rising 0
  launch_rising word launch.Limit legal = still_rising 0

  event_rising : (by : ℕ) (what : RosterEvent) → IsLegal heads s by what → AreRising (after heads s by what)
  event_rising by (event.Launch word o) legal = launch_rising word o legal
  event_rising by (event.Find word o) legal = h
  event_rising by (event.Gone team) legal =
      (AllPairs-filter (λ a b. a.team < b.team) (λ r. not (runs_team team r)) s.running h.0, All-filter (λ r. not (runs_team team r)) (λ r. r.team ≤ s.teams) s.running h.1)
  event_rising by (event.Door looper) legal = h

rising : (heads : List AppHead) (entries : List RosterEntry) → IsHistory heads entries → AreRising (state_of heads entries)
rising heads entries h =
    carried heads (λ es s. AreRising s) (λ before s e p legal. event_rising heads s p e.by.0 e.event legal) [] entries h
    ((λ i j d low high. absurd (omega arith)), All-nil (λ r. r.team ≤ 0))

module _ (test : Running → Bool) where
  pub record IsFirst (running : List Running) (team : Running) : Type 0 where
    pub runs : Contains running team
    pub fits : test team ≡ true
    pub least : All (λ other. test other ≡ true → team.team ≤ other.team) running

  later_pairs : (x : Running) (xs : List Running) → AllPairs (λ a b. a.team < b.team) (x ∷ xs) → AllPairs (λ a b. a.team < b.team) xs
  later_pairs x xs h = λ i j d low high. h (suc i) (suc j) d (omega arith) (omega arith)

  first_least : (x : Running) (xs : List Running) → AllPairs (λ a b. a.team < b.team) (x ∷ xs) → All (λ other. test other ≡ true → x.team ≤ other.team) xs
  first_least x xs h = λ k d low fits. let less : x.team < (get_or xs k d).team = h 0 (suc k) d (omega arith) (omega arith) in omega arith

  in_later : (x : Running) (xs : List Running) → false ≡ test x → (o : Option Running) → MatchOption o (All (λ r. test r ≡ false) xs) (IsFirst xs)
      → MatchOption o (All (λ r. test r ≡ false) (x ∷ xs)) (IsFirst (x ∷ xs))
  in_later x xs is None later = All-cons (λ r. test r ≡ false) x xs (sym is) later
  in_later x xs is (Some team) later = record {
    runs = (suc later.runs.0, omega (arith, later.runs.1), later.runs.2);
    fits = later.fits;
    least = All-cons (λ other. test other ≡ true → team.team ≤ other.team) x xs (λ fits. absurd (false≢true (is ∙ fits))) later.least;
  }

  first_or_later : (x : Running) (xs : List Running) (b : Bool) → b ≡ test x → AllPairs (λ a b. a.team < b.team) (x ∷ xs)
      → MatchOption (find test xs) (All (λ r. test r ≡ false) xs) (IsFirst xs)
      → MatchOption (cond b (Some x) (find test xs)) (All (λ r. test r ≡ false) (x ∷ xs)) (IsFirst (x ∷ xs))
  first_or_later x xs true is h later = record {
    runs = (0, omega arith, refl);
    fits = sym is;
    least = All-cons (λ other. test other ≡ true → x.team ≤ other.team) x xs (λ _. omega arith) (first_least x xs h);
  }
  first_or_later x xs false is h later = in_later x xs is (find test xs) later

  first_is_least : (xs : List Running) → AllPairs (λ a b. a.team < b.team) xs → MatchOption (find test xs) (All (λ r. test r ≡ false) xs) (IsFirst xs)
  first_is_least [] h = All-nil (λ r. test r ≡ false)
  first_is_least (x ∷ xs) h = first_or_later x xs (test x) refl h (first_is_least xs (later_pairs x xs h))

as_least : (heads : List AppHead) (word : AppWord) (running : List Running) (o : Option Running)
    → MatchOption o (All (λ r. team_fits heads word r ≡ false) running) (IsFirst (team_fits heads word) running)
    → MatchOption o (All (λ r. team_fits heads word r ≡ false) running) (IsLeast heads word running)
as_least heads word running None h = h
as_least heads word running (Some team) h = record { runs = h.runs; fits = h.fits; least = h.least }

pub least_is_found : LeastIsFound
least_is_found heads entries word h =
    as_least heads word (state_of heads entries).running (find (team_fits heads word) (state_of heads entries).running)
    (first_is_least (team_fits heads word) (state_of heads entries).running (rising heads entries h).0)
