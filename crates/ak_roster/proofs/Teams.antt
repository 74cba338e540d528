-- The loopers of a team were started, and have its first one as their team's own.
use Rattle.std.proofs.Common.{◌≡◌, ◌<◌, ◌≤◌, ◌+◌, ℕ, zero, suc, not, List, [], ◌∷◌, ◌++◌, length, refl, sym, arith, All}
use Rattle.std.specs.Prelude.{IsSomeAnd, replicate, slice_get}
use Rattle.std.proofs.lemmas.List.Elements.{All-append, All-cons, All-filter, All-nil, All-push, All-weaker}
use Rattle.ak_base.specs.declared.app_word.AppWord.{AppWord}
use Rattle.ak_roster.specs.declared.head.AppHead.{AppHead}
use Rattle.ak_roster.specs.declared.team.Running.{Running}
use Rattle.ak_roster.specs.declared.entry.RosterEntry.{RosterEntry}
use Rattle.ak_roster.specs.declared.entry.RosterEvent.{RosterEvent}
use Rattle.ak_roster.specs.declared.entry.RosterEvent.TheVariants as event
use Rattle.ak_roster.specs.declared.entry.LaunchOutcome.{LaunchOutcome}
use Rattle.ak_roster.specs.declared.entry.LaunchOutcome.TheVariants as launch
use Rattle.ak_roster.specs.Machine.{IsLegal, LooperData, RosterState, after, given_to, launch_of, loopers_at, loopers_of, runs_team, team_of, with_given}
use Rattle.ak_roster.specs.Laws.{AreThere, HasLaunched, LaunchesHaveLoopers, TeamsHaveLoopers}
use Rattle.ak_roster.proofs.Carried.{carried}
use Rattle.ak_roster.proofs.Launching.{started_facts}

-- ---- a looper that is there
module _ (P : LooperData → Type 0) where
  some_append : (xs ys : List LooperData) (n : ℕ) → IsSomeAnd (slice_get xs n) P → IsSomeAnd (slice_get (xs ++ ys) n) P
  some_append [] ys n h = absurd h
  some_append (x ∷ xs) ys zero h = h
  some_append (x ∷ xs) ys (suc n) h = some_append xs ys n h

  some_given : ((t : ℕ) (l : LooperData) → P l → P (given_to t l)) → (thread number : ℕ) (xs : List LooperData) (n : ℕ) → IsSomeAnd (slice_get xs n) P → IsSomeAnd (slice_get (with_given thread number xs) n) P
  some_given keeps thread number [] n h = h
  some_given keeps thread zero (x ∷ xs) zero h = keeps thread x h
  some_given keeps thread zero (x ∷ xs) (suc n) h = h
  some_given keeps thread (suc number) (x ∷ xs) zero h = h
  some_given keeps thread (suc number) (x ∷ xs) (suc n) h = some_given keeps thread number xs n h

  -- one of those that were just started
  some_new : (xs : List LooperData) (x : LooperData) (count n : ℕ) → P x → length xs ≤ n → n < length xs + count → IsSomeAnd (slice_get (xs ++ replicate count x) n) P
  some_new [] x zero n p low high = absurd (omega arith)
  some_new [] x (suc count) zero p low high = p
  some_new [] x (suc count) (suc n) p low high = some_new [] x count n p (omega arith) (omega arith)
  some_new (y ∷ xs) x count zero p low high = absurd (omega arith)
  some_new (y ∷ xs) x count (suc n) p low high = some_new xs x count n p (omega arith) (omega arith)

-- ---- the teams that run
abbrev IsOwn : ℕ → LooperData → Type 0
IsOwn first l = l.own ≡ first

abbrev HasLoopers : List LooperData → Running → Type 0
HasLoopers loopers team = AreThere (IsOwn team.first) loopers team.first team.loopers

module _ (heads : List AppHead) (s : RosterState) (by : ℕ) where
  new_team : (word : AppWord) (o : LaunchOutcome) → o ≡ launch_of heads s word → All (HasLoopers (s.loopers ++ loopers_of heads by o)) (team_of heads o)
  new_team word (launch.Started place t first) legal =
      let f = started_facts heads s word place t first (sym legal) in
      let team : Running = record { team = t; description = place; first = first; loopers = loopers_at heads place } in
      let looper : LooperData = record { own = first; starter = by; given = [] } in
      let there : AreThere (IsOwn first) (s.loopers ++ replicate (loopers_at heads place) looper) first (loopers_at heads place) =
      λ number low high. some_new (IsOwn first) s.loopers looper (loopers_at heads place) number refl (omega (arith, low, f.first_is)) (omega (arith, high, f.first_is)) in
      All-cons (HasLoopers (s.loopers ++ replicate (loopers_at heads place) looper)) team [] there
      (All-nil (HasLoopers (s.loopers ++ replicate (loopers_at heads place) looper)))
  new_team word (launch.AlreadyRunning t) legal = All-nil (HasLoopers (s.loopers ++ []))
  new_team word launch.NotFound legal = All-nil (HasLoopers (s.loopers ++ []))
  new_team word launch.Limit legal = All-nil (HasLoopers (s.loopers ++ []))

  event_teams : (what : RosterEvent) → IsLegal heads s by what → All (HasLoopers s.loopers) s.running → All (HasLoopers (after heads s by what).loopers) (after heads s by what).running
  event_teams (event.Launch word o) legal h =
      All-append (HasLoopers (s.loopers ++ loopers_of heads by o)) s.running (team_of heads o)
      (All-weaker (HasLoopers s.loopers) (HasLoopers (s.loopers ++ loopers_of heads by o))
      (λ team there number low high. some_append (IsOwn team.first) s.loopers (loopers_of heads by o) number (there number low high)) s.running h)
      (new_team word o legal)
  event_teams (event.Find word o) legal h = h
  event_teams (event.Gone t) legal h = All-filter (λ running. not (runs_team t running)) (HasLoopers s.loopers) s.running h
  event_teams (event.Door looper) legal h =
      All-weaker (HasLoopers s.loopers) (HasLoopers (with_given by looper s.loopers))
      (λ team there number low high. some_given (IsOwn team.first) (λ t l own. own) by looper s.loopers number (there number low high)) s.running h

pub teams_have_loopers : TeamsHaveLoopers
teams_have_loopers heads entries h =
    carried heads (λ es s. All (HasLoopers s.loopers) s.running) (λ before s e p legal. event_teams heads s e.by.0 e.event legal p) [] entries h (All-nil (HasLoopers []))

-- ---- the launches
abbrev IsBy : ℕ → ℕ → LooperData → Type 0
IsBy first starter l = (l.own ≡ first) × (l.starter ≡ starter)

-- what was started is there still
abbrev Keeps : List LooperData → List LooperData → Type 0
Keeps old new = (first starter count : ℕ) → AreThere (IsBy first starter) old first count → AreThere (IsBy first starter) new first count

still_launched : (heads : List AppHead) (old new : List LooperData) (by : ℕ) (what : RosterEvent) → Keeps old new → HasLaunched heads old by what → HasLaunched heads new by what
still_launched heads old new by (event.Launch word (launch.Started place t first)) keeps h = keeps first by (loopers_at heads place) h
still_launched heads old new by (event.Launch word (launch.AlreadyRunning t)) keeps h = tt
still_launched heads old new by (event.Launch word launch.NotFound) keeps h = tt
still_launched heads old new by (event.Launch word launch.Limit) keeps h = tt
still_launched heads old new by (event.Find word o) keeps h = tt
still_launched heads old new by (event.Gone t) keeps h = tt
still_launched heads old new by (event.Door looper) keeps h = tt

event_keeps : (heads : List AppHead) (s : RosterState) (by : ℕ) (what : RosterEvent) → Keeps s.loopers (after heads s by what).loopers
event_keeps heads s by (event.Launch word o) = λ first starter count there number low high. some_append (IsBy first starter) s.loopers (loopers_of heads by o) number (there number low high)
event_keeps heads s by (event.Find word o) = λ first starter count there. there
event_keeps heads s by (event.Gone t) = λ first starter count there. there
event_keeps heads s by (event.Door looper) = λ first starter count there number low high. some_given (IsBy first starter) (λ t l is. is) by looper s.loopers number (there number low high)

new_launched : (heads : List AppHead) (s : RosterState) (by : ℕ) (what : RosterEvent) → IsLegal heads s by what → HasLaunched heads (after heads s by what).loopers by what
new_launched heads s by (event.Launch word (launch.Started place t first)) legal =
    let f = started_facts heads s word place t first (sym legal) in
    let looper : LooperData = record { own = first; starter = by; given = [] } in
    λ number low high. some_new (IsBy first by) s.loopers looper (loopers_at heads place) number (refl, refl) (omega (arith, low, f.first_is)) (omega (arith, high, f.first_is))
new_launched heads s by (event.Launch word (launch.AlreadyRunning t)) legal = tt
new_launched heads s by (event.Launch word launch.NotFound) legal = tt
new_launched heads s by (event.Launch word launch.Limit) legal = tt
new_launched heads s by (event.Find word o) legal = tt
new_launched heads s by (event.Gone t) legal = tt
new_launched heads s by (event.Door looper) legal = tt

abbrev Launched : List AppHead → List LooperData → RosterEntry → Type 0
Launched heads loopers entry = HasLaunched heads loopers entry.by.0 entry.event

pub launches_have_loopers : LaunchesHaveLoopers
launches_have_loopers heads entries h =
    carried heads (λ es s. All (Launched heads s.loopers) es)
    (λ before s e p legal.
    All-push (Launched heads (after heads s e.by.0 e.event).loopers) before e
    (All-weaker (Launched heads s.loopers) (Launched heads (after heads s e.by.0 e.event).loopers)
    (λ entry there. still_launched heads s.loopers (after heads s e.by.0 e.event).loopers entry.by.0 entry.event (event_keeps heads s e.by.0 e.event) there) before p)
    (new_launched heads s e.by.0 e.event legal))
    [] entries h (All-nil (Launched heads []))
