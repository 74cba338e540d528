-- What holds at the start of a history, and stays true at each step, holds at its end.
use Rattle.std.proofs.Common.{◌≡◌, ◌<◌, ◌≤◌, ℕ, ◌+◌, ◌⊎◌, inl, inr, Bool, true, false, not, cond, List, [], ◌∷◌, ◌++◌, length, get_or, refl, sym, ◌∙◌, subst, arith, append-nil, append_assoc, All, AllPairs, filter, lit≤}
use Rattle.std.specs.Prelude.{IsTrue, ◌||◌}
use Rattle.std.specs.List.{list_any}
use Rattle.std.proofs.lemmas.Bool.Decides.{nat_tests}
use Rattle.std.proofs.lemmas.Grind.{flat_map-append}
use Rattle.std.proofs.lemmas.List.{length-append}
use Rattle.std.proofs.lemmas.List.Elements.{All-nil, All-push, All-weaker}
use Rattle.std.proofs.lemmas.List.Quantifiers.{all_pairs_push}
use Rattle.ak_base.specs.declared.app_word.AppWord.{AppWord}
use Rattle.ak_roster.specs.declared.head.AppHead.{AppHead}
use Rattle.ak_roster.specs.declared.team.Running.{Running}
use Rattle.ak_roster.specs.declared.entry.RosterEntry.{RosterEntry}
use Rattle.ak_roster.specs.declared.entry.RosterEvent.{RosterEvent}
use Rattle.ak_roster.specs.declared.entry.RosterEvent.TheVariants as event
use Rattle.ak_roster.specs.declared.entry.LaunchOutcome.{LaunchOutcome}
use Rattle.ak_roster.specs.declared.entry.LaunchOutcome.TheVariants as launch
use Rattle.ak_roster.specs.Machine.{RosterState, IsHistory, IsLegal, after, launch_of, loopers_at, loopers_of, runs_team, state_of, team_of}
use Rattle.ak_roster.specs.Laws.{IsWithinLimits, NumbersRise, NoTeamReturns, OneLaunch, OneLookUp, LimitsHold, Runs, number_of, numbers_of}
use Rattle.ak_roster.proofs.Histories.{count_started, length-with_given}
use Rattle.ak_roster.proofs.Launching.{started_facts}

module _ (heads : List AppHead) (P : List RosterEntry → RosterState → Type 0)
    (step : (before : List RosterEntry) (s : RosterState) (e : RosterEntry) → P before s → IsLegal heads s e.by.0 e.event → P (before ++ e ∷ []) (after heads s e.by.0 e.event)) where
  walk : (all front rest : List RosterEntry) → IsHistory heads all → all ≡ front ++ rest → P front (state_of heads front) → P all (state_of heads all)
  walk all front [] h parted p = subst (λ (es : List RosterEntry). P es (state_of heads es)) (sym (append-nil front) ∙ sym parted) p
  walk all front (e ∷ rest) h parted p =
      let s = h.steps front e rest parted in
      walk all (front ++ e ∷ []) rest h (parted ∙ sym (append_assoc front (e ∷ []) rest))
      (subst (λ (t : RosterState). P (front ++ e ∷ []) t) (sym s.effect) (step front (state_of heads front) e p s.legal))

  pub carried : (front rest : List RosterEntry) → IsHistory heads (front ++ rest) → P front (state_of heads front) → P (front ++ rest) (state_of heads (front ++ rest))
  carried front rest h p = walk (front ++ rest) front rest h refl p

-- ---- an answer is the machine's
pub one_launch : OneLaunch
one_launch heads before rest others entry other word o p h k e f =
    subst (λ (w : RosterEvent). IsLegal heads (state_of heads before) entry.by.0 w) e (h.steps before entry rest refl).legal
    ∙ sym (subst (λ (w : RosterEvent). IsLegal heads (state_of heads before) other.by.0 w) f (k.steps before other others refl).legal)

pub one_look_up : OneLookUp
one_look_up heads before rest others entry other word o p h k e f =
    subst (λ (w : RosterEvent). IsLegal heads (state_of heads before) entry.by.0 w) e (h.steps before entry rest refl).legal
    ∙ sym (subst (λ (w : RosterEvent). IsLegal heads (state_of heads before) other.by.0 w) f (k.steps before other others refl).legal)

-- ---- numbers
abbrev pub AreBelow : List ℕ → ℕ → Type 0
AreBelow ns teams = AllPairs (λ a b. a < b) ns × All (λ t. t ≤ teams) ns

more_teams : (ns : List ℕ) (teams more : ℕ) → AreBelow ns teams → AreBelow (ns ++ []) (teams + more)
more_teams ns teams more h =
    subst (λ (xs : List ℕ). AreBelow xs (teams + more)) (sym (append-nil ns))
    (h.0, All-weaker (λ t. t ≤ teams) (λ t. t ≤ teams + more) (λ t low. omega arith) ns h.1)

module _ (heads : List AppHead) (s : RosterState) (by : ℕ) (ns : List ℕ) (h : AreBelow ns s.teams) where
  launch_numbers : (word : AppWord) (o : LaunchOutcome) → o ≡ launch_of heads s word
      → AreBelow (ns ++ (number_of (event.Launch word o) ++ [])) (s.teams + length (team_of heads o))
  launch_numbers word (launch.Started place team first) legal =
      let f = started_facts heads s word place team first (sym legal) in
      let rise : (k : ℕ) (d : ℕ) → k < length ns → get_or ns k d < team = λ k d low. omega (arith, h.1 k d low, f.team_is) in (
        all_pairs_push (λ a b. a < b) ns team h.0 rise,
        All-push (λ t. t ≤ s.teams + 1) ns team (All-weaker (λ t. t ≤ s.teams) (λ t. t ≤ s.teams + 1) (λ t low. omega arith) ns h.1) (omega (arith, f.team_is)),
      )
  launch_numbers word (launch.AlreadyRunning team) legal = more_teams ns s.teams 0 h
  launch_numbers word launch.NotFound legal = more_teams ns s.teams 0 h
  launch_numbers word launch.Limit legal = more_teams ns s.teams 0 h

  same_numbers : AreBelow (ns ++ []) s.teams
  same_numbers = subst (λ (xs : List ℕ). AreBelow xs s.teams) (sym (append-nil ns)) h

  event_numbers : (what : RosterEvent) → IsLegal heads s by what → AreBelow (ns ++ (number_of what ++ [])) (after heads s by what).teams
  event_numbers (event.Launch word o) legal = launch_numbers word o legal
  event_numbers (event.Find word o) legal = same_numbers
  event_numbers (event.Gone team) legal = same_numbers
  event_numbers (event.Door looper) legal = same_numbers

pub numbers_rise : NumbersRise
numbers_rise heads entries h =
    (carried heads (λ es s. AreBelow (numbers_of es) s.teams)
    (λ before s e p legal. subst (λ (ns : List ℕ). AreBelow ns (after heads s e.by.0 e.event).teams) (sym (flat_map-append (λ x. number_of x.event) before (e ∷ [])))
    (event_numbers heads s e.by.0 (numbers_of before) p e.event legal))
    [] entries h ((λ i j d low high. absurd (omega arith)), All-nil (λ t. t ≤ 0))).0

-- ---- a team that is gone stays so
or_right : (a b : Bool) → IsTrue b → IsTrue (a || b)
or_right true b h = refl
or_right false b h = h

or_map : (a b c : Bool) → (IsTrue b → IsTrue c) → IsTrue (a || b) → IsTrue (a || c)
or_map true b c f h = refl
or_map false b c f h = f h

or_parts : (a b c d : Bool) → (IsTrue c → IsTrue b ⊎ IsTrue d) → IsTrue (a || c) → IsTrue (a || b) ⊎ IsTrue d
or_parts true b c d f h = inl refl
or_parts false b c d f h = f h

module _ {A : Type 0} (test : A → Bool) where
  any_append : (xs ys : List A) → IsTrue (list_any test (xs ++ ys)) → IsTrue (list_any test xs) ⊎ IsTrue (list_any test ys)
  any_append [] ys h = inr h
  any_append (x ∷ xs) ys h = or_parts (test x) (list_any test xs) (list_any test (xs ++ ys)) (list_any test ys) (any_append xs ys) h

  kept : (k : Bool) (x : A) (ys xs : List A) → (IsTrue (list_any test ys) → IsTrue (list_any test xs)) → IsTrue (list_any test (cond k (x ∷ ys) ys))
      → IsTrue (test x || list_any test xs)
  kept true x ys xs f h = or_map (test x) (list_any test ys) (list_any test xs) f h
  kept false x ys xs f h = or_right (test x) (list_any test xs) (f h)

  any_filter : (keep : A → Bool) (xs : List A) → IsTrue (list_any test (filter keep xs)) → IsTrue (list_any test xs)
  any_filter keep [] h = h
  any_filter keep (x ∷ xs) h = kept (keep x) x (filter keep xs) xs (any_filter keep xs) h

-- a team that was started before runs then only if it ran before
abbrev pub StaysGone : ℕ → Type 0 → RosterState → Type 0
StaysGone team ran s = (team ≤ s.teams) × (Runs team s → ran)

module _ (heads : List AppHead) (s : RosterState) (by team : ℕ) (ran : Type 0) (h : StaysGone team ran s) where
  not_new : (p t f n : ℕ) → t ≡ s.teams + 1 → IsTrue (list_any (runs_team team) ((let r : Running = record { team = t; description = p; first = f; loopers = n } in r) ∷ [])) → ⊥
  not_new p t f n is runs = grind (arith, nat_tests, h.0)

  launch_gone : (word : AppWord) (o : LaunchOutcome) → o ≡ launch_of heads s word → StaysGone team ran (after heads s by (event.Launch word o))
  launch_gone word (launch.Started place t first) legal = (
    omega (arith, h.0),
    λ runs. elim (any_append (runs_team team) s.running (team_of heads (launch.Started place t first)) runs) [
      | inl before ↦ h.1 before
      | inr new ↦ absurd (not_new place t first (loopers_at heads place) (started_facts heads s word place t first (sym legal)).team_is new)
    ],
  )
  launch_gone word (launch.AlreadyRunning t) legal = (omega (arith, h.0), λ runs. h.1 (subst (λ (rs : List Running). IsTrue (list_any (runs_team team) rs)) (append-nil s.running) runs))
  launch_gone word launch.NotFound legal = (omega (arith, h.0), λ runs. h.1 (subst (λ (rs : List Running). IsTrue (list_any (runs_team team) rs)) (append-nil s.running) runs))
  launch_gone word launch.Limit legal = (omega (arith, h.0), λ runs. h.1 (subst (λ (rs : List Running). IsTrue (list_any (runs_team team) rs)) (append-nil s.running) runs))

  event_gone : (what : RosterEvent) → IsLegal heads s by what → StaysGone team ran (after heads s by what)
  event_gone (event.Launch word o) legal = launch_gone word o legal
  event_gone (event.Find word o) legal = h
  event_gone (event.Gone t) legal = (h.0, λ runs. h.1 (any_filter (runs_team team) (λ r. not (runs_team t r)) s.running runs))
  event_gone (event.Door looper) legal = h

pub no_team_returns : NoTeamReturns
no_team_returns heads before rest team h low =
    (carried heads (λ es s. StaysGone team (Runs team (state_of heads before)) s)
    (λ front s e p legal. event_gone heads s e.by.0 team (Runs team (state_of heads before)) p e.event legal)
    before rest h (low, λ runs. runs)).1

-- ---- limits
module _ (heads : List AppHead) (s : RosterState) (by : ℕ) (h : IsWithinLimits s) where
  launch_within : (word : AppWord) (o : LaunchOutcome) → o ≡ launch_of heads s word → IsWithinLimits (after heads s by (event.Launch word o))
  launch_within word (launch.Started place t first) legal =
      let f = started_facts heads s word place t first (sym legal) in
      record {
        teams = omega (arith, f.team_is, f.few_teams);
        loopers = omega (arith, f.first_is, f.few_loopers, count_started heads by (launch.Started place t first), length-append s.loopers (loopers_of heads by (launch.Started place t first)));
      }
  launch_within word (launch.AlreadyRunning t) legal = record { teams = omega (arith, h.teams); loopers = omega (arith, h.loopers, length-append s.loopers []) }
  launch_within word launch.NotFound legal = record { teams = omega (arith, h.teams); loopers = omega (arith, h.loopers, length-append s.loopers []) }
  launch_within word launch.Limit legal = record { teams = omega (arith, h.teams); loopers = omega (arith, h.loopers, length-append s.loopers []) }

  event_within : (what : RosterEvent) → IsLegal heads s by what → IsWithinLimits (after heads s by what)
  event_within (event.Launch word o) legal = launch_within word o legal
  event_within (event.Find word o) legal = h
  event_within (event.Gone t) legal = record { teams = h.teams; loopers = h.loopers }
  event_within (event.Door looper) legal = record { teams = h.teams; loopers = omega (arith, h.loopers, length-with_given by looper s.loopers) }

pub limits_hold : LimitsHold
limits_hold heads entries h =
    carried heads (λ es s. IsWithinLimits s) (λ front s e p legal. event_within heads s e.by.0 p e.event legal) [] entries h
    (record { teams = lit≤ tt; loopers = lit≤ tt })
