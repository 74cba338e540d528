-- Each team that runs has a looper, and none past the last number that a looper may have.
use Rattle.std.proofs.Common.{◌≡◌, ◌+◌, ◌≤◌, ℕ, not, List, [], ◌++◌, All, Option, None, Some, refl, sym, ap, ◌∙◌, subst, append-nil, arith}
use Rattle.std.specs.Prelude.{IfSome, option_map, slice_get, unwrap_or}
use Rattle.std.proofs.lemmas.List.Elements.{All-append, All-cons, All-filter, All-get_or, All-nil}
use Rattle.std.proofs.lemmas.Option.{get_or_from_slice_get, slice_get_within}
use Rattle.ak_base.proofs.Surface.{find-All}
use Rattle.ak_base.specs.Limits.{looper_limit}
use Rattle.ak_base.specs.declared.app_word.AppWord.{AppWord}
use Rattle.ak_roster.specs.declared.answer.FindAnswer.{FindAnswer}
use Rattle.ak_roster.specs.declared.answer.FindAnswer.TheVariants as answer
use Rattle.ak_roster.specs.declared.entry.LaunchOutcome.TheVariants as launch
use Rattle.ak_roster.specs.declared.entry.RosterEntry.{RosterEntry}
use Rattle.ak_roster.specs.declared.entry.RosterEvent.{RosterEvent}
use Rattle.ak_roster.specs.declared.entry.RosterEvent.TheVariants as event
use Rattle.ak_roster.specs.declared.head.AppHead.{AppHead}
use Rattle.ak_roster.specs.declared.team.Running.{Running}
use Rattle.ak_roster.specs.Answers.{OnFound, answer_of}
use Rattle.ak_roster.specs.Heads.{IsHeads, team_fits, team_for}
use Rattle.ak_roster.specs.Machine.{IsHistory, IsLegal, RosterState, after, loopers_at, runs_team, state_of, team_of}
use Rattle.ak_roster.proofs.Surface.{carried, started_facts}
use Rattle.ak_session.specs.Calls.{IsOfLoopers}

record IsTeam (r : Running) : Type 0 where
  some : 1 ≤ r.loopers
  within : r.first + r.loopers ≤ looper_limit

-- what holds of each holds at a place
all_at : {X : Type 0} (P : X → Type 0) (xs : List X) (i : ℕ) (x : X) → All P xs → slice_get xs i ≡ Some x → P x
all_at P xs i x all is = subst P (get_or_from_slice_get xs i x x is) (All-get_or P xs i x (slice_get_within xs i x is) all)

module _ (heads : List AppHead) (is : IsHeads heads) where
  abbrev AreTeams : RosterState → Type 0
  AreTeams s = All IsTeam s.running

  count_at : (place : ℕ) (head : AppHead) → slice_get heads place ≡ Some head → 1 ≤ loopers_at heads place
  count_at place head there =
      let many : loopers_at heads place ≡ head.loopers = ap (λ (o : Option AppHead). unwrap_or (option_map (λ (h : AppHead). h.loopers) o) 0) there in
      let some : All (λ (h : AppHead). 1 ≤ h.loopers) heads = λ i d lt. (is.loopers i d lt).0 in
      omega (arith, many, all_at (λ (h : AppHead). 1 ≤ h.loopers) heads place head some there)

  still_teams : (before : List RosterEntry) (s : RosterState) (e : RosterEntry) → AreTeams s → IsLegal heads s e.by.0 e.event → AreTeams (after heads s e.by.0 e.event)
  still_teams before s e teams legal = by_event e.event legal
    where
      none_more : (what : RosterEvent) → (after heads s e.by.0 what).running ≡ s.running ++ [] → AreTeams (after heads s e.by.0 what)
      none_more what same = subst (All IsTeam) (sym (same ∙ append-nil s.running)) teams

      by_event : (what : RosterEvent) → IsLegal heads s e.by.0 what → AreTeams (after heads s e.by.0 what)
      by_event (event.Launch word (launch.Started place team first)) so =
          let facts = started_facts heads s word place team first (sym so) in
          All-append IsTeam s.running (team_of heads (launch.Started place team first)) teams
          (All-cons IsTeam (record { team = team; description = place; first = first; loopers = loopers_at heads place }) [] (record { some = count_at place facts.head facts.stands; within = facts.few_loopers }) (All-nil IsTeam))
      by_event (event.Launch word (launch.AlreadyRunning team)) so = none_more (event.Launch word (launch.AlreadyRunning team)) refl
      by_event (event.Launch word launch.NotFound) so = none_more (event.Launch word launch.NotFound) refl
      by_event (event.Launch word launch.Limit) so = none_more (event.Launch word launch.Limit) refl
      by_event (event.Find word outcome) so = teams
      by_event (event.Gone team) so = All-filter (λ (r : Running). not (runs_team team r)) IsTeam s.running teams
      by_event (event.Door looper) so = teams

  teams_of : (entries : List RosterEntry) → IsHistory heads entries → AreTeams (state_of heads entries)
  teams_of entries history = carried heads (λ before s. AreTeams s) still_teams [] entries history (All-nil IsTeam)

  of_loopers : (team : Option Running) → IfSome team IsTeam → IsOfLoopers (answer_of team)
  of_loopers None so = tt
  of_loopers (Some x) so = (so.some, so.within)

  -- so has the one that a look-up finds
  pub found_loopers : (entries : List RosterEntry) → IsHistory heads entries → (word : AppWord) (a : FindAnswer) → OnFound a (a ≡ answer_of (team_for heads (state_of heads entries).running word)) → IsOfLoopers a
  found_loopers entries history word a told = by_answer a told
    where
      sought : IsOfLoopers (answer_of (team_for heads (state_of heads entries).running word))
      sought = of_loopers (team_for heads (state_of heads entries).running word) (find-All (team_fits heads word) IsTeam (state_of heads entries).running (teams_of entries history))

      by_answer : (x : FindAnswer) → OnFound x (x ≡ answer_of (team_for heads (state_of heads entries).running word)) → IsOfLoopers x
      by_answer (answer.Team team first loopers) so = subst IsOfLoopers (sym so) sought
      by_answer answer.NoTeam so = tt
      by_answer answer.NoMemory so = tt
