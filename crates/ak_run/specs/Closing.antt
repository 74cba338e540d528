-- What main does to end a run: team after team, each that runs is ended.
use Rattle.std.specs.Prelude.{◌≡◌, ◌+◌, ◌≤◌, ℕ, List, [], ◌∷◌, ◌++◌, length, Option, None, Some}
use Rattle.std.specs.List.{find, range_with_len}
use Rattle.ak_base.specs.Thread.{main_thread}
use Rattle.ak_turn.specs.Noted.{Noted, noted}
use Rattle.ak_roster.specs.Limits.{team_limit}
use Rattle.ak_roster.specs.Machine.{runs_team, state_of}
use Rattle.ak_roster.specs.Roster.{state}
use Rattle.ak_roster.specs.declared.entry.RosterEntry.{RosterEntry}
use Rattle.ak_roster.specs.declared.entry.RosterEvent.TheVariants as event
use Rattle.ak_roster.specs.declared.head.AppHead.{AppHead}
use Rattle.ak_roster.specs.declared.team.Running.{Running}
use Rattle.ak_diary.specs.Step.{Step, at_roster, desk_entries, roster_entries, saw_roster}
use Rattle.ak_diary.specs.Turns.{ShutsAll}
use Rattle.ak_headline.specs.Run.{roster_maker}
use Rattle.ak_looper.specs.Rosters.{plain_of}
use Rattle.ak_run.specs.declared.run.Run.{Run}
use Rattle.ak_team.specs.Launching.{Book, HasEntered}
use Rattle.ak_run.specs.Recording.{GoesBy, fronts_of}

-- ---- one team
-- it ran, as that; that it is gone is one entry at the roster
pub record EntersGone (heads : List AppHead) (team : ℕ) (running : Running) (steps : List Step) : Type 0 where
  pub noted : Noted RosterEntry
  pub event_is : noted.entry.event ≡ event.Gone team
  pub runs : find (runs_team team) (state_of heads noted.before).running ≡ Some running
  pub is : steps ≡ at_roster noted ∷ []

-- it does not run, as main saw behind all that it had entered there by the steps so far
pub record FindsGone (heads : List AppHead) (so_far : List Step) (team : ℕ) (steps : List Step) : Type 0 where
  pub seen : List RosterEntry
  pub mine : noted roster_maker main_thread seen ≡ roster_entries so_far
  pub gone : find (runs_team team) (state_of heads seen).running ≡ None
  pub is : steps ≡ saw_roster seen ∷ []

abbrev pub LeavesSo : List AppHead → List Step → ℕ → Option Running → List Step → Type 0
LeavesSo heads so_far team (Some running) steps = EntersGone heads team running steps
LeavesSo heads so_far team None steps = FindsGone heads so_far team steps

-- the ports of its loopers, in order
abbrev pub ports_of : Option Running → List ℕ
ports_of (Some running) = range_with_len running.first running.loopers
ports_of None = []

-- where it runs it is gone first, and then each of its ports is shut, or found to be, in order
pub record EndsTeam (heads : List AppHead) (so_far : List Step) (team : ℕ) (steps : List Step) : Type 0 where
  pub running : Option Running
  pub gone : List Step
  pub leaves : LeavesSo heads so_far team running gone
  pub shut : List Step
  pub shuts : ShutsAll (ports_of running) shut
  pub is : steps ≡ gone ++ shut

-- ---- team after team
abbrev pub EndsTeams : List AppHead → List Step → List ℕ → List Step → Type 0
EndsTeams heads so_far [] steps = steps ≡ []
EndsTeams heads so_far (team ∷ teams) steps =
    (first : List Step) × (rest : List Step) × (EndsTeam heads so_far team first) × (EndsTeams heads (so_far ++ first) teams rest) × (steps ≡ first ++ rest)

-- each that there may be, by their numbers
abbrev pub EndsAllTeams : List AppHead → List Step → List Step → Type 0
EndsAllTeams heads so_far steps = EndsTeams heads so_far (range_with_len 1 team_limit) steps

-- ---- calls
-- all that main has entered at the roster is what these steps tell
abbrev pub IsRecordedAtRoster : List Step → Run → Type 0
IsRecordedAtRoster so_far r = noted roster_maker main_thread (plain_of r.roster_seat) ≡ roster_entries so_far

-- By steps of which none is at a desk main's own entries went on. Behind whatever steps tell what it had entered at the roster they are such steps
pub record ClosesSo (P : List Step → List Step → Type 0) (r r' : Run) : Type 0 where
  pub steps : List Step
  pub so : (so_far : List Step) → IsRecordedAtRoster so_far r → P so_far steps
  pub goes : GoesBy steps (fronts_of r) (fronts_of r')
  pub no_edits : (looper : ℕ) → desk_entries looper steps ≡ []

-- in a turn at the roster: one entry tells that the team is gone, where it ran, and its loopers were started
abbrev pub LeavesBook : ℕ → Option Running → Book → Book → Type 0
LeavesBook team (Some running) book book' =
    (find (runs_team team) (state book).running ≡ Some running) × HasEntered (Some (event.Gone team)) 0 book book' × (running.first + running.loopers ≤ length (state book).loopers)
LeavesBook team None book book' = (find (runs_team team) (state book).running ≡ None) × HasEntered None 0 book book'
