-- The machine of the roster: the state that a list of entries leaves, and which entry may follow it.
use Rattle.std.specs.Prelude.{◌≡◌, ◌<◌, ℕ, zero, suc, ◌+◌, Bool, not, ◌==◌, ◌&&◌, nat_lt, nat_le, IsTrue, List, [], ◌∷◌, ◌++◌, length, filter, replicate, Contains, Option, None, Some, option_map, unwrap_or, slice_get, if◌then◌else◌}
use Rattle.std.specs.List.{list_any}
use Rattle.ak_base.specs.declared.app_word.AppWord.{AppWord}
use Rattle.ak_base.specs.Limits.{looper_limit}
use Rattle.ak_base.specs.Thread.{main_thread, looper_thread, keeper_thread}
use Rattle.ak_turn.specs.Entries.{last_stamp_of}
use Rattle.ak_roster.specs.declared.head.AppHead.{AppHead}
use Rattle.ak_roster.specs.declared.team.Running.{Running}
use Rattle.ak_roster.specs.declared.entry.RosterEntry.{RosterEntry}
use Rattle.ak_roster.specs.declared.entry.RosterEvent.{RosterEvent}
use Rattle.ak_roster.specs.declared.entry.RosterEvent.TheVariants as event
use Rattle.ak_roster.specs.declared.entry.LaunchOutcome.{LaunchOutcome}
use Rattle.ak_roster.specs.declared.entry.LaunchOutcome.TheVariants as launch
use Rattle.ak_roster.specs.declared.entry.FindOutcome.{FindOutcome}
use Rattle.ak_roster.specs.declared.entry.FindOutcome.TheVariants as outcome
use Rattle.ak_roster.specs.Heads.{excluder, first_fit, team_for}
use Rattle.ak_roster.specs.Limits.{team_limit}

-- a looper that was started: the first looper of its team, the thread that launched it, and the threads that got its door since
pub record LooperData : Type 0 where
  pub own : ℕ
  pub starter : ℕ
  pub given : List ℕ

-- the teams that run, in the order of their numbers; how many teams were started; and the loopers that were started, by their numbers
pub record RosterState : Type 0 where
  pub running : List Running
  pub teams : ℕ
  pub loopers : List LooperData

abbrev pub start : RosterState
start = record { running = []; teams = 0; loopers = [] }

-- at most 16 teams are started, with at most 32 loopers together
abbrev pub has_room : ℕ → ℕ → AppHead → Bool
has_room teams loopers head = nat_lt teams team_limit && nat_le (loopers + head.loopers) looper_limit

-- ---- what a launch is answered
abbrev pub unless_excluded : Option Running → LaunchOutcome → LaunchOutcome
unless_excluded None otherwise = otherwise
unless_excluded (Some team) otherwise = launch.AlreadyRunning team.team

-- by so many teams and loopers started before
abbrev pub launch_at : List AppHead → List Running → ℕ → ℕ → ℕ → Option AppHead → LaunchOutcome
launch_at heads running teams loopers place None = launch.NotFound
launch_at heads running teams loopers place (Some head) =
    unless_excluded (excluder heads running head)
    (if has_room teams loopers head then launch.Started place (teams + 1) loopers else launch.Limit)

abbrev pub launch_first : List AppHead → List Running → ℕ → ℕ → Option ℕ → LaunchOutcome
launch_first heads running teams loopers None = launch.NotFound
launch_first heads running teams loopers (Some place) = launch_at heads running teams loopers place (slice_get heads place)

-- of the first description that fits: a team that runs keeps it from starting, or there is no room, or it starts with the next numbers
abbrev pub launch_of : List AppHead → RosterState → AppWord → LaunchOutcome
launch_of heads s word = launch_first heads s.running s.teams (length s.loopers) (first_fit heads word)

-- ---- what a look-up is answered
abbrev pub outcome_found : Option Running → FindOutcome
outcome_found None = outcome.NoTeam
outcome_found (Some team) = outcome.Team team.team

abbrev pub find_of : List AppHead → RosterState → AppWord → FindOutcome
find_of heads s word = outcome_found (team_for heads s.running word)

-- ---- what an event changes
abbrev pub loopers_at : List AppHead → ℕ → ℕ
loopers_at heads place = unwrap_or (option_map (λ head. head.loopers) (slice_get heads place)) 0

-- the team that a launch starts
abbrev pub team_of : List AppHead → LaunchOutcome → List Running
team_of heads (launch.Started place team first) =
    (record { team = team; description = place; first = first; loopers = loopers_at heads place }) ∷ []
team_of heads (launch.AlreadyRunning team) = []
team_of heads launch.NotFound = []
team_of heads launch.Limit = []

-- the loopers that it starts
abbrev pub loopers_of : List AppHead → ℕ → LaunchOutcome → List LooperData
loopers_of heads by (launch.Started place team first) =
    replicate (loopers_at heads place) (record { own = first; starter = by; given = [] })
loopers_of heads by (launch.AlreadyRunning team) = []
loopers_of heads by launch.NotFound = []
loopers_of heads by launch.Limit = []

abbrev pub launched : List AppHead → ℕ → LaunchOutcome → RosterState → RosterState
launched heads by result s =
    record {
      running = s.running ++ team_of heads result;
      teams = s.teams + length (team_of heads result);
      loopers = s.loopers ++ loopers_of heads by result;
    }

abbrev pub runs_team : ℕ → Running → Bool
runs_team team running = running.team == team

abbrev pub without_team : ℕ → RosterState → RosterState
without_team team s = record s { running = filter (λ running. not (runs_team team running)) s.running }

-- the looper with that number has given its door to one thread more
abbrev pub given_to : ℕ → LooperData → LooperData
given_to thread looper = record looper { given = looper.given ++ thread ∷ [] }

abbrev pub with_given : ℕ → ℕ → List LooperData → List LooperData
with_given thread number [] = []
with_given thread zero (looper ∷ rest) = given_to thread looper ∷ rest
with_given thread (suc number) (looper ∷ rest) = looper ∷ with_given thread number rest

abbrev pub with_door : ℕ → ℕ → RosterState → RosterState
with_door thread number s = record s { loopers = with_given thread number s.loopers }

-- the threads that have a part of what the door of looper L leads to: main, looper L, the first looper of its team, the keeper of the
-- doors, and those that got the door since
abbrev pub holders : ℕ → LooperData → List ℕ
holders number looper = main_thread ∷ looper_thread number ∷ looper_thread looper.own ∷ keeper_thread ∷ looper.given

-- ---- the table: when an event may come by a thread, and what it changes
-- the looper was started, and the thread did not get its door before; which threads may take a door is a matter of the diaries
abbrev pub HasNoDoor : ℕ → Option LooperData → Type 0
HasNoDoor thread None = ⊥
HasNoDoor thread (Some looper) = ¬ (Contains looper.given thread)

abbrev pub IsLegal : List AppHead → RosterState → ℕ → RosterEvent → Type 0
IsLegal heads s by (event.Launch word result) = result ≡ launch_of heads s word
IsLegal heads s by (event.Find word result) = result ≡ find_of heads s word
IsLegal heads s by (event.Gone team) = IsTrue (list_any (runs_team team) s.running)
IsLegal heads s by (event.Door looper) = HasNoDoor by (slice_get s.loopers looper)

abbrev pub after : List AppHead → RosterState → ℕ → RosterEvent → RosterState
after heads s by (event.Launch word result) = launched heads by result s
after heads s by (event.Find word result) = s
after heads s by (event.Gone team) = without_team team s
after heads s by (event.Door looper) = with_door by looper s

-- one step of the roster
pub record RosterStep (heads : List AppHead) (old : RosterState) (entry : RosterEntry) (new : RosterState) : Type 0 where
  pub legal : IsLegal heads old entry.by.0 entry.event
  pub effect : new ≡ after heads old entry.by.0 entry.event

-- ---- lists of entries, oldest first
abbrev pub state_from : List AppHead → RosterState → List RosterEntry → RosterState
state_from heads s [] = s
state_from heads s (entry ∷ rest) = state_from heads (after heads s entry.by.0 entry.event) rest

-- the state that the entries leave
abbrev pub state_of : List AppHead → List RosterEntry → RosterState
state_of heads entries = state_from heads start entries

-- a history: each entry is a step from the state that the entries before it leave, and its stamp is past theirs
pub record IsHistory (heads : List AppHead) (entries : List RosterEntry) : Type 0 where
  pub steps : (before : List RosterEntry) (entry : RosterEntry) (rest : List RosterEntry) → entries ≡ before ++ entry ∷ rest
      → RosterStep heads (state_of heads before) entry (state_of heads (before ++ entry ∷ []))
  pub stamps : (before : List RosterEntry) (entry : RosterEntry) (rest : List RosterEntry) → entries ≡ before ++ entry ∷ rest
      → last_stamp_of (λ e. e.stamp) before < entry.stamp
