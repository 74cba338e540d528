-- What a launch makes of the roster.
use Rattle.std.specs.Prelude.{◌≡◌, ℕ, ◌+◌, ◌≤◌, ◌<◌, List, [], ◌∷◌, ◌++◌, length, map, All, Any, Option, None, Some, slice_get}
use Rattle.std.specs.Arc.{arc_value}
use Rattle.std.specs.List.{find}
use Rattle.ak_base.specs.Limits.{looper_limit}
use Rattle.ak_base.specs.Thread.{main_thread}
use Rattle.ak_turn.specs.Entries.{made_by}
use Rattle.ak_turn.specs.Noted.{note}
use Rattle.ak_roster.specs.declared.entry.EntryWithObjects.{EntryWithObjects}
use Rattle.ak_roster.specs.declared.entry.RosterEvent.{RosterEvent}
use Rattle.ak_roster.specs.declared.entry.RosterEvent.TheVariants as event
use Rattle.ak_base.specs.declared.app_word.AppWord.{AppWord}
use Rattle.ak_message.specs.Message.{MessageData}
use Rattle.ak_roster.specs.Machine.{launch_of, loopers_at, runs_team}
use Rattle.ak_roster.specs.declared.team.Running.{Running}
use Rattle.ak_roster.specs.declared.entry.LaunchOutcome.TheVariants as outcome
use Rattle.ak_roster.specs.Roster.{RosterData, objects_of, plain_entries, state}
use Rattle.ak_action.specs.declared.plan.PlanParts.{PlanParts}
use Rattle.ak_action.specs.declared.state.DeskState.{DeskState}
use Rattle.ak_describe.specs.declared.described.AppText.{AppText}
use Rattle.ak_diary.specs.Step.{Step, at_roster}
use Rattle.ak_headline.specs.Main.{MayEnterRoster}
use Rattle.ak_looper.specs.declared.kept_door.KeptDoor.{KeptDoor}
use Rattle.ak_looper.specs.Doors.{door_object}
use Rattle.ak_looper.specs.Rosters.{Object, maker_of}
use Rattle.ak_team.specs.declared.launching.Launch.{Launch}
use Rattle.ak_team.specs.declared.launching.Launch.TheVariants as launch
use Rattle.ak_team.specs.declared.launching.StartedTeam.{StartedTeam}
use Rattle.ak_team.specs.declared.new_team.Making.{Making}
use Rattle.ak_looper.specs.declared.shared.Shared.{Shared}
use Rattle.ak_team.specs.declared.new_team.NewTeam.{NewTeam}
use Rattle.ak_looper.specs.Counting.{started_in}
use Rattle.ak_looper.specs.Starts.{StartsAt}
use Rattle.ak_team.specs.Jobs.{facts_in}
use Rattle.ak_team.specs.Greeting.{EachMains, capacities_in, port_events, told_first, written_from}
use Rattle.ak_team.specs.NewTeam.{IsNewTeam, IsOneOf}
use Rattle.ak_team.specs.InTime.{AreInTime, ArePortsInTime, team_fronts}

-- what a roster's book has
abbrev pub Book : Type 0
Book = RosterData KeptDoor Object

-- as many loopers were started as main's own entries tell
abbrev pub ByMain : Book → Type 0
ByMain book = length (state book).loopers ≡ started_in book.heads (made_by maker_of main_thread (plain_entries book.entries))

abbrev pub one_or_none : Option RosterEvent → List RosterEvent
one_or_none None = []
one_or_none (Some what) = what ∷ []

-- main entered at most one entry, that one, by which so many loopers were started
pub record HasEntered (what : Option RosterEvent) (started : ℕ) (book book' : Book) : Type 0 where
  pub heads : book'.heads ≡ book.heads
  pub added : List (EntryWithObjects Object)
  pub entries : book'.entries ≡ book.entries ++ added
  pub one : length added ≤ 1
  pub events : map (λ (entry : EntryWithObjects Object). entry.plain.event) added ≡ one_or_none what
  pub by_main : All (λ (entry : EntryWithObjects Object). entry.plain.by.0 ≡ main_thread) added
  pub may : All (λ (entry : EntryWithObjects Object). MayEnterRoster entry.plain.event) added
  pub starts : started_in book.heads (plain_entries added) ≡ started

-- an entry there, behind that list
abbrev pub turn_step : List (EntryWithObjects Object) → EntryWithObjects Object → Step
turn_step before entry = at_roster (note (plain_entries before) entry.plain)

-- from one time to the other whatever was entered has the stamps that are due
abbrev pub IsTurnInTime : ℕ → ℕ → Book → Book → Type 0
IsTurnInTime time later book book' = (added : List (EntryWithObjects Object)) → book'.entries ≡ book.entries ++ added → AreInTime time (map (turn_step book.entries) added) later

abbrev pub object_of : KeptDoor → Object
object_of kept = (arc_value kept.port, arc_value kept.desk)

-- a team was started: the numbers of its loopers follow those of all that were started before
pub record HasStarted (apps : List AppText) (shared : Shared) (word : AppWord) (book book' : Book) (t : StartedTeam) : Type 0 where
  pub description : ℕ
  pub plans : List PlanParts
  pub described : IsOneOf apps description plans
  pub some : 1 ≤ length plans
  pub few : length plans ≤ 8
  pub kept : List KeptDoor
  pub new : IsNewTeam plans t.team.number t.team.first shared t.new kept
  pub count : t.team.loopers ≡ length plans
  pub all : length plans ≡ length t.new.others.items + 1
  pub first : t.team.first ≡ length (state book).loopers
  pub within : t.team.first + t.team.loopers ≤ looper_limit
  pub launched : (desk : DeskState) → Any (StartsAt (facts_in book.heads t.team t.team.first desk) t.team.time) book'.entries
  pub starts : launch_of book.heads (state book) word ≡ outcome.Started description t.team.number t.team.first
  pub entered : HasEntered (Some (event.Launch word (outcome.Started description t.team.number t.team.first))) t.team.loopers book book'
  pub objects : objects_of book'.entries ≡ objects_of book.entries ++ map (λ (k : KeptDoor). door_object (arc_value k.port) (arc_value k.desk)) kept
  pub before : length (objects_of book.entries) ≡ t.team.first

-- a team was made of the application at that place among the descriptions, in whichever run
pub record IsMade (apps : List AppText) (shared : Shared) (m : Making) (description team first : ℕ) : Type 0 where
  pub plans : List PlanParts
  pub described : IsOneOf apps description plans
  pub new : IsNewTeam plans team first shared m.team m.kept.items
  pub all : length plans ≡ length m.team.others.items + 1
  pub few : length plans ≤ 8

-- the launch of the application at that place was decided on, and the team is the one of that application
pub record IsDecided (book : Book) (word : AppWord) (m : Making) (description team first : ℕ) : Type 0 where
  pub starts : launch_of book.heads (state book) word ≡ outcome.Started description team first
  pub many : loopers_at book.heads description ≡ length m.kept.items
  pub apps : List AppText
  pub shared : Shared
  pub made : IsMade apps shared m description team first

-- the team was launched with that number, and its first looper has that one
abbrev pub IsTeamOf : NewTeam → ℕ → ℕ → Launch → Type 0
IsTeamOf new team first (launch.Started t) = (t.new ≡ new) × (t.team.number ≡ team) × (t.team.first ≡ first)
IsTeamOf new team first launch.NoMemory = Unit {0}
IsTeamOf new team first _ = ⊥

-- the application is described at that place, and the ports of the team have what its start enters there
pub record IsGreeted (apps : List AppText) (arguments : Option MessageData) (place : ℕ) (t : NewTeam) : Type 0 where
  pub app : AppText
  pub described : slice_get apps place ≡ Some app
  pub ports : EachMains (port_events (capacities_in app.loopers) (written_from 0 (told_first arguments))) (team_fronts t)

-- what a launch comes to tells of a team that starts what stands in its ports, and of one that runs which looper is its first
abbrev pub TellsTeam : List AppText → Option MessageData → AppWord → Book → Launch → Type 0
TellsTeam apps arguments word book (launch.Started t) = (place : ℕ) × (launch_of book.heads (state book) word ≡ outcome.Started place t.team.number t.team.first) × IsGreeted apps arguments place t.new
TellsTeam apps arguments word book (launch.Running team first) = (running : Running) × (find (runs_team team) (state book).running ≡ Some running) × (running.first ≡ first)
TellsTeam apps arguments word book launch.NotFound = Unit {0}
TellsTeam apps arguments word book launch.Limit = Unit {0}
TellsTeam apps arguments word book launch.NoMemory = Unit {0}

-- the first looper of a team that runs was started
abbrev pub IsRunningTeam : Book → ℕ → Launch → Type 0
IsRunningTeam book team (launch.Running number first) =
    (number ≡ team) × (first < length (state book).loopers) × (running : Running) × (find (runs_team team) (state book).running ≡ Some running) × (running.first ≡ first)
IsRunningTeam book team _ = ⊥

abbrev pub ComesTo : List AppText → Shared → AppWord → Book → Book → Launch → Type 0
ComesTo apps shared word book book' (launch.Started t) = HasStarted apps shared word book book' t
ComesTo apps shared word book book' (launch.Running team first) = HasEntered (Some (event.Launch word (outcome.AlreadyRunning team))) 0 book book' × (first < length (state book).loopers)
ComesTo apps shared word book book' launch.NotFound = HasEntered (Some (event.Launch word outcome.NotFound)) 0 book book'
ComesTo apps shared word book book' launch.Limit = HasEntered (Some (event.Launch word outcome.Limit)) 0 book book'
ComesTo apps shared word book book' launch.NoMemory = HasEntered None 0 book book'

-- the ports of a team that starts are made before its launch is entered
abbrev pub LaunchInTime : ℕ → ℕ → Book → Book → Launch → Type 0
LaunchInTime time later book book' (launch.Started t) = (between : ℕ) × ArePortsInTime time (team_fronts t.new) between × IsTurnInTime between later book book'
LaunchInTime time later book book' (launch.Running team first) = IsTurnInTime time later book book'
LaunchInTime time later book book' launch.NotFound = IsTurnInTime time later book book'
LaunchInTime time later book book' launch.Limit = IsTurnInTime time later book book'
LaunchInTime time later book book' launch.NoMemory = IsTurnInTime time later book book'
