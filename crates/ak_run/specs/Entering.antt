-- What main did in a call that launches, before the loopers of the team start.
use Rattle.std.specs.Prelude.{◌≡◌, ◌≢◌, ◌+◌, ℕ, List, [], ◌∷◌, ◌++◌, length, Option, Some, slice_get}
use Rattle.std.specs.List.{find}
use Rattle.ak_base.specs.declared.app_word.AppWord.{AppWord}
use Rattle.ak_turn.specs.Entries.{StartsWith}
use Rattle.ak_turn.specs.Noted.{Noted}
use Rattle.ak_roster.specs.declared.entry.LaunchOutcome.{LaunchOutcome}
use Rattle.ak_roster.specs.declared.entry.LaunchOutcome.TheVariants as outcome
use Rattle.ak_roster.specs.declared.entry.RosterEntry.{RosterEntry}
use Rattle.ak_roster.specs.declared.entry.RosterEvent.TheVariants as event
use Rattle.ak_message.specs.Message.{MessageData}
use Rattle.ak_roster.specs.Machine.{runs_team, state_of}
use Rattle.ak_roster.specs.declared.team.Running.{Running}
use Rattle.ak_describe.specs.Whole.{heads_of}
use Rattle.ak_describe.specs.declared.described.AppText.{AppText}
use Rattle.ak_port.specs.declared.port_entry.PortEntry.{PortEntry}
use Rattle.ak_diary.specs.Step.{Step, at_roster, book_entries, desk_entries, roster_entries}
use Rattle.ak_looper.specs.Rosters.{plain_of}
use Rattle.ak_run.specs.declared.answers.LaunchAnswer.{LaunchAnswer}
use Rattle.ak_run.specs.declared.answers.LaunchAnswer.TheVariants as answer
use Rattle.ak_team.specs.declared.launching.Launch.{Launch}
use Rattle.ak_team.specs.declared.launching.Launch.TheVariants as launch
use Rattle.ak_run.specs.declared.run.Run.{Run}
use Rattle.ak_run.specs.Doing.{IsQuietAtDesks}
use Rattle.ak_team.specs.Greeting.{EntersEach, SendsEach, arguments_told, capacities_in, start_entries}
use Rattle.ak_run.specs.Recording.{GoesBy, fronts_of, fronts_with}

-- By some steps of which that holds, of which none is at a desk, main's own entries went on, with the new ports of a team that is about to
-- start, and at no desk; the lists of the roster and of each desk go on from what main had seen
pub record DoesWith (P : List Step → Type 0) (new : List (List PortEntry)) (r r' : Run) : Type 0 where
  pub steps : List Step
  pub so : P steps
  pub goes : GoesBy steps (fronts_of r) (fronts_with r' new)
  pub no_edits : (looper : ℕ) → desk_entries looper steps ≡ []
  pub roster_on : StartsWith (plain_of r'.roster_seat) (plain_of r.roster_seat)
  pub desks_on : IsQuietAtDesks r r'

-- none is at the roster or at the reply book
pub record AreAtPorts (steps : List Step) : Type 0 where
  pub no_roster : roster_entries steps ≡ []
  pub no_book : book_entries steps ≡ []

-- one entry at the roster, the last that main has seen there, of that launch
pub record LaunchesLast (word : AppWord) (came : LaunchOutcome) (r' : Run) (steps : List Step) : Type 0 where
  pub noted : Noted RosterEntry
  pub event_is : noted.entry.event ≡ event.Launch word came
  pub last : plain_of r'.roster_seat ≡ noted.before ++ noted.entry ∷ []
  pub is : steps ≡ at_roster noted ∷ []

-- the ports of a team of so many loopers are made, its first looper is greeted, and then its launch is entered
pub record EntersStart (apps : List AppText) (word : AppWord) (arguments : Option MessageData) (team first loopers : ℕ) (r' : Run) (steps : List Step) : Type 0 where
  pub description : ℕ
  pub app : AppText
  pub described : slice_get apps description ≡ Some app
  pub count : length app.loopers ≡ loopers
  pub ports : List Step
  pub enters : EntersEach (start_entries first (capacities_in app.loopers) arguments) ports
  pub entry : List Step
  pub launches : LaunchesLast word (outcome.Started description team first) r' entry
  pub is : steps ≡ ports ++ entry

-- that team runs, and its first looper has that number
pub record EntersRunning (apps : List AppText) (word : AppWord) (team first : ℕ) (r' : Run) (steps : List Step) : Type 0 where
  pub launches : LaunchesLast word (outcome.AlreadyRunning team) r' steps
  pub running : Running
  pub runs : find (runs_team team) (state_of (heads_of apps) launches.noted.before).running ≡ Some running
  pub first_is : running.first ≡ first

-- whatever it comes to; without memory nothing is entered
abbrev pub EntersLaunch : List AppText → AppWord → Option MessageData → Launch → Run → List Step → Type 0
EntersLaunch apps word arguments (launch.Started s) r' steps = EntersStart apps word arguments s.team.number s.team.first s.team.loopers r' steps
EntersLaunch apps word arguments (launch.Running team first) r' steps = EntersRunning apps word team first r' steps
EntersLaunch apps word arguments launch.NotFound r' steps = LaunchesLast word outcome.NotFound r' steps
EntersLaunch apps word arguments launch.Limit r' steps = LaunchesLast word outcome.Limit r' steps
EntersLaunch apps word arguments launch.NoMemory r' steps = steps ≡ []

-- the team runs, by the last of so many entries; or memory ran out for arguments that were to be sent to it
abbrev pub GreetsAgain : ℕ → ℕ → Option MessageData → LaunchAnswer → Type 0
GreetsAgain team seen arguments (answer.Running number place) = (number ≡ team) × (seen ≡ place + 1)
GreetsAgain team seen arguments answer.NoMemory = arguments_told arguments ≢ []
GreetsAgain team seen arguments _ = ⊥

-- what was sent to its first looper then; nothing without memory
abbrev pub GreetsSo : ℕ → Option MessageData → LaunchAnswer → List Step → Type 0
GreetsSo first arguments (answer.Running number place) steps = SendsEach first (arguments_told arguments) steps
GreetsSo first arguments _ steps = steps ≡ []
