-- What holds of all histories of the roster.
use Rattle.std.specs.Prelude.{◌≡◌, ◌≢◌, ◌<◌, ◌≤◌, ◌⊎◌, ◌↔◌, ◌+◌, ℕ, false, IsTrue, List, [], ◌∷◌, ◌++◌, length, All, AllPairs, Any, Contains, IfSome, IsSomeAnd, MatchOption, Some, slice_get}
use Rattle.std.specs.List.{flat_map, list_any}
use Rattle.ak_base.specs.declared.app_word.AppWord.{AppWord}
use Rattle.ak_base.specs.Limits.{looper_limit}
use Rattle.ak_base.specs.Thread.{main_thread, looper_thread, keeper_thread}
use Rattle.ak_roster.specs.declared.head.AppHead.{AppHead}
use Rattle.ak_roster.specs.declared.head.Mode.{Mode}
use Rattle.ak_roster.specs.declared.head.Mode.TheVariants as mode
use Rattle.ak_roster.specs.declared.team.Running.{Running}
use Rattle.ak_roster.specs.declared.entry.RosterEntry.{RosterEntry}
use Rattle.ak_roster.specs.declared.entry.EntryWithObjects.{EntryWithObjects}
use Rattle.ak_roster.specs.declared.entry.RosterEvent.{RosterEvent}
use Rattle.ak_roster.specs.declared.entry.RosterEvent.TheVariants as event
use Rattle.ak_roster.specs.declared.entry.LaunchOutcome.{LaunchOutcome}
use Rattle.ak_roster.specs.declared.entry.LaunchOutcome.TheVariants as launch
use Rattle.ak_roster.specs.declared.entry.FindOutcome.{FindOutcome}
use Rattle.ak_base.specs.AppName.{last_part}
use Rattle.ak_roster.specs.Heads.{team_fits, team_for}
use Rattle.ak_roster.specs.Machine.{IsHistory, LooperData, RosterState, holders, loopers_at, runs_team, state_of}
use Rattle.ak_roster.specs.Roster.{IsStranger, plain_entries}
use Rattle.ak_turn.specs.Entries.{made_by}
use Rattle.ak_roster.specs.Limits.{team_limit}
use Rattle.ak_turn.specs.Seats.{SeatData, KnowsWhole}

-- ---- an answer is a function of what stands before it: where two histories have the same beginning, and then the same question, they have
-- the same answer
abbrev pub OneLaunch : Type 0
OneLaunch =
    (heads : List AppHead) (before rest others : List RosterEntry) (entry other : RosterEntry) (word : AppWord) (o p : LaunchOutcome)
    → IsHistory heads (before ++ entry ∷ rest) → IsHistory heads (before ++ other ∷ others)
    → entry.event ≡ event.Launch word o → other.event ≡ event.Launch word p → o ≡ p

abbrev pub OneLookUp : Type 0
OneLookUp =
    (heads : List AppHead) (before rest others : List RosterEntry) (entry other : RosterEntry) (word : AppWord) (o p : FindOutcome)
    → IsHistory heads (before ++ entry ∷ rest) → IsHistory heads (before ++ other ∷ others)
    → entry.event ≡ event.Find word o → other.event ≡ event.Find word p → o ≡ p

-- ---- the numbers of the teams that a list of entries starts, in order
abbrev pub number_in : LaunchOutcome → List ℕ
number_in (launch.Started place team first) = team ∷ []
number_in (launch.AlreadyRunning team) = []
number_in launch.NotFound = []
number_in launch.Limit = []

abbrev pub number_of : RosterEvent → List ℕ
number_of (event.Launch word result) = number_in result
number_of (event.Find word result) = []
number_of (event.Gone team) = []
number_of (event.Door looper) = []

abbrev pub numbers_of : List RosterEntry → List ℕ
numbers_of entries = flat_map (λ entry. number_of entry.event) entries

-- they rise, so none is given twice
abbrev pub NumbersRise : Type 0
NumbersRise = (heads : List AppHead) (entries : List RosterEntry) → IsHistory heads entries → AllPairs (λ a b. a < b) (numbers_of entries)

abbrev pub Runs : ℕ → RosterState → Type 0
Runs team s = IsTrue (list_any (runs_team team) s.running)

-- and a team that was started before, and runs no more, never runs again
abbrev pub NoTeamReturns : Type 0
NoTeamReturns =
    (heads : List AppHead) (before rest : List RosterEntry) (team : ℕ) → IsHistory heads (before ++ rest)
    → team ≤ (state_of heads before).teams → Runs team (state_of heads (before ++ rest)) → Runs team (state_of heads before)

-- ---- of two running teams the later one has, where its mode is single, another path, and where it is exclusive, another signature
abbrev pub DifferBy : Mode → AppHead → AppHead → Type 0
DifferBy mode.Single earlier later = earlier.path ≢ later.path
DifferBy mode.Multiple earlier later = Unit {0}
DifferBy mode.Exclusive earlier later = earlier.signature ≢ later.signature

abbrev pub AreApart : List AppHead → Running → Running → Type 0
AreApart heads earlier later =
    (a b : AppHead) → slice_get heads earlier.description ≡ Some a → slice_get heads later.description ≡ Some b → DifferBy b.mode a b

abbrev pub ModesHold : Type 0
ModesHold = (heads : List AppHead) (entries : List RosterEntry) → IsHistory heads entries → AllPairs (AreApart heads) (state_of heads entries).running

-- ---- the team that is found runs and fits, and none that fits has a lesser number; where none is found none fits
pub record IsLeast (heads : List AppHead) (word : AppWord) (running : List Running) (team : Running) : Type 0 where
  pub runs : Contains running team
  pub fits : IsTrue (team_fits heads word team)
  pub least : All (λ other. IsTrue (team_fits heads word other) → team.team ≤ other.team) running

abbrev pub LeastIsFound : Type 0
LeastIsFound =
    (heads : List AppHead) (entries : List RosterEntry) (word : AppWord) → IsHistory heads entries
    → MatchOption (team_for heads (state_of heads entries).running word) (All (λ team. team_fits heads word team ≡ false) (state_of heads entries).running)
    (IsLeast heads word (state_of heads entries).running)

-- ---- never more than 16 teams are started, nor more than 32 loopers
pub record IsWithinLimits (s : RosterState) : Type 0 where
  pub teams : s.teams ≤ team_limit
  pub loopers : length s.loopers ≤ looper_limit

abbrev pub LimitsHold : Type 0
LimitsHold = (heads : List AppHead) (entries : List RosterEntry) → IsHistory heads entries → IsWithinLimits (state_of heads entries)

-- ---- no thread gets a looper's door twice
abbrev pub DoorsAreGivenOnce : Type 0
DoorsAreGivenOnce =
    (heads : List AppHead) (entries : List RosterEntry) → IsHistory heads entries
    → All (λ looper. AllPairs (λ a b. a ≢ b) looper.given) (state_of heads entries).loopers

-- ---- the threads that have a part of what a looper's door leads to are main, the looper, the first looper of its team, the keeper of the
-- doors, and just those by which there is an entry of that door
abbrev pub TookDoor : List RosterEntry → ℕ → ℕ → Type 0
TookDoor entries number thread = Any (λ (entry : RosterEntry). (entry.by.0 ≡ thread) × (entry.event ≡ event.Door number)) entries

abbrev pub IsHolder : List RosterEntry → ℕ → LooperData → ℕ → Type 0
IsHolder entries number looper thread =
    (thread ≡ main_thread) ⊎ ((thread ≡ looper_thread number) ⊎ ((thread ≡ looper_thread looper.own) ⊎ ((thread ≡ keeper_thread) ⊎ TookDoor entries number thread)))

abbrev pub HoldersAreTold : Type 0
HoldersAreTold =
    (heads : List AppHead) (entries : List RosterEntry) (number : ℕ) (looper : LooperData) → IsHistory heads entries → slice_get (state_of heads entries).loopers number ≡ Some looper
    → (thread : ℕ) → Contains (holders number looper) thread ↔ IsHolder entries number looper thread

-- so a thread that is none of the four, and whose own entries have none of that door, has no part
pub record IsNoneOfFour (thread number : ℕ) (looper : LooperData) : Type 0 where
  pub not_main : thread ≢ main_thread
  pub not_looper : thread ≢ looper_thread number
  pub not_own : thread ≢ looper_thread looper.own
  pub not_keeper : thread ≢ keeper_thread

abbrev pub StrangersAreTold : Type 0
StrangersAreTold =
    (heads : List AppHead) (entries : List RosterEntry) (thread number : ℕ) → IsHistory heads entries → IfSome (slice_get (state_of heads entries).loopers number) (IsNoneOfFour thread number)
    → All (λ entry. entry.event ≢ event.Door number) (made_by (λ entry. entry.by.0) thread entries) → IsStranger thread number (slice_get (state_of heads entries).loopers number)

-- ---- seats at the roster's lock see entries with objects: of each thread just its own are what the journal shows as its own
abbrev pub EntriesTellPlain : Type 0 → Type 0
EntriesTellPlain O = (thread : ℕ) (entries : List (EntryWithObjects O)) → made_by (λ (entry : RosterEntry). entry.by.0) thread (plain_entries entries) ≡ plain_entries (made_by (λ (entry : EntryWithObjects O). entry.plain.by.0) thread entries)

-- the entry at a place is none of that door
abbrev pub IsNotOfDoor : {O : Type 0} → List (EntryWithObjects O) → ℕ → ℕ → Type 0
IsNotOfDoor {O} entries number place = IfSome (slice_get entries place) (λ (entry : EntryWithObjects O). entry.plain.event ≢ event.Door number)

-- so a seat that knows its list, whose thread is none of the four and has the door in none of its own places, is a stranger's
abbrev pub SeatsAreStrangers : Type 0 → Type 0
SeatsAreStrangers O =
    (heads : List AppHead) (seat : SeatData (List AppHead) (EntryWithObjects O)) (number : ℕ) → IsHistory heads (plain_entries seat.front) → KnowsWhole (λ (entry : EntryWithObjects O). entry.plain.by.0) seat
    → IfSome (slice_get (state_of heads (plain_entries seat.front)).loopers number) (IsNoneOfFour seat.thread number) → All (IsNotOfDoor seat.front number) seat.own
    → IsStranger seat.thread number (slice_get (state_of heads (plain_entries seat.front)).loopers number)

-- ---- so many loopers are there from that number on, and of each of them P holds
abbrev pub AreThere : (LooperData → Type 0) → List LooperData → ℕ → ℕ → Type 0
AreThere P loopers first count = (number : ℕ) → first ≤ number → number < first + count → IsSomeAnd (slice_get loopers number) P

-- the loopers of a team that runs have its first one as their team's own
abbrev pub TeamsHaveLoopers : Type 0
TeamsHaveLoopers =
    (heads : List AppHead) (entries : List RosterEntry) → IsHistory heads entries
    → All (λ (team : Running). AreThere (λ looper. looper.own ≡ team.first) (state_of heads entries).loopers team.first team.loopers) (state_of heads entries).running

-- so have those of a launch that started one, also once it is gone, and they are started by its thread
abbrev pub HasStarted : List AppHead → List LooperData → ℕ → LaunchOutcome → Type 0
HasStarted heads loopers by (launch.Started place team first) = AreThere (λ looper. (looper.own ≡ first) × (looper.starter ≡ by)) loopers first (loopers_at heads place)
HasStarted heads loopers by (launch.AlreadyRunning team) = Unit {0}
HasStarted heads loopers by launch.NotFound = Unit {0}
HasStarted heads loopers by launch.Limit = Unit {0}

abbrev pub HasLaunched : List AppHead → List LooperData → ℕ → RosterEvent → Type 0
HasLaunched heads loopers by (event.Launch word result) = HasStarted heads loopers by result
HasLaunched heads loopers by (event.Find word result) = Unit {0}
HasLaunched heads loopers by (event.Gone team) = Unit {0}
HasLaunched heads loopers by (event.Door looper) = Unit {0}

abbrev pub LaunchesHaveLoopers : Type 0
LaunchesHaveLoopers =
    (heads : List AppHead) (entries : List RosterEntry) → IsHistory heads entries
    → All (λ (entry : RosterEntry). HasLaunched heads (state_of heads entries).loopers entry.by.0 entry.event) entries

-- ---- of a launch that started a team: a looper whose team's own one is among the team's is itself among them, and has the first of them
-- as its own
abbrev pub KeepsOwns : List AppHead → List LooperData → LaunchOutcome → Type 0
KeepsOwns heads loopers (launch.Started place team first) =
    (number : ℕ) (looper : LooperData) → slice_get loopers number ≡ Some looper → first ≤ looper.own → looper.own < first + loopers_at heads place
    → (looper.own ≡ first) × (first ≤ number) × (number < first + loopers_at heads place)
KeepsOwns heads loopers (launch.AlreadyRunning team) = Unit {0}
KeepsOwns heads loopers launch.NotFound = Unit {0}
KeepsOwns heads loopers launch.Limit = Unit {0}

abbrev pub KeepsOwnsIn : List AppHead → List LooperData → RosterEvent → Type 0
KeepsOwnsIn heads loopers (event.Launch word result) = KeepsOwns heads loopers result
KeepsOwnsIn heads loopers (event.Find word result) = Unit {0}
KeepsOwnsIn heads loopers (event.Gone team) = Unit {0}
KeepsOwnsIn heads loopers (event.Door looper) = Unit {0}

-- so no looper outside a team has one of the team's as its own
abbrev pub OwnsStayInTeams : Type 0
OwnsStayInTeams =
    (heads : List AppHead) (entries : List RosterEntry) → IsHistory heads entries
    → All (λ (entry : RosterEntry). KeepsOwnsIn heads (state_of heads entries).loopers entry.event) entries

-- ---- the last part of a path has no slash, and is the whole path or stands after a slash
pub record IsLastPart (path part : List ℕ) : Type 0 where
  pub no_slash : ¬ (Contains part 47)
  pub at_end : (path ≡ part) ⊎ ((front : List ℕ) × (path ≡ front ++ 47 ∷ part))

abbrev pub LastPartIsSo : Type 0
LastPartIsSo = (path : List ℕ) → IsLastPart path (last_part path)
