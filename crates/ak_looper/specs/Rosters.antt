-- What a thread does at the roster.
use Rattle.std.specs.Prelude.{◌≡◌, ℕ, List, [], ◌++◌, All, Some, slice_get}
use Rattle.ak_turn.specs.declared.clock.Clock.{Clock}
use Rattle.ak_turn.specs.Called as at_lock
use Rattle.ak_turn.specs.Called.{KeepsSeat}
use Rattle.ak_turn.specs.Entries.{StartsWith, made_by}
use Rattle.ak_turn.specs.Noted.{noted}
use Rattle.ak_turn.specs.Seats.{LockId, SeatData}
use Rattle.ak_roster.specs.declared.head.AppHead.{AppHead}
use Rattle.ak_roster.specs.declared.entry.EntryWithObjects.{EntryWithObjects}
use Rattle.ak_roster.specs.declared.entry.RosterEntry.{RosterEntry}
use Rattle.ak_roster.specs.declared.entry.RosterEvent.{RosterEvent}
use Rattle.ak_roster.specs.Machine as machine
use Rattle.ak_roster.specs.Roster as roster
use Rattle.ak_roster.specs.Roster.{plain_entries, objects_of, IsStranger}
use Rattle.ak_diary.specs.Step.{Step, at_roster, at_book, at_port, at_desk, saw_roster, saw_book, saw_port, lacked, roster_entries, roster_sights, AreStamped, time_of}

-- what a looper's door leads to: the lock of its port with that of its desk
abbrev pub Object : Type 0
Object = LockId × LockId

-- a thread's seat at the roster
abbrev pub RosterSeat : Type 0
RosterSeat = SeatData (List AppHead) (EntryWithObjects Object)

abbrev pub by_number : EntryWithObjects Object → ℕ
by_number entry = entry.plain.by.0

abbrev pub maker_of : RosterEntry → ℕ
maker_of entry = entry.by.0

-- the entries as the journal shows them
abbrev pub plain_of : RosterSeat → List RosterEntry
plain_of seat = plain_entries seat.front

-- ---- in the words for every object
abbrev pub HasEntered : Clock → Clock → RosterEvent → RosterSeat → RosterSeat → Type 0
HasEntered clock clock' e seat seat' = at_lock.HasEntered by_number roster.stamp_number (roster.entry_with []) clock clock' e seat seat'

abbrev pub HasLooked : Clock → Clock → RosterSeat → RosterSeat → Type 0
HasLooked clock clock' seat seat' = at_lock.HasLooked by_number clock clock' seat seat'

-- ---- as steps
abbrev pub IsAtRoster : Step → Type 0
IsAtRoster (at_roster n) = Unit {0}
IsAtRoster (saw_roster seen) = Unit {0}
IsAtRoster lacked = Unit {0}
IsAtRoster (at_book n) = ⊥
IsAtRoster (at_port number n) = ⊥
IsAtRoster (at_desk number n) = ⊥
IsAtRoster (saw_book seen) = ⊥
IsAtRoster (saw_port number seen) = ⊥

-- by these steps the seat at the roster went on, and so did the clock
pub record RosterGoes (steps : List Step) (clock clock' : Clock) (seat seat' : RosterSeat) : Type 0 where
  pub there : All IsAtRoster steps
  pub thread : clock'.thread ≡ clock.thread
  pub stamped : AreStamped clock.time steps
  pub time : time_of clock.time steps ≡ clock'.time
  pub keeps : KeepsSeat seat seat'
  pub on : StartsWith seat'.front seat.front
  pub noted_is : noted maker_of seat'.thread (plain_of seat') ≡ noted maker_of seat.thread (plain_of seat) ++ roster_entries steps
  pub seen : All (StartsWith (plain_of seat')) (roster_sights steps)

pub record RosterDoes (P : List Step → Type 0) (clock clock' : Clock) (seat seat' : RosterSeat) : Type 0 where
  pub steps : List Step
  pub does : P steps
  pub goes : RosterGoes steps clock clock' seat seat'

-- ---- who may get a door
-- however the list goes on by entries of others, the thread has no part of what that looper's door leads to
abbrev pub MayGetDoor : ℕ → RosterSeat → Type 0
MayGetDoor looper seat =
    (heads : List AppHead) (front : List (EntryWithObjects Object)) → seat.opening ≡ Some heads → StartsWith front seat.front
    → made_by by_number seat.thread front ≡ made_by by_number seat.thread seat.front → machine.IsHistory heads (plain_entries front)
    → IsStranger seat.thread looper (slice_get (machine.state_of heads (plain_entries front)).loopers looper)

-- the roster pairs the looper with that object
abbrev pub LeadsTo : RosterSeat → ℕ → LockId → LockId → Type 0
LeadsTo seat looper port desk = slice_get (objects_of seat.front) looper ≡ Some (Some (port, desk))
