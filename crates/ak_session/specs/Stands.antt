-- How a session's thread stands, once it made these steps.
use Rattle.std.specs.Prelude.{◌≡◌, ◌≢◌, ◌<◌, ◌≤◌, ℕ, ◌==◌, List, [], ◌++◌, map, find, All, AllPairs, Contains, Some, option_map, unwrap_or, slice_get, vec_len}
use Rattle.ak_turn.specs.Called.{KeepsSeat}
use Rattle.ak_turn.specs.Noted.{noted}
use Rattle.ak_roster.specs.declared.head.AppHead.{AppHead}
use Rattle.ak_port.specs.declared.port_entry.PortEntry.{PortEntry}
use Rattle.ak_desk.specs.Entry.{EntryData}
use Rattle.ak_desk.specs.Shared as desks
use Rattle.ak_diary.specs.Looper.{doors_got}
use Rattle.ak_diary.specs.Step.{Step, at_port, at_desk, saw_port, AreStamped, desk_entries, time_of}
use Rattle.ak_looper.specs.declared.door.Door.{Door}
use Rattle.ak_looper.specs.Rosters.{LeadsTo, RosterSeat}
use Rattle.ak_looper.specs.Stands.{BookStands, PortStands, RosterStands}
use Rattle.ak_session.specs.declared.session.Session.{Session}

-- ---- what it has
-- the number of a session's thread
abbrev pub IsSessionThread : ℕ → Type 0
IsSessionThread thread = (1 ≤ thread) × (thread ≤ 9999)

-- the loopers whose doors it has, in order
abbrev pub numbers_of : Session → List ℕ
numbers_of s = map (λ (door : ℕ × Door). door.0) s.doors.items

-- what its seat at that looper's port has seen; nothing where it has no door there
abbrev pub front_at : Session → ℕ → List PortEntry
front_at s looper = unwrap_or (option_map (λ (door : ℕ × Door). door.1.port_seat.front) (find (λ (door : ℕ × Door). door.0 == looper) s.doors.items)) []

-- what its seat at that looper's desk has seen; nothing where it has no door there
abbrev pub desk_front_at : Session → ℕ → List EntryData
desk_front_at s looper = unwrap_or (option_map (λ (door : ℕ × Door). door.1.desk_seat.front) (find (λ (door : ℕ × Door). door.0 == looper) s.doors.items)) []

-- the door at that place is that looper's
abbrev pub IsWay : ℕ → ℕ → Session → Type 0
IsWay looper place s = (place < vec_len s.doors) × (option_map (λ (door : ℕ × Door). door.0) (slice_get s.doors.items place) ≡ Some looper)

-- what no call changes: its locks, its thread and its seats at what all share
pub record KeepsSession (s s' : Session) : Type 0 where
  pub book : s'.hands.book ≡ s.hands.book
  pub roster : s'.roster ≡ s.roster
  pub thread : s'.hands.clock.thread ≡ s.hands.clock.thread
  pub book_seat : KeepsSeat s.hands.book_seat s'.hands.book_seat
  pub roster_seat : KeepsSeat s.roster_seat s'.roster_seat

-- ---- through each door
-- all that it made at the port and at the desk are the steps there, and what it saw of the port is a beginning of what it knows; the door
-- leads to what the roster pairs with the looper
pub record DoorStands (steps : List Step) (roster : RosterSeat) (door : ℕ × Door) : Type 0 where
  pub port : PortStands steps door.0 door.1.port_seat
  pub desk : noted desks.by_number door.1.desk_seat.thread door.1.desk_seat.front ≡ desk_entries door.0 steps
  pub leads : LeadsTo roster door.0 door.1.port_seat.lock door.1.desk_seat.lock

-- a step at a port or at a desk is at that of one of those
abbrev pub IsAtOneOf : List ℕ → Step → Type 0
IsAtOneOf loopers (at_port looper n) = Contains loopers looper
IsAtOneOf loopers (at_desk looper n) = Contains loopers looper
IsAtOneOf loopers (saw_port looper seen) = Contains loopers looper
IsAtOneOf loopers _ = Unit {0}

-- ---- all of it
-- In a run of these applications, from that time on, all that its thread made at the roster, at the reply book and at each port and desk are
-- these steps, in order. Its doors are those that it got by them, each once, and they are at no other port or desk
pub record Stands (heads : List AppHead) (start : ℕ) (steps : List Step) (s : Session) : Type 0 where
  pub session : IsSessionThread s.hands.clock.thread.0
  pub heads_are : s.roster_seat.opening ≡ Some heads
  pub stamped : AreStamped start steps
  pub time : time_of start steps ≡ s.hands.clock.time
  pub book : BookStands steps s.hands.book_seat
  pub roster : RosterStands steps s.roster_seat
  pub doors : All (DoorStands steps s.roster_seat) s.doors.items
  pub ways : numbers_of s ≡ doors_got steps
  pub apart : AllPairs (λ a b. a ≢ b) (numbers_of s)
  pub at_ways : All (IsAtOneOf (numbers_of s)) steps

-- for some applications, and some steps from some time on
pub record IsStanding (s : Session) : Type 0 where
  pub heads : List AppHead
  pub start : ℕ
  pub steps : List Step
  pub stands : Stands heads start steps s

-- it stands so, and then by steps of which P holds, so
pub record GoesOn (heads : List AppHead) (start : ℕ) (so_far : List Step) (P : List Step → Type 0) (s : Session) : Type 0 where
  pub steps : List Step
  pub does : P steps
  pub stands : Stands heads start (so_far ++ steps) s
