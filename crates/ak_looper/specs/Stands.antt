-- How a looper's thread stands, once it made these steps.
use Rattle.std.specs.Prelude.{◌≡◌, ◌≢◌, ◌≤◌, ℕ, ◌+◌, ◌-◌, true, List, [], ◌∷◌, ◌++◌, map, All, AllPairs, Any, Contains, Some, if◌then◌else◌}
use Rattle.std.specs.List.{range_with_len}
use Rattle.ak_base.specs.Limits.{looper_limit}
use Rattle.ak_base.specs.declared.app_word.AppWord.{AppWord}
use Rattle.ak_turn.specs.Entries.{StartsWith}
use Rattle.ak_turn.specs.Noted.{noted}
use Rattle.ak_roster.specs.declared.entry.EntryWithObjects.{EntryWithObjects}
use Rattle.ak_roster.specs.declared.entry.RosterEvent.TheVariants as roster_event
use Rattle.ak_roster.specs.declared.entry.LaunchOutcome.TheVariants as launch
use Rattle.ak_roster.specs.Machine.{loopers_at}
use Rattle.ak_port.specs.PortCalls as ports
use Rattle.ak_port.specs.ReplySeats as books
use Rattle.ak_desk.specs.Shared as desks
use Rattle.ak_looper.specs.declared.door.Door.{Door}
use Rattle.ak_looper.specs.declared.reach.Reach.{Reach}
use Rattle.ak_looper.specs.Rosters.{LeadsTo, Object, RosterSeat, maker_of, plain_of}
use Rattle.ak_diary.specs.Looper.{LooperFacts, doors_got, is_of_team, is_own}
use Rattle.ak_diary.specs.Step.{Step, at_port, saw_port, AreStamped, book_entries, book_sights, desk_entries, port_entries, port_sights, roster_entries, roster_sights, time_of}

-- the loopers, besides itself, whose doors it has from its beginning: those of its team, where it is the application's own
abbrev pub doors_kept : LooperFacts → List ℕ
doors_kept l = if is_own l then range_with_len (l.first + 1) (l.loopers - 1) else []

-- ---- at each object: the thread's entries are those of the steps, and what it saw without an entry is a beginning of what it knows
pub record BookStands (steps : List Step) (seat : books.ReplySeat) : Type 0 where
  pub noted_is : noted books.maker_of seat.thread seat.front ≡ book_entries steps
  pub seen : All (StartsWith seat.front) (book_sights steps)

pub record RosterStands (steps : List Step) (seat : RosterSeat) : Type 0 where
  pub noted_is : noted maker_of seat.thread (plain_of seat) ≡ roster_entries steps
  pub seen : All (StartsWith (plain_of seat)) (roster_sights steps)

pub record PortStands (steps : List Step) (looper : ℕ) (seat : ports.PortSeat) : Type 0 where
  pub noted_is : noted ports.by_number seat.thread seat.front ≡ port_entries looper steps
  pub seen : All (StartsWith seat.front) (port_sights looper steps)

pub record DeskStands (l : LooperFacts) (steps : List Step) (seat : desks.DeskSeat) : Type 0 where
  pub opening : seat.opening ≡ Some l.desk
  pub noted_is : noted desks.by_number seat.thread seat.front ≡ desk_entries l.number steps

-- ---- through each door
pub record DoorStands (steps : List Step) (roster : RosterSeat) (door : ℕ × Door) : Type 0 where
  pub port : PortStands steps door.0 door.1.port_seat
  pub desk : noted desks.by_number door.1.desk_seat.thread door.1.desk_seat.front ≡ []
  pub leads : LeadsTo roster door.0 door.1.port_seat.lock door.1.desk_seat.lock

-- ---- the launch that started its team is known
abbrev pub StartsTeam : LooperFacts → EntryWithObjects Object → Type 0
StartsTeam l entry =
    (word : AppWord) × (place : ℕ) × (entry.plain.event ≡ roster_event.Launch word (launch.Started place l.team l.first)) × (loopers_at l.heads place ≡ l.loopers)

-- a step at a port is at one of those
abbrev pub IsAtOneOf : List ℕ → Step → Type 0
IsAtOneOf loopers (at_port looper n) = Contains loopers looper
IsAtOneOf loopers (saw_port looper seen) = Contains loopers looper
IsAtOneOf loopers _ = Unit {0}

abbrev pub numbers_of : Reach → List ℕ
numbers_of r = map (λ (door : ℕ × Door). door.0) r.doors.items

-- ---- all of it but its own desk
pub record Stands (l : LooperFacts) (start : ℕ) (steps : List Step) (r : Reach) : Type 0 where
  pub number : r.number ≡ l.number
  pub team : r.team ≡ l.team
  pub first : r.first ≡ l.first
  pub loopers : r.loopers ≡ l.loopers
  pub heads : r.roster_seat.opening ≡ Some l.heads
  pub launched : Any (StartsTeam l) r.roster_seat.front
  pub of_team : is_of_team l l.number ≡ true
  pub within : l.first + l.loopers ≤ looper_limit
  pub stamped : AreStamped start steps
  pub time : time_of start steps ≡ r.hands.clock.time
  pub book : BookStands steps r.hands.book_seat
  pub roster : RosterStands steps r.roster_seat
  pub port : PortStands steps l.number r.port_seat
  pub doors : All (DoorStands steps r.roster_seat) r.doors.items
  pub ways : numbers_of r ≡ doors_kept l ++ doors_got steps
  pub apart : AllPairs (λ a b. a ≢ b) (l.number ∷ numbers_of r)
  pub at_ways : All (IsAtOneOf (l.number ∷ numbers_of r)) steps

-- for some looper, and some steps from some time on
pub record IsStanding (r : Reach) : Type 0 where
  pub facts : LooperFacts
  pub start : ℕ
  pub steps : List Step
  pub stands : Stands facts start steps r

-- it stands so, and then by steps of which P holds, so
pub record GoesOn (l : LooperFacts) (start : ℕ) (so_far : List Step) (P : List Step → Type 0) (r : Reach) : Type 0 where
  pub steps : List Step
  pub does : P steps
  pub stands : Stands l start (so_far ++ steps) r
