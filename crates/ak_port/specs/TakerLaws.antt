-- What holds of every taker.
use Rattle.std.specs.Prelude.{◌≡◌, ℕ, ◌≤◌, Bool, true, false, List, [], ◌∷◌, ◌++◌, length, Option, Some, None}
use Rattle.ak_base.specs.declared.thread.ThreadId.{ThreadId}
use Rattle.ak_turn.specs.declared.clock.Clock.{Clock}
use Rattle.ak_turn.specs.Entries.{AreByOthers}
use Rattle.ak_turn.specs.Noted.{Noted, noted}
use Rattle.ak_turn.specs.Seats.{IsGiven, new_seat, titled_seat}
use Rattle.ak_flatten.specs.declared.item.Taken.{Taken}
use Rattle.ak_port.specs.declared.port_entry.PortEntry.{PortEntry}
use Rattle.ak_port.specs.declared.port_entry.PortEvent.{PortEvent}
use Rattle.ak_port.specs.declared.port_entry.PortEvent.TheVariants as event
use Rattle.ak_port.specs.declared.port_entry.TakeAnswer.{TakeAnswer}
use Rattle.ak_port.specs.PortCalls.{PortSeat, CanTake, HasAnswered, HasAnsweredAtTurn, HasEntered, IsAtPort, KeepsTaken, by_number, take_count, take_event}
use Rattle.ak_port.specs.PortMachine.{IsPort, state_of, handed_from, handed_out, last_taken, pending_items, taken_items, written_in}

-- a take adds what it hands out to what its seat knew as taken
abbrev pub TakesGoOn : Type 0
TakesGoOn = (thread : ThreadId) (clock clock' : Clock) (answer : TakeAnswer) (seat seat' : PortSeat) → HasEntered clock clock' (take_event answer) seat seat' → seat.opening ≡ Some thread → seat.thread ≡ thread.0 → IsAtPort seat'
    → taken_items (state_of seat'.front) ≡ taken_items (state_of seat.front) ++ last_taken (take_count answer) (state_of seat'.front)

-- other threads take nothing
abbrev pub OthersTakeNothing : Type 0
OthersTakeNothing = (taker : ℕ) (entries between : List PortEntry) → AreByOthers by_number taker between → IsPort taker (entries ++ between) → taken_items (state_of (entries ++ between)) ≡ taken_items (state_of entries)

-- what was written is what the taker knows as taken, and then what is pending
abbrev pub TakenThenPending : Type 0
TakenThenPending = (taker : ℕ) (entries between : List PortEntry) → AreByOthers by_number taker between → IsPort taker (entries ++ between) → written_in (entries ++ between) ≡ taken_items (state_of entries) ++ pending_items (state_of (entries ++ between))

-- an event by which items are taken
abbrev pub takes_items : PortEvent → Bool
takes_items (event.Took k) = true
takes_items (event.Rest k) = true
takes_items _ = false

-- a call made no such entry
abbrev pub IsNoTake : Option PortEvent → Type 0
IsNoTake None = Unit {0}
IsNoTake (Some e) = takes_items e ≡ false

-- such a call of the taker's own leaves what its seat knew as taken
abbrev pub OwnCallsTakeNothing : Type 0
OwnCallsTakeNothing = (e : Option PortEvent) (clock clock' : Clock) (seat seat' : PortSeat) → HasAnswered e clock clock' seat seat' → IsNoTake e → IsAtPort seat' → KeepsTaken seat seat'

-- and so it is where the call was made in a turn that the seat had
abbrev pub OwnTurnsTakeNothing : Type 0
OwnTurnsTakeNothing = (e : Option PortEvent) (clock clock' : Clock) (seat seat' : PortSeat) → HasAnsweredAtTurn e clock clock' seat seat' → IsNoTake e → IsAtPort seat' → (before : PortSeat) → IsGiven by_number before seat → KeepsTaken before seat'

-- ---- what the taker's own entries tell
-- what one entry hands out, by what stood before it
abbrev pub handed_at : Noted PortEntry → List Taken
handed_at n = handed_out (state_of n.before) n.entry.event

-- what those hand out, in order
abbrev pub handed_by : List (Noted PortEntry) → List Taken
handed_by [] = []
handed_by (n ∷ ns) = handed_at n ++ handed_by ns

-- the taker's own entries, as it noted them, tell all that was taken
abbrev pub TakesAreTold : Type 0
TakesAreTold = (taker : ℕ) (entries : List PortEntry) → IsPort taker entries → handed_by (noted by_number taker entries) ≡ taken_items (state_of entries)

-- and that is as much as the port counts
abbrev pub TakenAreCounted : Type 0
TakenAreCounted = (taker : ℕ) (entries : List PortEntry) → IsPort taker entries → length (taken_items (state_of entries)) ≡ (state_of entries).taken

-- a new seat for the port's taker can take
abbrev pub NewSeatsTake : Type 0
NewSeatsTake = (thread : ThreadId) (room : ℕ) (names : Option (List ℕ)) (seat seat' : PortSeat) → seat.opening ≡ Some thread → (state_of seat.front).made ≡ true → (state_of seat.front).capacity ≤ room → seat' ≡ new_seat thread.0 names seat
    → CanTake thread room seat'

-- a taker's seat still can take that another was split from
abbrev pub SplitSeatsTake : Type 0
SplitSeatsTake = (thread : ThreadId) (room : ℕ) (names : Option (List ℕ)) (seat seat' : PortSeat) → CanTake thread room seat → seat' ≡ titled_seat names seat → CanTake thread room seat'

-- of a list and what came after it: nothing more was written, handed out or pending; what was taken stayed as it was, and is all that was ever written
pub record HasEnded (entries later : List PortEntry) : Type 0 where
  pub written : written_in later ≡ []
  pub handed : handed_from (state_of entries) later ≡ []
  pub pending : pending_items (state_of (entries ++ later)) ≡ []
  pub taken : taken_items (state_of (entries ++ later)) ≡ taken_items (state_of entries)
  pub all : written_in (entries ++ later) ≡ taken_items (state_of entries)

-- so it is after the rest was taken
abbrev pub NothingAfterRest : Type 0
NothingAfterRest = (taker : ℕ) (entries later : List PortEntry) → (state_of entries).rested ≡ true → IsPort taker (entries ++ later) → HasEnded entries later
