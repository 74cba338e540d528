-- What the calls of a port say.
use Rattle.std.specs.Prelude.{◌≡◌, ℕ, ◌<◌, ◌≤◌, Bool, true, false, List, [], ◌∷◌, ◌++◌, length, All, Option, Some, None, IfSome, IsSomeAnd, slice_get}
use Rattle.ak_base.specs.declared.thread.ThreadId.{ThreadId}
use Rattle.ak_turn.specs.declared.clock.Clock.{Clock}
use Rattle.ak_turn.specs.Called as at_lock
use Rattle.ak_turn.specs.Seats.{SeatData}
use Rattle.ak_flatten.specs.Item.{ItemData}
use Rattle.ak_port.specs.declared.port_entry.PortEntry.{PortEntry}
use Rattle.ak_port.specs.declared.port_entry.PortEvent.{PortEvent}
use Rattle.ak_port.specs.declared.port_entry.PortEvent.TheVariants as event
use Rattle.ak_port.specs.declared.port_entry.WriteAnswer.{WriteAnswer}
use Rattle.ak_port.specs.declared.port_entry.WriteAnswer.TheVariants as written
use Rattle.ak_port.specs.declared.port_entry.TakeAnswer.{TakeAnswer}
use Rattle.ak_port.specs.declared.port_entry.TakeAnswer.TheVariants as taken
use Rattle.ak_port.specs.declared.port_entry.CloseAnswer.{CloseAnswer}
use Rattle.ak_port.specs.declared.port_entry.CloseAnswer.TheVariants as closed
use Rattle.ak_port.specs.declared.port_entry.Refusal.{Refusal}
use Rattle.ak_port.specs.declared.port_entry.Refusal.TheVariants as refusal
use Rattle.ak_port.specs.PortMachine.{IsPort, state_of, taken_items}

-- A port: its taker, and its list
pub record PortData : Type 0 where
  pub taker : ThreadId
  pub entries : List PortEntry

-- a thread's seat at a port
abbrev pub PortSeat : Type 0
PortSeat = SeatData ThreadId PortEntry

abbrev pub by_number : PortEntry → ℕ
by_number entry = entry.by.0

abbrev pub stamp_number : PortEntry → ℕ
stamp_number entry = entry.stamp

-- ---- one entry, in the words for every object
-- the entry with that stamp, thread and event
abbrev pub entry_of : ℕ → ThreadId → PortEvent → PortEntry
entry_of stamp by event = record { stamp = stamp; by = by; event = event }

-- the new entry of a list, by the thread of that clock
abbrev pub entry_now : Clock → List PortEntry → PortEvent → PortEntry
entry_now clock entries event = at_lock.entry_now stamp_number entry_of clock entries event

-- the clock after it
abbrev pub clock_after : Clock → List PortEntry → Clock
clock_after clock entries = at_lock.clock_after stamp_number clock entries

-- the seat's thread made one entry with that event
abbrev pub HasEntered : Clock → Clock → PortEvent → PortSeat → PortSeat → Type 0
HasEntered clock clock' event seat seat' = at_lock.HasEntered by_number stamp_number entry_of clock clock' event seat seat'

-- it made none
abbrev pub HasLooked : Clock → Clock → PortSeat → PortSeat → Type 0
HasLooked clock clock' seat seat' = at_lock.HasLooked by_number clock clock' seat seat'

abbrev pub HasAnswered : Option PortEvent → Clock → Clock → PortSeat → PortSeat → Type 0
HasAnswered e clock clock' seat seat' = at_lock.HasAnswered by_number stamp_number entry_of e clock clock' seat seat'

-- in the turn that the seat had its thread made one entry with that event, or none; the turn was passed on
abbrev pub HasAnsweredAtTurn : Option PortEvent → Clock → Clock → PortSeat → PortSeat → Type 0
HasAnsweredAtTurn e clock clock' seat seat' = at_lock.HasAnsweredAtTurn stamp_number entry_of e clock clock' seat seat'

-- the seat's front is the history of a port with the seat's taker
abbrev pub IsAtPort : PortSeat → Type 0
IsAtPort seat = IsSomeAnd seat.opening (λ (taker : ThreadId). IsPort taker.0 seat.front)

-- ---- a book with the turn
-- that entry more
abbrev pub HasOneMore : PortData → PortEntry → PortData → Type 0
HasOneMore port entry port' = port' ≡ record port { entries = port.entries ++ entry ∷ [] }

-- one entry more, or none
abbrev pub HasAdded : Option PortEvent → Clock → Clock → PortData → PortData → Type 0
HasAdded e clock clock' port port' = at_lock.HasAdded stamp_number entry_of (λ (p : PortData). p.entries) HasOneMore e clock clock' port port'

abbrev pub IsPortBook : PortData → Type 0
IsPortBook port = IsPort port.taker.0 port.entries

-- ---- a new port
abbrev pub making : Clock → ℕ → ℕ → PortEntry
making clock capacity life = entry_now clock [] (event.Made capacity life)

-- ---- answers as events
abbrev pub write_entry : WriteAnswer → ItemData → Option PortEvent
write_entry (written.Wrote p) item = Some (event.Written p item)
write_entry (written.Closed back) item = Some event.Refused
write_entry (written.Spent back) item = Some event.Spent
write_entry (written.Full back) item = Some event.Full
write_entry (written.NoMemory back) item = None

-- a refused item is given back as it was
abbrev pub GivesBack : WriteAnswer → ItemData → Type 0
GivesBack (written.Wrote p) item = Unit {0}
GivesBack (written.Closed back) item = back ≡ item
GivesBack (written.Spent back) item = back ≡ item
GivesBack (written.Full back) item = back ≡ item
GivesBack (written.NoMemory back) item = back ≡ item

-- the answer of a refused write
abbrev pub refused_answer : Refusal → ItemData → WriteAnswer
refused_answer refusal.Closed item = written.Closed item
refused_answer refusal.Spent item = written.Spent item
refused_answer refusal.Full item = written.Full item

-- where a write was refused, why
abbrev pub IfRefused : WriteAnswer → (Refusal → Type 0) → Type 0
IfRefused (written.Wrote p) P = Unit {0}
IfRefused (written.Closed back) P = P refusal.Closed
IfRefused (written.Spent back) P = P refusal.Spent
IfRefused (written.Full back) P = P refusal.Full
IfRefused (written.NoMemory back) P = Unit {0}

abbrev pub IsFull : WriteAnswer → Bool
IsFull (written.Full back) = true
IsFull _ = false

-- what holds where memory ran out
abbrev pub IfNoMemory : WriteAnswer → Type 0 → Type 0
IfNoMemory (written.Wrote p) P = Unit {0}
IfNoMemory (written.Closed back) P = Unit {0}
IfNoMemory (written.Spent back) P = Unit {0}
IfNoMemory (written.Full back) P = Unit {0}
IfNoMemory (written.NoMemory back) P = P

abbrev pub take_event : TakeAnswer → PortEvent
take_event (taken.Took k) = event.Took k
take_event (taken.Rest k) = event.Rest k

abbrev pub take_count : TakeAnswer → ℕ
take_count (taken.Took k) = k
take_count (taken.Rest k) = k

abbrev pub IfTook : TakeAnswer → (ℕ → Type 0) → Type 0
IfTook (taken.Took k) P = P k
IfTook (taken.Rest k) P = Unit {0}

abbrev pub IfRest : TakeAnswer → Type 0 → Type 0
IfRest (taken.Took k) P = Unit {0}
IfRest (taken.Rest k) P = P

abbrev pub close_entry : CloseAnswer → Option PortEvent
close_entry closed.Shut = Some event.Shut
close_entry closed.AlreadyShut = None

-- ---- what a take needs
abbrev pub IsRest : PortEvent → Bool
IsRest (event.Rest k) = true
IsRest _ = false

-- an entry at that place is none
abbrev pub IsNoRest : List PortEntry → ℕ → Type 0
IsNoRest entries place = (place < length entries) × IfSome (slice_get entries place) (λ (entry : PortEntry). IsRest entry.event ≡ false)

-- the taker's seat at a port that was made and holds at most so many items; none of its own entries is a Rest
pub record CanTake (thread : ThreadId) (room : ℕ) (seat : PortSeat) : Type 0 where
  pub taker : seat.opening ≡ Some thread
  pub unrested : All (IsNoRest seat.front) seat.own
  pub made : (state_of seat.front).made ≡ true
  pub capacity : (state_of seat.front).capacity ≤ room

-- ---- what other calls leave of what was taken
-- where it is the seat of the port's taker, what it knew as taken is what it knows as taken
abbrev pub KeepsTaken : PortSeat → PortSeat → Type 0
KeepsTaken seat seat' = (thread : ThreadId) → seat.opening ≡ Some thread → seat.thread ≡ thread.0 → taken_items (state_of seat'.front) ≡ taken_items (state_of seat.front)
