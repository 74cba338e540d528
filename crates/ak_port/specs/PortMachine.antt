-- The machine of a port: what its entries mean, which of them may stand where, and what a list of them says of the port.
use Rattle.std.specs.Prelude.{◌≡◌, ℕ, ◌+◌, ◌-◌, ◌<◌, ◌≤◌, ◌==◌, Bool, true, false, List, [], ◌∷◌, ◌++◌, length, take, drop, Option, Some, None, if◌then◌else◌}
use Rattle.ak_flatten.specs.Item.{ItemData}
use Rattle.ak_flatten.specs.declared.item.Taken.{Taken}
use Rattle.ak_turn.specs.Stamps.{Rise}
use Rattle.ak_port.specs.declared.port_entry.PortEntry.{PortEntry}
use Rattle.ak_port.specs.declared.port_entry.PortEvent.{PortEvent}
use Rattle.ak_port.specs.declared.port_entry.PortEvent.TheVariants as event
use Rattle.ak_port.specs.declared.port_entry.Refusal.{Refusal}
use Rattle.ak_port.specs.declared.port_entry.Refusal.TheVariants as refusal

-- The state of a port: whether it was made, how many items it holds at a time and accepts in all; the items that were written, in order,
-- and how many of them were taken; whether it is shut, and whether its taker has taken the rest
pub record PortState : Type 0 where
  pub made : Bool
  pub capacity : ℕ
  pub life : ℕ
  pub written : List ItemData
  pub taken : ℕ
  pub shut : Bool
  pub rested : Bool

-- before its first entry
abbrev pub unmade : PortState
unmade = record { made = false; capacity = 0; life = 0; written = []; taken = 0; shut = false; rested = false }

abbrev pub pending_count : PortState → ℕ
pending_count s = length s.written - s.taken

-- ---- the table: where an event is legal, with the port's taker and the thread that makes the entry, and the state after it
abbrev pub IsAllowed : ℕ → ℕ → PortState → PortEvent → Type 0
IsAllowed taker by s (event.Made capacity life) = Unit {0}
IsAllowed taker by s (event.Written p item) = (s.shut ≡ false) × (length s.written < s.life) × (pending_count s < s.capacity) × (p ≡ length s.written)
IsAllowed taker by s event.Full = (s.shut ≡ false) × (length s.written < s.life) × (pending_count s ≡ s.capacity)
IsAllowed taker by s event.Spent = (s.shut ≡ false) × (length s.written ≡ s.life)
IsAllowed taker by s event.Refused = s.shut ≡ true
IsAllowed taker by s (event.Took k) = (by ≡ taker) × (s.shut ≡ false) × (1 ≤ k) × (k ≤ pending_count s)
IsAllowed taker by s (event.Rest k) = (by ≡ taker) × (s.shut ≡ true) × (s.rested ≡ false) × (k ≡ pending_count s)
IsAllowed taker by s event.Shut = s.shut ≡ false

abbrev pub state_after : PortState → PortEvent → PortState
state_after s (event.Made capacity life) = record s { made = true; capacity = capacity; life = life }
state_after s (event.Written p item) = record s { written = s.written ++ item ∷ [] }
state_after s event.Full = s
state_after s event.Spent = s
state_after s event.Refused = s
state_after s (event.Took k) = record s { taken = s.taken + k }
state_after s (event.Rest k) = record s { taken = length s.written; rested = true }
state_after s event.Shut = record s { shut = true }

-- the making is the first event and no other
abbrev pub follows_making : PortEvent → Bool
follows_making (event.Made capacity life) = false
follows_making (event.Written p item) = true
follows_making event.Full = true
follows_making event.Spent = true
follows_making event.Refused = true
follows_making (event.Took k) = true
follows_making (event.Rest k) = true
follows_making event.Shut = true

-- one entry in a state
pub record PortStep (taker : ℕ) (s : PortState) (entry : PortEntry) : Type 0 where
  pub after_making : s.made ≡ follows_making entry.event
  pub allowed : IsAllowed taker entry.by.0 s entry.event

-- ---- a write: why it is refused in a state, and what comes of it
abbrev pub refusal_of : PortState → Option Refusal
refusal_of s = if s.shut then Some refusal.Closed else (if length s.written == s.life then Some refusal.Spent else (if pending_count s == s.capacity then Some refusal.Full else None))

abbrev pub refused_event : Refusal → PortEvent
refused_event refusal.Closed = event.Refused
refused_event refusal.Spent = event.Spent
refused_event refusal.Full = event.Full

abbrev pub event_unless : Option Refusal → PortEvent → PortEvent
event_unless None e = e
event_unless (Some why) e = refused_event why

abbrev pub write_event : PortState → ItemData → PortEvent
write_event s item = event_unless (refusal_of s) (event.Written (length s.written) item)

-- ---- a list of entries
abbrev pub replayed : PortState → List PortEntry → PortState
replayed s [] = s
replayed s (entry ∷ entries) = replayed (state_after s entry.event) entries

abbrev pub AreSteps : ℕ → PortState → List PortEntry → Type 0
AreSteps taker s [] = Unit {0}
AreSteps taker s (entry ∷ entries) = PortStep taker s entry × AreSteps taker (state_after s entry.event) entries

-- the state that a list of entries tells
abbrev pub state_of : List PortEntry → PortState
state_of entries = replayed unmade entries

-- a write to it has to wait: it is full, and nothing else refuses
abbrev pub LacksRoom : List PortEntry → Type 0
LacksRoom entries = refusal_of (state_of entries) ≡ Some refusal.Full

-- a take from it has to wait: nothing is pending, and it may still be written to
abbrev pub LacksItems : List PortEntry → Type 0
LacksItems entries = ((state_of entries).shut ≡ false) × (pending_count (state_of entries) ≡ 0)

-- the stamps rise, from past that number on
abbrev pub StampsRise : ℕ → List PortEntry → Type 0
StampsRise last entries = Rise (λ (entry : PortEntry). entry.stamp) last entries

-- the history of a port with that taker
pub record IsPort (taker : ℕ) (entries : List PortEntry) : Type 0 where
  pub steps : AreSteps taker unmade entries
  pub stamps : StampsRise 0 entries
  pub made : (state_of entries).made ≡ true

-- ---- items with their positions
abbrev pub numbered : ℕ → List ItemData → List Taken
numbered n [] = []
numbered n (item ∷ items) = record { position = n; item = item } ∷ numbered (n + 1) items

-- all that was taken so far, oldest first, and what is pending
abbrev pub taken_items : PortState → List Taken
taken_items s = numbered 0 (take s.taken s.written)

abbrev pub pending_items : PortState → List Taken
pending_items s = numbered s.taken (drop s.taken s.written)

-- the last k of all that was taken
abbrev pub last_taken : ℕ → PortState → List Taken
last_taken k s = numbered (s.taken - k) (drop (s.taken - k) (take s.taken s.written))

-- what the entries themselves say was written, with the positions
abbrev pub written_item : PortEvent → List Taken
written_item (event.Written p item) = record { position = p; item = item } ∷ []
written_item _ = []

abbrev pub written_in : List PortEntry → List Taken
written_in [] = []
written_in (entry ∷ entries) = written_item entry.event ++ written_in entries

-- what an entry hands out in a state: so many of the oldest pending items
abbrev pub handed_out : PortState → PortEvent → List Taken
handed_out s (event.Took k) = take k (pending_items s)
handed_out s (event.Rest k) = take k (pending_items s)
handed_out s _ = []

abbrev pub handed_from : PortState → List PortEntry → List Taken
handed_from s [] = []
handed_from s (entry ∷ entries) = handed_out s entry.event ++ handed_from (state_after s entry.event) entries

-- all that was handed out
abbrev pub handed_in : List PortEntry → List Taken
handed_in entries = handed_from unmade entries

-- the rest was taken: the port is shut, what was taken is all that was ever written, and nothing is pending
pub record IsRested (entries : List PortEntry) : Type 0 where
  pub shut : (state_of entries).shut ≡ true
  pub rested : (state_of entries).rested ≡ true
  pub all : taken_items (state_of entries) ≡ written_in entries
  pub nothing : pending_items (state_of entries) ≡ []
