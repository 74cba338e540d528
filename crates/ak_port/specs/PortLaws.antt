-- What holds of every port.
use Rattle.std.specs.Prelude.{◌≡◌, ℕ, ◌≤◌, List, [], ◌∷◌, ◌++◌, length}
use Rattle.ak_flatten.specs.Item.{ItemData}
use Rattle.ak_port.specs.declared.port_entry.PortEntry.{PortEntry}
use Rattle.ak_port.specs.declared.port_entry.PortEvent.{PortEvent}
use Rattle.ak_port.specs.declared.port_entry.PortEvent.TheVariants as event
use Rattle.ak_port.specs.PortMachine.{PortState, IsPort, IsAllowed, state_of, pending_count, pending_items, taken_items, written_in, handed_in, write_event}

-- what was written is what was handed out, then what is pending, in order and each once
abbrev pub EachOnce : Type 0
EachOnce = (taker : ℕ) (entries : List PortEntry) → IsPort taker entries → written_in entries ≡ handed_in entries ++ pending_items (state_of entries)

-- what was handed out is the beginning of what was written, as long as was taken
abbrev pub OldestFirst : Type 0
OldestFirst = (taker : ℕ) (entries : List PortEntry) → IsPort taker entries → handed_in entries ≡ taken_items (state_of entries)

-- nothing is written after the port was shut
abbrev pub NothingAfterShut : Type 0
NothingAfterShut = (taker : ℕ) (before : List PortEntry) (entry : PortEntry) (later : List PortEntry) → entry.event ≡ event.Shut → IsPort taker (before ++ entry ∷ later) → written_in later ≡ []

-- a state within its limits
pub record IsWithin (s : PortState) : Type 0 where
  pub taken : s.taken ≤ length s.written
  pub life : length s.written ≤ s.life
  pub capacity : pending_count s ≤ s.capacity

abbrev pub WithinLimits : Type 0
WithinLimits = (taker : ℕ) (entries : List PortEntry) → IsPort taker entries → IsWithin (state_of entries)

-- an event that comes of a write of that item
abbrev pub IsOfWrite : ItemData → PortEvent → Type 0
IsOfWrite item (event.Written p i) = i ≡ item
IsOfWrite item event.Full = Unit {0}
IsOfWrite item event.Spent = Unit {0}
IsOfWrite item event.Refused = Unit {0}
IsOfWrite item _ = ⊥

-- the table allows one, which the tests in their order find
abbrev pub OneAnswer : Type 0
OneAnswer = (taker by : ℕ) (s : PortState) (item : ItemData) (e : PortEvent) → IsOfWrite item e → IsAllowed taker by s e → e ≡ write_event s item

abbrev pub SomeAnswer : Type 0
SomeAnswer = (taker by : ℕ) (s : PortState) (item : ItemData) → IsWithin s → IsAllowed taker by s (write_event s item)
