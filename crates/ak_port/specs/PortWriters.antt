-- What a thread wrote to a port, or took of it, and what is known of that.
use Rattle.std.specs.Prelude.{◌≡◌, ℕ, false, List, [], Some, map}
use Rattle.ak_base.specs.declared.thread.ThreadId.{ThreadId}
use Rattle.ak_turn.specs.Seats.{LockId, HasMade, KnowsOf}
use Rattle.ak_flatten.specs.declared.item.Taken.{Taken}
use Rattle.ak_port.specs.declared.port_entry.PortEntry.{PortEntry}
use Rattle.ak_port.specs.PortCalls.{CanTake, PortSeat, by_number}
use Rattle.ak_port.specs.PortMachine.{state_of, taken_items, written_in}

-- the teams that the written items name, in order
abbrev pub teams_in : List PortEntry → List ℕ
teams_in entries = map (λ (taken : Taken). taken.item.team) (written_in entries)

-- a seat by itself, whose thread wrote just the items with those teams
pub record HasSent (lock : LockId) (thread : ℕ) (sent : List ℕ) (seat : PortSeat) : Type 0 where
  pub made : List PortEntry
  pub has : HasMade by_number lock thread made seat
  pub sent_so : teams_in made ≡ sent

-- of a thread whose seat was joined to it, the seat knows that it wrote just those
pub record KnowsSent (thread : ℕ) (sent : List ℕ) (seat : PortSeat) : Type 0 where
  pub made : List PortEntry
  pub knows : KnowsOf by_number thread made seat
  pub sent_so : teams_in made ≡ sent

-- a seat by itself, whose thread is the port's taker and has taken nothing
pub record StartsToTake (lock : LockId) (thread : ThreadId) (room : ℕ) (seat : PortSeat) : Type 0 where
  pub of : seat.lock ≡ lock
  pub idle : seat.turn ≡ false
  pub is : seat.thread ≡ thread.0
  pub taking : CanTake thread room seat
  pub nothing : taken_items (state_of seat.front) ≡ []

-- a seat by itself, whose thread is the port's taker and has taken just these items
pub record HasTaken (lock : LockId) (thread : ThreadId) (items : List Taken) (seat : PortSeat) : Type 0 where
  pub of : seat.lock ≡ lock
  pub idle : seat.turn ≡ false
  pub is : seat.thread ≡ thread.0
  pub opening : seat.opening ≡ Some thread
  pub taken : items ≡ taken_items (state_of seat.front)
