-- The doors to a looper that is about to start.
use Rattle.std.specs.Prelude.{◌≡◌, ℕ, List, None, Some}
use Rattle.std.specs.Arc.{arc_value}
use Rattle.ak_base.specs.declared.thread.ThreadId.{ThreadId}
use Rattle.ak_turn.specs.Called.{KeepsSeat}
use Rattle.ak_turn.specs.Seats.{KnowsWhole, new_seat, titled_seat}
use Rattle.ak_turn.specs.Steps.{IsNewName, names_with}
use Rattle.ak_port.specs.PortCalls as ports
use Rattle.ak_port.specs.PortCalls.{CanTake}
use Rattle.ak_desk.specs.Shared as desks
use Rattle.ak_looper.specs.declared.door.Door.{Door}
use Rattle.ak_looper.specs.declared.kept_door.KeptDoor.{KeptDoor}

-- its seats know the port's list and the desk's
pub record KnowsBoth (d : Door) : Type 0 where
  pub at_port : KnowsWhole ports.by_number d.port_seat
  pub at_desk : KnowsWhole desks.by_number d.desk_seat

-- its seats are the heads, and these threads have had a seat
pub record HasNames (names : List ℕ) (d : Door) : Type 0 where
  pub at_port : d.port_seat.names ≡ Some names
  pub at_desk : d.desk_seat.names ≡ Some names

-- the thread has had no seat
pub record IsNewAt (thread : ℕ) (d : Door) : Type 0 where
  pub at_port : IsNewName d.port_seat.names thread
  pub at_desk : IsNewName d.desk_seat.names thread

-- a door of that thread's was made of it
pub record IsPartOf (thread : ℕ) (door part : Door) : Type 0 where
  pub port : arc_value part.port ≡ arc_value door.port
  pub desk : arc_value part.desk ≡ arc_value door.desk
  pub port_seat : part.port_seat ≡ new_seat thread None door.port_seat
  pub desk_seat : part.desk_seat ≡ new_seat thread None door.desk_seat

-- and it stayed the head
pub record HasParted (thread : ℕ) (door door' : Door) : Type 0 where
  pub port : door'.port ≡ door.port
  pub desk : door'.desk ≡ door.desk
  pub port_seat : door'.port_seat ≡ titled_seat (names_with door.port_seat.names thread) door.port_seat
  pub desk_seat : door'.desk_seat ≡ titled_seat (names_with door.desk_seat.names thread) door.desk_seat

-- the keeper's door was made of it
pub record IsKeptOf (keeper : ℕ) (door : Door) (kept : KeptDoor) : Type 0 where
  pub port : arc_value kept.port ≡ arc_value door.port
  pub desk : arc_value kept.desk ≡ arc_value door.desk
  pub port_seat : kept.port_seat ≡ new_seat keeper (names_with door.port_seat.names keeper) door.port_seat
  pub desk_seat : kept.desk_seat ≡ new_seat keeper (names_with door.desk_seat.names keeper) door.desk_seat

-- and it is the head no more
pub record HasGivenUpNames (door door' : Door) : Type 0 where
  pub port : door'.port ≡ door.port
  pub desk : door'.desk ≡ door.desk
  pub port_seat : door'.port_seat ≡ titled_seat None door.port_seat
  pub desk_seat : door'.desk_seat ≡ titled_seat None door.desk_seat

-- what no send at its port changes: which port and which desk, the seats there, and that they know the lists; a taker can take as before
pub record KeepsDoor (door door' : Door) : Type 0 where
  pub port : door'.port ≡ door.port
  pub desk : door'.desk ≡ door.desk
  pub port_seat : KeepsSeat door.port_seat door'.port_seat
  pub desk_seat : door'.desk_seat ≡ door.desk_seat
  pub known : KnowsWhole ports.by_number door.port_seat → KnowsWhole ports.by_number door'.port_seat
  pub taking : (thread : ThreadId) (room : ℕ) → CanTake thread room door.port_seat → CanTake thread room door'.port_seat

-- what no call at its port changes: which port and which desk, whose seats they are, and what was seen of the desk
pub record KeepsSeats (door door' : Door) : Type 0 where
  pub port : KeepsSeat door.port_seat door'.port_seat
  pub desk : KeepsSeat door.desk_seat door'.desk_seat
  pub desk_front : door'.desk_seat.front ≡ door.desk_seat.front
