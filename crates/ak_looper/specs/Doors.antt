-- What a door leads to, and what is known of a new one.
use Rattle.std.specs.Prelude.{◌≡◌, ℕ, [], Option, None, Some}
use Rattle.ak_turn.specs.Noted.{noted}
use Rattle.ak_turn.specs.Seats.{LockId}
use Rattle.ak_port.specs.PortCalls as ports
use Rattle.ak_desk.specs.Shared as desks

-- the port's lock with the desk's
abbrev pub door_object : LockId → LockId → Option (LockId × LockId)
door_object port desk = Some (port, desk)

-- the door of a thread that has made nothing at the port and the desk
pub record IsNewDoor (thread : ℕ) (port : ports.PortSeat) (desk : desks.DeskSeat) : Type 0 where
  pub at_port : port.thread ≡ thread
  pub at_desk : desk.thread ≡ thread
  pub nothing_there : noted ports.by_number thread port.front ≡ []
  pub nothing_here : noted desks.by_number thread desk.front ≡ []
  pub no_head : port.names ≡ None
