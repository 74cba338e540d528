-- A door that is no head.
use Rattle.std.specs.Prelude.{◌≡◌, None}
use Rattle.ak_looper.specs.declared.door.Door.{Door}

-- neither of its seats is a head
pub record HasNoNames (d : Door) : Type 0 where
  pub at_port : d.port_seat.names ≡ None
  pub at_desk : d.desk_seat.names ≡ None
