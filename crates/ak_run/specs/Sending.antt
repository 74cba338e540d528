-- What main does at a looper that was started.
use Rattle.std.specs.Prelude.{◌≡◌, ℕ, length, Option, Some, Result, option_map, slice_get}
use Rattle.ak_messenger.specs.declared.asking.Reply.{Reply}
use Rattle.ak_messenger.specs.declared.fault.SendFault.{SendFault}
use Rattle.ak_messenger.specs.Asks.{AskTells}
use Rattle.ak_flatten.specs.Item.{ItemData}
use Rattle.ak_port.specs.declared.port_entry.PortEvent.{PortEvent}
use Rattle.ak_port.specs.PortCalls as ports
use Rattle.ak_port.specs.PortCalls.{PortSeat}
use Rattle.ak_desk.specs.declared.entry.DeskEvent.{DeskEvent}
use Rattle.ak_desk.specs.Shared as desks
use Rattle.ak_desk.specs.Shared.{DeskSeat}
use Rattle.ak_gather.specs.declared.member.Member.{Member}
use Rattle.ak_run.specs.declared.run.Run.{Run}

-- how many loopers were started
abbrev pub looper_count : Run → ℕ
looper_count r = length r.members.items

-- main's seats at the port and at the desk of the looper with that number
abbrev pub port_seat_of : Run → ℕ → Option PortSeat
port_seat_of r looper = option_map (λ (m : Member). m.door.port_seat) (slice_get r.members.items looper)

abbrev pub desk_seat_of : Run → ℕ → Option DeskSeat
desk_seat_of r looper = option_map (λ (m : Member). m.door.desk_seat) (slice_get r.members.items looper)

-- at that port main made one entry with that event, or it made none
pub record AnswersAtPort (looper : ℕ) (e : Option PortEvent) (r r' : Run) : Type 0 where
  pub seat : PortSeat
  pub seat' : PortSeat
  pub before : port_seat_of r looper ≡ Some seat
  pub after : port_seat_of r' looper ≡ Some seat'
  pub answered : ports.HasAnswered e r.hands.clock r'.hands.clock seat seat'

-- the same at that desk, of no message
pub record AnswersAtDesk (looper : ℕ) (e : Option DeskEvent) (r r' : Run) : Type 0 where
  pub seat : DeskSeat
  pub seat' : DeskSeat
  pub before : desk_seat_of r looper ≡ Some seat
  pub after : desk_seat_of r' looper ≡ Some seat'
  pub answered : desks.HasAnswered e r.hands.clock r'.hands.clock seat seat'

-- main asked that looper, by that item, and heard that
pub record AsksAt (looper : ℕ) (item : ItemData) (heard : Result Reply SendFault) (r r' : Run) : Type 0 where
  pub seat : PortSeat
  pub seat' : PortSeat
  pub before : port_seat_of r looper ≡ Some seat
  pub after : port_seat_of r' looper ≡ Some seat'
  pub tells : AskTells item r.hands.clock r'.hands.clock r.hands.book_seat r'.hands.book_seat seat seat' heard
