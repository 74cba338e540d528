-- A door that is parted: a new thread's door leads to the same port and desk, and its thread made nothing there. Main's own leads on.
use Rattle.std.proofs.Common.{◌≡◌, ◌≢◌, ℕ, List, Option, None, sym, ap, ◌∙◌, subst, All}
use Rattle.std.specs.Arc.{arc_value}
use Rattle.std.proofs.lemmas.List.Elements.{All-nil}
use Rattle.ak_base.specs.declared.thread.ThreadId.{ThreadId}
use Rattle.ak_turn.specs.Seats.{new_seat}
use Rattle.ak_turn.specs.Steps.{IsNewName, named, names_with}
use Rattle.ak_port.specs.PortCalls as ports
use Rattle.ak_port.specs.PortCalls.{CanTake, IsNoRest}
use Rattle.ak_desk.specs.Shared as desks
use Rattle.ak_looper.specs.declared.door.Door.{Door}
use Rattle.ak_looper.specs.Doors.{IsNewDoor}
use Rattle.ak_looper.proofs.Surface.{new_door}
use Rattle.ak_team.specs.Doors.{HasGivenUpNames, HasNames, HasParted, IsNewAt, IsPartOf, KeepsDoor, KnowsBoth}
use Rattle.ak_looper.specs.NoHead.{HasNoNames}
use Rattle.ak_team.proofs.Heads.{made_nothing}

-- ---- names
-- who is none of the names has had no seat
pub new_beside : (names : List ℕ) (thread : ℕ) (door : Door) → HasNames names door → All (λ (name : ℕ). name ≢ thread) names → IsNewAt thread door
new_beside names thread door has new = record {
  at_port = subst (λ (ns : Option (List ℕ)). IsNewName ns thread) (sym has.at_port) new;
  at_desk = subst (λ (ns : Option (List ℕ)). IsNewName ns thread) (sym has.at_desk) new;
}

-- behind a part there is one name more
pub names_more : (names : List ℕ) (thread : ℕ) (door door' : Door) → HasNames names door → HasParted thread door door' → HasNames (named names thread) door'
names_more names thread door door' has parted = record {
  at_port = ap (λ (s : ports.PortSeat). s.names) parted.port_seat ∙ ap (λ (ns : Option (List ℕ)). names_with ns thread) has.at_port;
  at_desk = ap (λ (s : desks.DeskSeat). s.names) parted.desk_seat ∙ ap (λ (ns : Option (List ℕ)). names_with ns thread) has.at_desk;
}

-- ---- the part
-- its thread made nothing there
pub new_part : (thread : ℕ) (door part : Door) → KnowsBoth door → IsNewAt thread door → IsPartOf thread door part → IsNewDoor thread part.port_seat part.desk_seat
new_part thread door part known new is =
    new_door thread door.port_seat part.port_seat door.desk_seat part.desk_seat is.port_seat is.desk_seat
    (made_nothing ports.by_number door.port_seat thread known.at_port new.at_port) (made_nothing desks.by_number door.desk_seat thread known.at_desk new.at_desk)

-- where the port is that taker's, it can take there
pub part_takes : (taker : ThreadId) (room thread : ℕ) (a c : ports.PortSeat) → CanTake taker room a → c ≡ new_seat thread None a → CanTake taker room c
part_takes taker room thread a c can is =
    subst (CanTake taker room) (sym is) (record { taker = can.taker; unrested = All-nil (IsNoRest a.front); made = can.made; capacity = can.capacity })

-- ---- main's door
-- it leads to the same port and desk, of the same thread
pub record LeadsAsBefore (door door' : Door) : Type 0 where
  pub port : arc_value door'.port ≡ arc_value door.port
  pub desk : arc_value door'.desk ≡ arc_value door.desk
  pub thread : door'.port_seat.thread ≡ door.port_seat.thread
  pub port_opening : door'.port_seat.opening ≡ door.port_seat.opening
  pub port_front : door'.port_seat.front ≡ door.port_seat.front
  pub desk_opening : door'.desk_seat.opening ≡ door.desk_seat.opening
  pub desk_front : door'.desk_seat.front ≡ door.desk_seat.front

pub leads_parted : (thread : ℕ) (door door' : Door) → HasParted thread door door' → LeadsAsBefore door door'
leads_parted thread door door' parted = record {
  port = ap arc_value parted.port;
  desk = ap arc_value parted.desk;
  thread = ap (λ (s : ports.PortSeat). s.thread) parted.port_seat;
  port_opening = ap (λ (s : ports.PortSeat). s.opening) parted.port_seat;
  port_front = ap (λ (s : ports.PortSeat). s.front) parted.port_seat;
  desk_opening = ap (λ (s : desks.DeskSeat). s.opening) parted.desk_seat;
  desk_front = ap (λ (s : desks.DeskSeat). s.front) parted.desk_seat;
}

pub leads_without_names : (door door' : Door) → HasGivenUpNames door door' → LeadsAsBefore door door'
leads_without_names door door' gave = record {
  port = ap arc_value gave.port;
  desk = ap arc_value gave.desk;
  thread = ap (λ (s : ports.PortSeat). s.thread) gave.port_seat;
  port_opening = ap (λ (s : ports.PortSeat). s.opening) gave.port_seat;
  port_front = ap (λ (s : ports.PortSeat). s.front) gave.port_seat;
  desk_opening = ap (λ (s : desks.DeskSeat). s.opening) gave.desk_seat;
  desk_front = ap (λ (s : desks.DeskSeat). s.front) gave.desk_seat;
}

-- what gave its names up is no head
pub no_names_left : (door door' : Door) → HasGivenUpNames door door' → HasNoNames door'
no_names_left door door' gave = record { at_port = ap (λ (s : ports.PortSeat). s.names) gave.port_seat; at_desk = ap (λ (s : desks.DeskSeat). s.names) gave.desk_seat }

-- nor is a part
pub part_no_head : (thread : ℕ) (door part : Door) → IsPartOf thread door part → HasNoNames part
part_no_head thread door part is = record { at_port = ap (λ (s : ports.PortSeat). s.names) is.port_seat; at_desk = ap (λ (s : desks.DeskSeat). s.names) is.desk_seat }

pub leads_on : (a b c : Door) → LeadsAsBefore a b → LeadsAsBefore b c → LeadsAsBefore a c
leads_on a b c one other = record {
  port = other.port ∙ one.port;
  desk = other.desk ∙ one.desk;
  thread = other.thread ∙ one.thread;
  port_opening = other.port_opening ∙ one.port_opening;
  port_front = other.port_front ∙ one.port_front;
  desk_opening = other.desk_opening ∙ one.desk_opening;
  desk_front = other.desk_front ∙ one.desk_front;
}

-- ---- calls at its port, one after another
pub keeps_then_keeps : (a b c : Door) → KeepsDoor a b → KeepsDoor b c → KeepsDoor a c
keeps_then_keeps a b c one other = record {
  port = other.port ∙ one.port;
  desk = other.desk ∙ one.desk;
  port_seat = record {
    lock = other.port_seat.lock ∙ one.port_seat.lock;
    opening = other.port_seat.opening ∙ one.port_seat.opening;
    thread = other.port_seat.thread ∙ one.port_seat.thread;
    joined = other.port_seat.joined ∙ one.port_seat.joined;
    turn = other.port_seat.turn ∙ one.port_seat.turn;
    names = other.port_seat.names ∙ one.port_seat.names;
  };
  desk_seat = other.desk_seat ∙ one.desk_seat;
  known = λ known. other.known (one.known known);
  taking = λ thread room can. other.taking thread room (one.taking thread room can);
}
