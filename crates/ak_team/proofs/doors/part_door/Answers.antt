-- A head that knows its list knows it still, once it was split.
use Rattle.std.proofs.Common.{sym, subst}
use Rattle.ak_turn.specs.Seats.{KnowsWhole}
use Rattle.ak_port.specs.PortCalls as ports
use Rattle.ak_desk.specs.Shared as desks
use Rattle.ak_team.proofs.doors.part_door.Goals as goal

pub returns-clause-known : goal.returns-clause-known
returns-clause-known c = λ known. record {
  at_port = subst (λ (s : ports.PortSeat). KnowsWhole ports.by_number s) (sym c.split-port_seat.ensures.old)
      (c.new_seats_know.ensures.split c.args.door.now.port_seat c.args.thread.0 known.at_port c.requires.new.at_port).1;
  at_desk = subst (λ (s : desks.DeskSeat). KnowsWhole desks.by_number s) (sym c.split-desk_seat.ensures.old)
      (c.new_seats_know-2.ensures.split c.args.door.now.desk_seat c.args.thread.0 known.at_desk c.requires.new.at_desk).1;
}
