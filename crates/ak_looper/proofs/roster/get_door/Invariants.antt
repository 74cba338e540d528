use Rattle.std.proofs.Common.{◌≡◌, false}
use Rattle.ak_turn.specs.Seats.{HasSeen}
use Rattle.ak_looper.specs.Rosters.{MayGetDoor, by_number}
use Rattle.ak_looper.proofs.roster.get_door.Given as goal

-- the seat has seen since the call, and the clock is as it was
abbrev pub invariant-loop : goal.invariant-loop
invariant-loop g l = record {
  of : l.seat.lock ≡ l.roster;
  idle : l.seat.turn ≡ false;
  thread : l.seat.thread ≡ l.clock.thread.0;
  may : MayGetDoor l.looper l.seat;
  seen : HasSeen by_number l.fn.seat l.seat;
  clock : l.clock ≡ l.fn.clock;
}
