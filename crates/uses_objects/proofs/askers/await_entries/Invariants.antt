-- the seat stays one of this lock, without a turn, and of its thread
use Rattle.std.proofs.Common.{◌≡◌, false}
use Rattle.uses_objects.proofs.askers.await_entries.Given as goal

abbrev pub invariant-loop : goal.invariant-loop
invariant-loop g l = record {
  of : l.seat.lock ≡ l.book;
  idle : l.seat.turn ≡ false;
  thread : l.seat.thread ≡ l.fn.seat.thread;
}
