-- the seat has sent what the vector has
use Rattle.std.proofs.Common.{◌≡◌}
use Rattle.ak_port.specs.PortWriters.{HasSent}
use Rattle.uses_objects.proofs.ports.three.send.Given as goal

abbrev pub invariant-loop-number : goal.invariant-loop-number
invariant-loop-number g l = record {
  sent_so : HasSent l.port l.fn.thread.0 l.sent.items l.seat;
  thread : l.clock.thread ≡ l.fn.thread;
}
