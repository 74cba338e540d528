use Rattle.std.proofs.Common.{◌≡◌, false}
use Rattle.uses_objects.proofs.turns.calls.feed.Given as goal

-- the seat stays a seat of the lock, of the thread, with no turn
abbrev pub invariant-loop-number : goal.invariant-loop-number
invariant-loop-number g l = record { of : l.seat.lock ≡ l.lock; idle : l.seat.turn ≡ false; thread : l.seat.thread ≡ l.clock.thread.0 }
