use Rattle.std.proofs.Common.{◌≡◌, vec_len}
use Rattle.ak_turn.specs.Seats.{HasMade}
use Rattle.uses_objects.proofs.turns.four.make.Given as goal

-- the seat has made what the vector has
abbrev pub invariant-loop-number : goal.invariant-loop-number
invariant-loop-number g l = record {
  made_so : HasMade (λ c. c.by.0) l.lock l.fn.thread.0 l.made.items l.seat;
  thread : l.clock.thread ≡ l.fn.thread;
  each : vec_len l.made ≡ l.number;
}
