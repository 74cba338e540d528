use Rattle.std.proofs.Common.{◌≡◌}
use Rattle.ak_turn.proofs.steps.await_turn.Given as goal

-- a look at another's number changes nothing
abbrev pub invariant-loop : goal.invariant-loop
invariant-loop g l = record { of : l.place.table_id ≡ l.fn.place.table_id; me : l.place.me ≡ l.fn.place.me }
