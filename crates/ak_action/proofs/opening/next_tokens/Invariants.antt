-- The next handlers of those so far.
use Rattle.std.proofs.Common.{◌≡◌}
use Rattle.ak_action.specs.OpeningInside.{nexts_from}
use Rattle.ak_action.proofs.opening.next_tokens.Given as goal

abbrev pub invariant-loop-place : goal.invariant-loop-place
invariant-loop-place l = l.nexts.items ≡ nexts_from l.rows 0 l.place
