-- Between its entries no message is begun.
use Rattle.std.proofs.Common.{◌≡◌, None}
use Rattle.run_lists.proofs.replays.list_again.Given as goal

abbrev pub invariant-loop-place : goal.invariant-loop-place
invariant-loop-place l = l.again.desk.begun ≡ None
