-- As many as it came to.
use Rattle.std.proofs.Common.{◌≡◌, length}
use Rattle.ak_run.proofs.team.clones.Given as goal

abbrev pub invariant-loop : goal.invariant-loop
invariant-loop g l = length l.gates.items ≡ l.counter
