use Rattle.ak_roster.specs.Heads.{IsHeads}
use Rattle.uses_objects.proofs.rosters.calls.roster_of.Given as goal

abbrev pub invariant-loop-row : goal.invariant-loop-row
invariant-loop-row l = IsHeads l.heads.items
