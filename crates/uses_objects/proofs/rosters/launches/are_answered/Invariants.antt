use Rattle.ak_roster.specs.Roster.{IsAtRest}
use Rattle.uses_objects.proofs.rosters.launches.are_answered.Given as goal

abbrev pub invariant-loop-place : goal.invariant-loop-place
invariant-loop-place g l = IsAtRest l.roster
