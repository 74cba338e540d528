-- A step keeps the limits.
use Rattle.ak_roster.proofs.Carried.{limits_hold}
use Rattle.ak_roster.proofs.Once.{doors_are_given_once}
use Rattle.ak_roster.proofs.laws.limits_hold.Goals as goal

pub returns : goal.returns
returns c = record { limits = limits_hold; doors = doors_are_given_once }
