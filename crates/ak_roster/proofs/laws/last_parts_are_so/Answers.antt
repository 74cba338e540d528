-- By the slashes of what is left.
use Rattle.ak_roster.proofs.Once.{last_part_is_so}
use Rattle.ak_roster.proofs.laws.last_parts_are_so.Goals as goal

pub returns : goal.returns
returns c = last_part_is_so
