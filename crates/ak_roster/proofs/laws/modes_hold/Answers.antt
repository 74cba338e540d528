-- A team starts only apart from those that run.
use Rattle.ak_roster.proofs.Apart.{modes_hold}
use Rattle.ak_roster.proofs.laws.modes_hold.Goals as goal

pub returns : goal.returns
returns c = modes_hold
