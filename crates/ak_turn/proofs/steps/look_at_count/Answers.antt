use Rattle.std.proofs.Common.{arith}
use Rattle.ak_turn.proofs.Glancing.{glances}
use Rattle.ak_turn.proofs.steps.look_at_count.Goals as goal

pub load-requires : goal.load-requires
load-requires g c = (c.requires.of, omega (arith, c.requires.wide.0), glances _ _ _ _ _ _ _ c.requires.idle)
