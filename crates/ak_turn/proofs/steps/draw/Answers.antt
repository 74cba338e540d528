use Rattle.std.proofs.Common.{arith}
use Rattle.ak_turn.proofs.Drawing.{draws}
use Rattle.ak_turn.proofs.steps.draw.Goals as goal

pub fetch_add-requires : goal.fetch_add-requires
fetch_add-requires g c = (c.requires.of, omega (arith, c.requires.wide.0), draws _ _ _ _ _ _ _ c.requires.idle.0 c.requires.idle.1)
