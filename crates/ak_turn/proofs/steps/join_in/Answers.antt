use Rattle.std.proofs.Common.{arith}
use Rattle.ak_turn.proofs.Joining.{joins}
use Rattle.ak_turn.proofs.steps.join_in.Goals as goal

pub join_seat-requires : goal.join_seat-requires
join_seat-requires g c = (c.requires.of.0, c.requires.of.1, c.requires.other_idle.1, omega (arith, c.requires.wide.0), joins _ _ _ _ _ _ _ _ c.requires.idle.0 c.requires.other_idle.0)
