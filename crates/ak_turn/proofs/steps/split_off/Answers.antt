use Rattle.std.proofs.Common.{◌<◌, ◌^◌, arith, subst}
use Rattle.ak_turn.specs.Steps.{IsNewName}
use Rattle.ak_turn.proofs.Splitting.{splits}
use Rattle.ak_turn.proofs.steps.split_off.Goals as goal

pub split_seat-requires : goal.split_seat-requires
split_seat-requires g c = (
  c.requires.of,
  omega (arith, c.requires.wide.0),
  splits _ _ _ _ _ _ g.N.Newcomer.thread (subst (λ n. n < 2 ^ 32) c.requires.thread c.ranges.thread.fits) c.requires.idle.0 (subst (IsNewName c.args.place.now.me.0.names) c.requires.thread c.requires.new),
)
