-- There are no more than a run may have.
use Rattle.std.proofs.Common.{arith}
use Rattle.ak_run.proofs.run.Run.loopers.Goals as goal

pub returns : goal.returns
returns g = omega (arith, g.len.ensures, g.args.self.now.members.ok.0, g.requires.running.stands.few)
