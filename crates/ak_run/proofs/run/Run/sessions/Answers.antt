-- There are no more than a run may have.
use Rattle.std.proofs.Common.{arith}
use Rattle.std.proofs.lemmas.List.{length-map}
use Rattle.ak_run.specs.Sessions.{told_of}
use Rattle.ak_run.proofs.run.Run.sessions.Goals as goal

pub returns : goal.returns
returns g = omega (arith, g.len.ensures, g.args.self.now.slots.sessions.ok.0, length-map g.args.self.now.slots.sessions.items told_of, g.requires.running.stands.sessions.few)
