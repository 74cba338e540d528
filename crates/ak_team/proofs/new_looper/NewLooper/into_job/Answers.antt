-- The job of a looper that may start is ready.
use Rattle.std.proofs.Common.{refl}
use Rattle.ak_team.proofs.Jobs.{ready}
use Rattle.ak_team.proofs.new_looper.NewLooper.into_job.Goals as goal

pub returns-clause-ready : goal.returns-clause-ready
returns-clause-ready c =
    let s = c.requires.start in
    ready s.0 s.1 s.2 c.args.team c.args.self c.args.ways.items c.args.book_seat c.args.roster_seat s.3 _ refl refl refl refl refl refl refl refl refl
