-- Main sees more of the roster, and the run goes on.
use Rattle.std.proofs.Common.{refl}
use Rattle.ak_run.proofs.Looks.{roster_looked, roster_runs}
use Rattle.ak_run.proofs.run.Run.see_roster.Goals as goal

pub returns : goal.returns
returns g c =
    let r = c.args.self.now in
    record {
      seen = c.see.ensures.many;
      looked = roster_looked r _ (record { apps = refl; shared = refl; joined = refl; ports = refl; desks = refl; slots = refl }) refl refl refl c.see.ensures.seen;
      running = roster_runs r _ (record { apps = refl; shared = refl; joined = refl; ports = refl; desks = refl; slots = refl }) refl refl refl c.see.ensures.seen c.see.ensures.known c.requires.running;
    }
