-- Main sees more of that looper's desk, and the run goes on.
use Rattle.std.proofs.Common.{◌≤◌, length, refl, sym, subst}
use Rattle.ak_run.proofs.Looks.{desk_looked, desk_runs, desk_there}
use Rattle.ak_run.proofs.run.Run.see_desk.Goals as goal

pub returns : goal.returns
returns g c =
    let r = c.args.self.now in
    let m = c.index_mut.result.now in
    let there = sym c.index_mut.ensures.value in
    let within = c.rest_past_last.ensures in
    let running = c.requires.running in
    record {
      seen = subst (λ list. c.args.count ≤ length list) (sym (desk_there r.members.items c.args.looper _ within)) c.see.ensures.many;
      looked = desk_looked r _ c.args.looper m _ within there refl refl refl (record { apps = refl; shared = refl; joined = refl; ports = refl; desks = refl; slots = refl }) running refl c.see.ensures.seen;
      running = desk_runs r _ c.args.looper m _ within there refl refl refl (record { apps = refl; shared = refl; joined = refl; ports = refl; desks = refl; slots = refl }) running refl c.see.ensures.seen refl;
    }
