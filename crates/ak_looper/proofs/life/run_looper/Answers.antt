-- From its beginning to its end.
use Rattle.std.proofs.Common.{[]}
use Rattle.ak_looper.specs.Job.{facts_of}
use Rattle.ak_looper.proofs.Beginning.{begins_at_its_desk, begins_so, begins_working}
use Rattle.ak_looper.proofs.Ending.{has_lived}
use Rattle.ak_looper.proofs.life.run_looper.Goals as goal

pub work-kind-requires-clause-working : goal.work-kind-requires-clause-working
work-kind-requires-clause-working g c lifetimes within = begins_so c.args.job c.begun-life.result c.requires c.begun-life.ensures.working

pub work-kind-requires-clause-desk : goal.work-kind-requires-clause-desk
work-kind-requires-clause-desk g c lifetimes within = begins_at_its_desk c.args.job c.begun-life.result c.requires c.begun-life.ensures.working

pub returns : goal.returns
returns g c =
    let job = c.args.job in
    let first = c.begun-life.result in
    let life = c.work-kind.new.self in
    let w = c.work-kind.ensures in
    let ready = c.requires in
    let b = c.begun-life.ensures.working in
    has_lived job first life c.work-kind.result c.ended.result ready b w.keeps w.desk.1 c.ended.ensures (w.rested (facts_of job ready.heads ready.desk_opening) job.hands.clock.time [] (begins_working job first ready b))
