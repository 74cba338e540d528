-- One more is opened, and its thread started; or it ends.
use Rattle.std.proofs.Common.{◌≡◌, ◌+◌, ℕ, List, [], ◌∷◌, ◌++◌, length, take, refl, sym, ap, ◌∙◌, subst, arith}
use Rattle.std.specs.Prelude.{Ok, vec_capacity}
use Rattle.std.proofs.lemmas.List.{length-append, length-map}
use Rattle.std.specs.declared.thread.PromisedHandle.{PromisedHandle}
use Rattle.ak_describe.specs.Whole.{heads_of}
use Rattle.ak_lines.specs.declared.job.SessionEnd.{SessionEnd}
use Rattle.ak_block.specs.declared.starting.Carries.{Carries}
use Rattle.ak_block.specs.Threads.{jobs_of}
use Rattle.ak_block.specs.Together.{HasOpened}
use Rattle.ak_run.specs.Starts.{StartsAll, StartsButLast}
use Rattle.ak_run.proofs.Surface.{last_one, one_more}
use Rattle.ak_block.proofs.Ends.{ends_count}
use Rattle.ak_block.proofs.Launching.{jobs_now, last_run, next_started, not_opened, number_now}
use Rattle.ak_block.proofs.Started.{AreStarted, none_started}
use Rattle.ak_block.proofs.blocks.run_sessions.Goals as goal

pub loop-lines-init : goal.loop-lines-init
loop-lines-init g c =
    let r = c.args.run.now in
    let heads = heads_of r.apps.items in
    record {
      started = subst (λ (l : List (PromisedHandle SessionEnd Carries)). AreStarted heads [] r r (jobs_of l)) (sym c.requires.none_running) (none_started heads r);
      capacity = refl;
      ends = refl;
      running = c.requires.running;
      apps = refl;
      faults = refl;
      starts = refl;
      count = refl;
    }

pub open-requires-clause-few : goal.open-requires-clause-few
open-requires-clause-few g c =
    let was = c.loop-lines in
    let r = c.args.run.now in
    let many = number_now (heads_of r.apps.items) c.args.sessions.now was.lines-index was.auto.lines-index-end r was.run (jobs_of was.running.items) was.invariant.started in
    omega (arith, many, c.loop-lines-test.true, c.requires.few)

pub join_all-requires : goal.join_all-requires
join_all-requires g c =
    let was = c.loop-lines in
    let r = c.args.run.now in
    let many = jobs_now (heads_of r.apps.items) c.args.sessions.now was.lines-index was.auto.lines-index-end r was.run (jobs_of was.running.items) was.invariant.started in
    let none : length was.ends.items ≡ 0 = ap (λ e. length e.items) was.invariant.ends ∙ ap (λ (l : List SessionEnd). length l) c.requires.no_ends in
    record { room = omega (arith, many, length-map was.running.items (λ (handle : PromisedHandle SessionEnd Carries). handle.promise.0.value), none, ap (λ e. vec_capacity e) was.invariant.ends, was.auto.lines-index-end, c.requires.room_for_ends) }

pub join_all-requires-2 : goal.join_all-requires-2
join_all-requires-2 g c =
    let was = c.loop-lines in
    let r = c.args.run.now in
    let many = jobs_now (heads_of r.apps.items) c.args.sessions.now was.lines-index was.auto.lines-index-end r was.run (jobs_of was.running.items) was.invariant.started in
    let none : length was.ends.items ≡ 0 = ap (λ e. length e.items) was.invariant.ends ∙ ap (λ (l : List SessionEnd). length l) c.requires.no_ends in
    record { room = omega (arith, many, length-map was.running.items (λ (handle : PromisedHandle SessionEnd Carries). handle.promise.0.value), none, ap (λ e. vec_capacity e) was.invariant.ends, was.auto.lines-index-end, c.requires.room_for_ends) }

pub start-requires-clause-room : goal.start-requires-clause-room
start-requires-clause-room g c κs within =
    let was = c.loop-lines in
    let r = c.args.run.now in
    let many = jobs_now (heads_of r.apps.items) c.args.sessions.now was.lines-index was.auto.lines-index-end r was.run (jobs_of was.running.items) was.invariant.started in
    omega (arith, many, length-map was.running.items (λ (handle : PromisedHandle SessionEnd Carries). handle.promise.0.value), was.invariant.capacity, c.loop-lines-test.true, c.requires.room)

pub start-requires-clause-room_for_ends : goal.start-requires-clause-room_for_ends
start-requires-clause-room_for_ends g c κs within =
    let was = c.loop-lines in
    let r = c.args.run.now in
    let many = jobs_now (heads_of r.apps.items) c.args.sessions.now was.lines-index was.auto.lines-index-end r was.run (jobs_of was.running.items) was.invariant.started in
    let none : length was.ends.items ≡ 0 = ap (λ e. length e.items) was.invariant.ends ∙ ap (λ (l : List SessionEnd). length l) c.requires.no_ends in
    omega (arith, many, length-map was.running.items (λ (handle : PromisedHandle SessionEnd Carries). handle.promise.0.value), none, ap (λ e. vec_capacity e) was.invariant.ends, c.loop-lines-test.true, c.requires.room_for_ends)

pub returns-in_default-clause-ran : goal.returns-in_default-clause-ran
returns-in_default-clause-ran g c =
    let was = c.loop-lines in
    let r = c.args.run.now in
    let heads = heads_of r.apps.items in
    let none : was.ends.items ≡ [] = ap (λ e. e.items) was.invariant.ends ∙ c.requires.no_ends in
    not_opened heads c.args.sessions.now was.lines-index was.auto.lines-index-end r was.run (jobs_of was.running.items) was.invariant.started was.ends.items c.join_all.new.ends.items none c.lines-item.result c.open.result c.open.new.run c.loop-lines-test.true
    (subst (λ apps. HasOpened (heads_of apps.items) c.lines-item.result c.open.result was.run c.open.new.run) was.invariant.apps c.open.ensures.opened) c.in_default.not-Ok c.join_all.ensures.joined

pub loop-lines-preserved : goal.loop-lines-preserved
loop-lines-preserved g c =
    let was = c.loop-lines in
    let r = c.args.run.now in
    let heads = heads_of r.apps.items in
    let job = c.in-Ok.job in
    let started = c.in-Some.ensures.started in
    let opened = subst (λ apps. HasOpened (heads_of apps.items) c.lines-item.result (Ok job) was.run c.open.new.run) was.invariant.apps c.in-Ok.ensures.opened in
    record {
      started = subst (AreStarted heads (take (was.lines-index + 1) c.args.sessions.now) r c.open.new.run) (sym started.0)
          (next_started heads c.args.sessions.now was.lines-index was.auto.lines-index-end r was.run (jobs_of was.running.items) was.invariant.started c.lines-item.result job c.open.new.run c.loop-lines-test.true c.lines-item.is opened);
      capacity = started.1 ∙ was.invariant.capacity;
      ends = started.2 ∙ was.invariant.ends;
      running = c.in-Ok.ensures.running;
      apps = c.in-Ok.ensures.apps ∙ was.invariant.apps;
      faults = c.in-Some.ensures.kept ∙ was.invariant.faults;
      starts = one_more was.lines-index (g.W.Spawner.calls c.args.spawner.now) (g.W.Spawner.calls was.spawner) (g.W.Spawner.calls c.start.new.spawner) was.invariant.starts c.in-Some.ensures.asked;
      count = c.in-Ok.ensures.count ∙ was.invariant.count;
    }

pub returns-in-None-clause-ran : goal.returns-in-None-clause-ran
returns-in-None-clause-ran g c =
    let was = c.loop-lines in
    let r = c.args.run.now in
    let heads = heads_of r.apps.items in
    let job = c.in-Ok.job in
    let none : was.ends.items ≡ [] = ap (λ e. e.items) was.invariant.ends ∙ c.requires.no_ends in
    let opened = subst (λ apps. HasOpened (heads_of apps.items) c.lines-item.result (Ok job) was.run c.open.new.run) was.invariant.apps c.in-Ok.ensures.opened in
    let on = next_started heads c.args.sessions.now was.lines-index was.auto.lines-index-end r was.run (jobs_of was.running.items) was.invariant.started c.lines-item.result job c.open.new.run c.loop-lines-test.true c.lines-item.is opened in
    last_run heads c.args.sessions.now was.lines-index (omega (arith, c.loop-lines-test.true)) r c.open.new.run (jobs_of was.running.items ++ job ∷ []) on was.ends.items c.start.new.ends.items none c.in-None.ensures.refused

-- ---- the threads
-- as many were started as there are ends
pub returns-in_default-clause-starts : goal.returns-in_default-clause-starts
returns-in_default-clause-starts g c =
    let was = c.loop-lines in
    let r = c.args.run.now in
    let jobs = jobs_of was.running.items in
    let many = jobs_now (heads_of r.apps.items) c.args.sessions.now was.lines-index was.auto.lines-index-end r was.run jobs was.invariant.started in
    let none : length was.ends.items ≡ 0 = ap (λ e. length e.items) was.invariant.ends ∙ ap (λ (l : List SessionEnd). length l) c.requires.no_ends in
    let all : was.lines-index ≡ length c.join_all.new.ends.items = omega (arith, many, none, ends_count jobs was.ends.items c.join_all.new.ends.items c.join_all.ensures.joined) in
    λ other. subst (λ (k : ℕ). StartsAll k (g.W.Spawner.calls c.args.spawner.now) (g.W.Spawner.calls was.spawner)) all was.invariant.starts

pub returns-in-None-clause-stops_starting : goal.returns-in-None-clause-stops_starting
returns-in-None-clause-stops_starting g c =
    let was = c.loop-lines in
    let r = c.args.run.now in
    let jobs = jobs_of was.running.items in
    let many = jobs_now (heads_of r.apps.items) c.args.sessions.now was.lines-index was.auto.lines-index-end r was.run jobs was.invariant.started in
    let none : length was.ends.items ≡ 0 = ap (λ e. length e.items) was.invariant.ends ∙ ap (λ (l : List SessionEnd). length l) c.requires.no_ends in
    let all : was.lines-index + 1 ≡ length c.start.new.ends.items =
    omega (arith, many, none, ends_count (jobs ++ c.in-Ok.job ∷ []) was.ends.items c.start.new.ends.items c.in-None.ensures.refused, length-append jobs (c.in-Ok.job ∷ [])) in
    let asked = last_one was.lines-index (g.W.Spawner.calls c.args.spawner.now) (g.W.Spawner.calls was.spawner) (g.W.Spawner.calls c.start.new.spawner) was.invariant.starts c.in-None.ensures.given_back in
    λ refused. subst (λ (k : ℕ). StartsButLast k (g.W.Spawner.calls c.args.spawner.now) (g.W.Spawner.calls c.start.new.spawner)) all asked

-- behind the last one
pub returns-clause-starts : goal.returns-clause-starts
returns-clause-starts g c =
    let was = c.loop-lines in
    let r = c.args.run.now in
    let jobs = jobs_of was.running.items in
    let many = jobs_now (heads_of r.apps.items) c.args.sessions.now was.lines-index was.auto.lines-index-end r was.run jobs was.invariant.started in
    let none : length was.ends.items ≡ 0 = ap (λ e. length e.items) was.invariant.ends ∙ ap (λ (l : List SessionEnd). length l) c.requires.no_ends in
    let joined = c.join_all-2.ensures.joined in
    let all : was.lines-index ≡ length c.join_all-2.new.ends.items = omega (arith, many, none, ends_count jobs was.ends.items c.join_all-2.new.ends.items joined) in
    λ other. subst (λ (k : ℕ). StartsAll k (g.W.Spawner.calls c.args.spawner.now) (g.W.Spawner.calls was.spawner)) all was.invariant.starts
