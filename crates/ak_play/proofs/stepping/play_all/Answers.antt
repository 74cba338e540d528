-- Statement after statement, as far as nothing stops it.
use Rattle.std.proofs.Common.{◌≡◌, ◌≤◌, ◌+◌, ℕ, List, ◌∷◌, length, length-append, drop, vec_capacity, slice_get, is_some, Some, Ok, Err, refl, sym, ap, ◌∙◌, subst, arith}
use Rattle.std.specs.Prelude.{Vec}
use Rattle.std.specs.List.{list_all}
use Rattle.std.specs.declared.alloc.Global.{Global}
use Rattle.std.proofs.lemmas.Result.{err_from_is_err_and}
use Rattle.ak_outside.specs.Faults.{Rose}
use Rattle.ak_describe.specs.declared.described.AppText.{AppText}
use Rattle.ak_run.specs.Sessions.{Told, session_count}
use Rattle.ak_run.specs.Starts.{thread_count}
use Rattle.ak_run.proofs.Surface.{none_more, starts_then}
use Rattle.ak_script.specs.declared.statement.Statement.{Statement}
use Rattle.ak_script.specs.Limits.{statement_limit}
use Rattle.ak_script.specs.Statement.{lines_in, lines_of}
use Rattle.ak_script.specs.StatementSeen.{statement_seen, statements_seen}
use Rattle.ak_play.specs.Gathered.{GatheredData, HasRoom, gathered_seen}
use Rattle.ak_play.specs.Parts.{all_sessions_in}
use Rattle.ak_play.specs.Steps.{HasStepped, IsPlayedSoFar}
use Rattle.ak_play.proofs.Lists.{at_index}
use Rattle.ak_play.proofs.Playing.{play_begun, play_ends, play_goes_on, play_stops}
use Rattle.ak_play.proofs.Starts.{counted_so_far, starts_by}
use Rattle.ak_play.proofs.Room.{as_many_sessions, few_sessions, next_of, pushed_at_most, told_at_most}
use Rattle.ak_play.proofs.stepping.play_all.Goals as goal

-- what the next one may come to is part of what there is room for
next_few : (f : List Statement → ℕ) (statements : List Statement) (i : ℕ) (s : Statement) (base most : ℕ) → slice_get statements i ≡ Some s → base + f (drop i statements) ≤ most → base + f (s ∷ drop (i + 1) statements) ≤ most
next_few f statements i s base most at room = subst (λ (ss : List Statement). base + f ss ≤ most) (next_of statements i s at) room

pub loop-statement-init : goal.loop-statement-init
loop-statement-init g c =
    let apps = c.args.run.now.apps.items in
    let given = g.K.Sink.written c.args.sink.now in
    let faults = g.K.Sink.faults c.args.sink.now in
    record {
      so_far = subst (λ (k : GatheredData). IsPlayedSoFar apps c.args.statements.now k 0 c.args.run.now given given (faults ≡ faults)) (sym c.requires.none)
          (play_begun apps c.args.statements.now c.args.run.now given (faults ≡ faults) refl c.requires.nothing c.requires.no_session);
      room = c.requires.room;
      few = omega (arith, ap (λ (all : List Told). length all) c.requires.no_session, few_sessions c.args.statements.now, c.requires.few);
      spawner_kept = refl;
      starts = none_more 0 (thread_count c.args.run.now) (g.W.Spawner.calls c.args.spawner.now) (omega (arith, c.requires.no_looper, ap (λ (all : List Told). length all) c.requires.no_session));
      running = c.requires.running;
      closed = ap (list_all (λ (told : Told). is_some told.1)) c.requires.no_session;
      apps = refl;
    }

pub step-requires-clause-few : goal.step-requires-clause-few
step-requires-clause-few g c =
    let i = c.loop-statement.statement-index in
    let s = c.statement-item.result in
    let at = at_index c.args.statements.now i s c.loop-statement-test.true c.statement-item.is in
    omega (arith, next_few all_sessions_in c.args.statements.now i s (session_count c.loop-statement.run) statement_limit at c.loop-statement.invariant.few)

pub step-requires-clause-room : goal.step-requires-clause-room
step-requires-clause-room g c =
    let i = c.loop-statement.statement-index in
    let s = c.statement-item.result in
    let at = at_index c.args.statements.now i s c.loop-statement-test.true c.statement-item.is in
    let kept = c.loop-statement.gathered in
    let room = c.loop-statement.invariant.room in
    let there : HasRoom (lines_of (statement_seen s)) kept = record {
      outcomes = omega (arith, next_few (λ (ss : List Statement). lines_in (statements_seen ss)) c.args.statements.now i s (length kept.outcomes.items) (vec_capacity kept.outcomes) at room.outcomes);
      tolds = omega (arith, next_few (λ (ss : List Statement). lines_in (statements_seen ss)) c.args.statements.now i s (length kept.tolds.items) (vec_capacity kept.tolds) at room.tolds);
    } in
    λ lives outlive. there

pub loop-statement-preserved : goal.loop-statement-preserved
loop-statement-preserved g c =
    let apps = c.args.run.now.apps.items in
    let statements = c.args.statements.now in
    let was = c.loop-statement in
    let inv = was.invariant in
    let i = was.statement-index in
    let s = c.statement-item.result in
    let told = c.in_ok-step.ensures in
    let r = was.run in
    let r' = c.step.new.run in
    let k = gathered_seen was.gathered in
    let k' = gathered_seen c.step.new.gathered in
    let same : r.apps.items ≡ apps = ap (λ (v : Vec AppText Global). v.items) inv.apps in
    let at : slice_get statements i ≡ Some s = at_index statements i s c.loop-statement-test.true c.statement-item.is in
    let old = g.K.Sink.written c.args.sink.now in
    let mid = g.K.Sink.written was.sink in
    let new = g.K.Sink.written c.step.new.sink in
    let f0 = g.K.Sink.faults c.args.sink.now in
    let f1 = g.K.Sink.faults was.sink in
    let f2 = g.K.Sink.faults c.step.new.sink in
    let on = subst (λ (xs : List AppText). HasStepped xs s k k' r r' mid new (Rose f1 f2) (f2 ≡ f1) (Ok c.in_ok-step.field-0)) same told.stepped in
    let done = play_goes_on apps statements s k k' i r r' old mid new (f1 ≡ f0) (f2 ≡ f0) inv.so_far at (Rose f1 f2) (f2 ≡ f1) (λ one two. two ∙ one) on in
    record {
      so_far = done;
      room = record {
        outcomes = omega (
          arith,
          next_few (λ (ss : List Statement). lines_in (statements_seen ss)) statements i s (length k.outcomes) (vec_capacity was.gathered.outcomes) at inv.room.outcomes,
          pushed_at_most s on,
          ap (λ (x : GatheredData). length x.outcomes) on.gathered,
          length-append k.outcomes on.part.outcomes,
          told.kept.outcomes,
        );
        tolds = omega (
          arith,
          next_few (λ (ss : List Statement). lines_in (statements_seen ss)) statements i s (length k.tolds) (vec_capacity was.gathered.tolds) at inv.room.tolds,
          told_at_most s on,
          ap (λ (x : GatheredData). length x.tolds) on.gathered,
          length-append k.tolds on.part.tolds,
          told.kept.tolds,
        );
      };
      few = omega (arith, next_few all_sessions_in statements i s (session_count r) statement_limit at inv.few, on.sessions.count, as_many_sessions s on);
      spawner_kept = told.spawner_kept (λ bad. absurd bad) ∙ inv.spawner_kept;
      starts = starts_then 0 (thread_count r) (thread_count r') (g.W.Spawner.calls c.args.spawner.now) (g.W.Spawner.calls was.spawner) (g.W.Spawner.calls c.step.new.spawner) inv.starts (told.starts (λ bad. absurd bad));
      running = told.running;
      closed = told.closed;
      apps = told.apps ∙ inv.apps;
    }

pub returns-in_err-step-clause-played : goal.returns-in_err-step-clause-played
returns-in_err-step-clause-played g c =
    let p = err_from_is_err_and c.from_residual.result c.from_residual.ensures.1 in
    let apps = c.args.run.now.apps.items in
    let statements = c.args.statements.now in
    let was = c.loop-statement in
    let inv = was.invariant in
    let i = was.statement-index in
    let s = c.statement-item.result in
    let r = was.run in
    let r' = c.step.new.run in
    let k = gathered_seen was.gathered in
    let k' = gathered_seen c.step.new.gathered in
    let same : r.apps.items ≡ apps = ap (λ (v : Vec AppText Global). v.items) inv.apps in
    let at : slice_get statements i ≡ Some s = at_index statements i s c.loop-statement-test.true c.statement-item.is in
    let old = g.K.Sink.written c.args.sink.now in
    let mid = g.K.Sink.written was.sink in
    let new = g.K.Sink.written c.step.new.sink in
    let f0 = g.K.Sink.faults c.args.sink.now in
    let f1 = g.K.Sink.faults was.sink in
    let f2 = g.K.Sink.faults c.step.new.sink in
    let has = subst (λ (xs : List AppText). HasStepped xs s k k' r r' mid new (Rose f1 f2) (f2 ≡ f1) {A = Unit {0}} (Err c.in_err-step.field-0.0)) same c.in_err-step.ensures.stepped in
    let calls = g.W.Spawner.calls c.args.spawner.now in
    let calls' = g.W.Spawner.calls c.step.new.spawner in
    let starts = starts_by c.in_err-step.field-0.0 s (thread_count r) (thread_count r') calls (g.W.Spawner.calls was.spawner) calls' inv.starts c.in_err-step.ensures.starts c.in_err-step.ensures.stops_starting in
    rw (p.1, p.2) (play_stops apps statements s k k' i r r' old mid new (f1 ≡ f0) (f2 ≡ f0) inv.so_far at (Rose f1 f2) (Rose f0 f2) (f2 ≡ f1) (λ rose. subst (λ (n : ℕ). Rose n f2) inv.so_far.sink rose) (λ one two. two ∙ one) c.in_err-step.field-0.0 calls calls' starts
    (counted_so_far apps inv.so_far.parts r inv.running same inv.so_far.done_so inv.so_far.sessions) has)

pub returns-clause-played : goal.returns-clause-played
returns-clause-played g c =
    let was = c.loop-statement in
    let statements = c.args.statements.now in
    let f0 = g.K.Sink.faults c.args.sink.now in
    let f1 = g.K.Sink.faults was.sink in
    let old = g.K.Sink.written c.args.sink.now in
    let new = g.K.Sink.written was.sink in
    let all : was.statement-index ≡ length statements = omega (arith, c.loop-statement-test.false, was.auto.statement-index-end) in
    play_ends c.args.run.now.apps.items statements tt (gathered_seen was.gathered) was.run old new (Rose f0 f1) (f1 ≡ f0) (g.W.Spawner.calls c.args.spawner.now) (g.W.Spawner.calls was.spawner) was.invariant.starts
    (subst (λ (n : ℕ). IsPlayedSoFar c.args.run.now.apps.items statements (gathered_seen was.gathered) n was.run old new (f1 ≡ f0)) all was.invariant.so_far)
