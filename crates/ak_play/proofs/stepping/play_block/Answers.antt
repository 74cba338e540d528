-- What a block came to, and how much of its lines was written.
use Rattle.std.proofs.Common.{◌≡◌, List, [], length, map, Ok, Err, refl, sym, ap, ◌∙◌, subst, arith}
use Rattle.std.specs.Prelude.{Result}
use Rattle.std.proofs.lemmas.Result.{err_from_is_err_and}
use Rattle.ak_outside.specs.Faults.{Rose}
use Rattle.ak_describe.specs.Whole.{heads_of}
use Rattle.ak_run.specs.Sessions.{sessions_of}
use Rattle.ak_run.specs.Starts.{StartsMore, thread_count}
use Rattle.ak_run.proofs.Surface.{none_more}
use Rattle.ak_run.specs.declared.run.Run.{Run}
use Rattle.ak_script.specs.declared.statement.Statement.TheVariants as statement
use Rattle.ak_block.specs.declared.blocks.Cut.{Cut}
use Rattle.ak_block.specs.declared.blocks.Cut.TheVariants as cut
use Rattle.ak_block.specs.declared.blocks.Heard.{Heard}
use Rattle.ak_block.specs.Together.{HasRunBlock, part_of}
use Rattle.ak_play.specs.declared.stop.Stop.TheVariants as stop
use Rattle.ak_play.specs.Gathered.{GatheredData, gathered_seen}
use Rattle.ak_play.specs.Parts.{session_tolds}
use Rattle.ak_play.specs.Steps.{HasWrittenAll, stop_untold}
use Rattle.ak_play.proofs.Blocks.{block_kept, block_lacked, block_refused, block_stepped, nothing_done, stopped_short}
use Rattle.ak_play.proofs.Room.{few_heard, few_outcomes_heard, few_tolds_heard}
use Rattle.ak_play.proofs.stepping.play_block.Goals as goal

-- which cut it is
cut_is : (came : Result (Unit {0}) Cut) (x y : Cut) → came ≡ Err x → x ≡ y → came ≡ Err y
cut_is came x y is same = is ∙ ap (λ (z : Cut). Err z) same

pub returns-in_err-make_room-clause-stepped : goal.returns-in_err-make_room-clause-stepped
returns-in_err-make_room-clause-stepped g c =
    let p = err_from_is_err_and c.from_residual.result c.from_residual.ensures.1 in
    let r = c.args.run.now in
    let given = g.K.Sink.written c.args.sink.now in
    let faults = g.K.Sink.faults c.args.sink.now in
    rw (p.1, p.2) (stopped_short r.apps.items (statement.Together c.args.block.now) (gathered_seen c.args.gathered.now) (gathered_seen c.make_room.new.self) r r given (Rose faults faults) (faults ≡ faults) refl
    c.in_err-make_room.ensures.seen refl [] refl (nothing_done r r refl))

pub returns-in_err-heard-clause-stepped : goal.returns-in_err-heard-clause-stepped
returns-in_err-heard-clause-stepped g c =
    let p = err_from_is_err_and c.from_residual-in_err-heard.result c.from_residual-in_err-heard.ensures.1 in
    let r = c.args.run.now in
    let r' = c.together.new.run in
    let same = c.in_err-heard.ensures.nothing in
    let given = g.K.Sink.written c.args.sink.now in
    let faults = g.K.Sink.faults c.args.sink.now in
    rw (p.1, p.2) (stopped_short r.apps.items (statement.Together c.args.block.now) (gathered_seen c.args.gathered.now) (gathered_seen c.make_room.new.self) r r' given (Rose faults faults) (faults ≡ faults)
    (ap (λ (x : Run). sessions_of x) same) c.in_ok-make_room.ensures.seen refl [] refl (nothing_done r r' same))

pub push_sessions-requires : goal.push_sessions-requires
push_sessions-requires g c =
    let r = c.args.run.now in
    let t = c.args.block.now in
    let heads = heads_of r.apps.items in
    let ran = c.in_ok-heard.ensures.ran in
    let made = c.in_ok-make_room.ensures in
    let few = few_heard heads t ran in
    record {
      numbers = omega (arith, c.sessions-from.ensures, few, c.requires.few);
      room = record {
        outcomes = omega (arith, few_outcomes_heard heads t ran, ap (λ (k : GatheredData). length k.outcomes) made.seen, made.kept.outcomes, c.requires.room.outcomes);
        tolds = omega (arith, few_tolds_heard heads t ran, ap (λ (k : GatheredData). length k.tolds) made.seen, made.kept.tolds, c.requires.room.tolds);
        short = omega (arith, few, ap (λ (k : GatheredData). length k.short) made.seen, made.room, c.len.ensures, t.sessions.ok.0);
      };
    }

pub returns-in_ok-told-in-Ok-clause-stepped : goal.returns-in_ok-told-in-Ok-clause-stepped
returns-in_ok-told-in-Ok-clause-stepped g c =
    let r = c.args.run.now in
    let r' = c.together.new.run in
    let t = c.args.block.now in
    let heads = heads_of r.apps.items in
    let k = gathered_seen c.args.gathered.now in
    let heard = c.in_ok-heard.heard.items in
    let old = g.K.Sink.written c.args.sink.now in
    let new = g.K.Sink.written c.tell_sessions-told.new.sink in
    let f0 = g.K.Sink.faults c.args.sink.now in
    let f1 = g.K.Sink.faults c.tell_sessions-told.new.sink in
    let told = c.in_ok-told-in-Ok.ensures in
    let written = subst (λ (l : List Heard). HasWrittenAll {A = Unit {0}} (Ok c.in_ok-told-in-Ok.field-0) (session_tolds (map part_of l)) old new) c.as_slice.ensures.value told.written in
    let ran = subst (λ (x : Result (Unit {0}) Cut). HasRunBlock heads t.sessions.items x r r' heard) c.in-Ok.is c.in_ok-heard.ensures.ran in
    block_kept r.apps.items t k (gathered_seen c.make_room.new.self) (gathered_seen c.push_sessions.new.self) r r' heard c.sessions-from.result old new (Rose f0 f1) (f1 ≡ f0) (Ok c.in_ok-told-in-Ok.field-0) c.sessions-from.ensures
    c.in_ok-make_room.ensures.seen c.push_sessions.ensures.seen (block_stepped r.apps.items t k r r' heard old new (Rose f0 f1) (f1 ≡ f0) (Ok c.in_ok-told-in-Ok.field-0) written told.cause told.kept ran)

pub returns-in_err-told-in-Ok-clause-stepped : goal.returns-in_err-told-in-Ok-clause-stepped
returns-in_err-told-in-Ok-clause-stepped g c =
    let p = err_from_is_err_and c.from_residual-in_err-told-in-Ok.result c.from_residual-in_err-told-in-Ok.ensures.1 in
    let r = c.args.run.now in
    let r' = c.together.new.run in
    let t = c.args.block.now in
    let heads = heads_of r.apps.items in
    let k = gathered_seen c.args.gathered.now in
    let heard = c.in_ok-heard.heard.items in
    let old = g.K.Sink.written c.args.sink.now in
    let new = g.K.Sink.written c.tell_sessions-told.new.sink in
    let f0 = g.K.Sink.faults c.args.sink.now in
    let f1 = g.K.Sink.faults c.tell_sessions-told.new.sink in
    let told = c.in_err-told-in-Ok.ensures in
    let why = c.in_err-told-in-Ok.field-0.0 in
    let written = subst (λ (l : List Heard). HasWrittenAll {A = Unit {0}} (Err why) (session_tolds (map part_of l)) old new) c.as_slice.ensures.value told.written in
    let ran = subst (λ (x : Result (Unit {0}) Cut). HasRunBlock heads t.sessions.items x r r' heard) c.in-Ok.is c.in_ok-heard.ensures.ran in
    rw (p.1, p.2) (block_kept r.apps.items t k (gathered_seen c.make_room.new.self) (gathered_seen c.push_sessions.new.self) r r' heard c.sessions-from.result old new (Rose f0 f1) (f1 ≡ f0) (Err (stop_untold why)) c.sessions-from.ensures
    c.in_ok-make_room.ensures.seen c.push_sessions.ensures.seen (block_stepped r.apps.items t k r r' heard old new (Rose f0 f1) (f1 ≡ f0) (Err why) written told.cause told.kept ran))

pub returns-in-Err-NoMemory-clause-stepped : goal.returns-in-Err-NoMemory-clause-stepped
returns-in-Err-NoMemory-clause-stepped g c =
    let r = c.args.run.now in
    let r' = c.together.new.run in
    let t = c.args.block.now in
    let heads = heads_of r.apps.items in
    let k = gathered_seen c.args.gathered.now in
    let heard = c.in_ok-heard.heard.items in
    let old = g.K.Sink.written c.args.sink.now in
    let new = g.K.Sink.written c.tell_sessions-told.new.sink in
    let f0 = g.K.Sink.faults c.args.sink.now in
    let f1 = g.K.Sink.faults c.tell_sessions-told.new.sink in
    let told = c.tell_sessions-told.result in
    let written = subst (λ (l : List Heard). HasWrittenAll told (session_tolds (map part_of l)) old new) c.as_slice.ensures.value c.tell_sessions-told.ensures.written in
    let ran = subst (λ (x : Result (Unit {0}) Cut). HasRunBlock heads t.sessions.items x r r' heard) (cut_is c.in_ok-heard.came c.in-Err-NoMemory.field-0 cut.NoMemory c.in-Err-NoMemory.is (rw c.in-Err-NoMemory.is at c.in-Err-NoMemory.field-0-is)) c.in_ok-heard.ensures.ran in
    block_kept r.apps.items t k (gathered_seen c.make_room.new.self) (gathered_seen c.push_sessions.new.self) r r' heard c.sessions-from.result old new (Rose f0 f1) (f1 ≡ f0) (Err (stop.NoMemory c.lines_told.result)) c.sessions-from.ensures
    c.in_ok-make_room.ensures.seen c.push_sessions.ensures.seen (block_lacked r.apps.items t k r r' heard old new (Rose f0 f1) (f1 ≡ f0) told written c.tell_sessions-told.ensures.cause c.tell_sessions-told.ensures.kept c.lines_told.result c.lines_told.ensures ran)

pub returns-in-Err-ThreadFault-clause-stepped : goal.returns-in-Err-ThreadFault-clause-stepped
returns-in-Err-ThreadFault-clause-stepped g c =
    let r = c.args.run.now in
    let r' = c.together.new.run in
    let t = c.args.block.now in
    let heads = heads_of r.apps.items in
    let k = gathered_seen c.args.gathered.now in
    let heard = c.in_ok-heard.heard.items in
    let old = g.K.Sink.written c.args.sink.now in
    let new = g.K.Sink.written c.tell_sessions-told.new.sink in
    let f0 = g.K.Sink.faults c.args.sink.now in
    let f1 = g.K.Sink.faults c.tell_sessions-told.new.sink in
    let told = c.tell_sessions-told.result in
    let written = subst (λ (l : List Heard). HasWrittenAll told (session_tolds (map part_of l)) old new) c.as_slice.ensures.value c.tell_sessions-told.ensures.written in
    let ran = subst (λ (x : Result (Unit {0}) Cut). HasRunBlock heads t.sessions.items x r r' heard) (cut_is c.in_ok-heard.came c.in-Err-ThreadFault.field-0 cut.ThreadFault c.in-Err-ThreadFault.is (rw c.in-Err-ThreadFault.is at c.in-Err-ThreadFault.field-0-is)) c.in_ok-heard.ensures.ran in
    block_kept r.apps.items t k (gathered_seen c.make_room.new.self) (gathered_seen c.push_sessions.new.self) r r' heard c.sessions-from.result old new (Rose f0 f1) (f1 ≡ f0) (Err (stop.ThreadFault c.lines_told-in-Err-ThreadFault.result)) c.sessions-from.ensures
    c.in_ok-make_room.ensures.seen c.push_sessions.ensures.seen (block_refused r.apps.items t k r r' heard old new (Rose f0 f1) (f1 ≡ f0) told written c.tell_sessions-told.ensures.cause c.tell_sessions-told.ensures.kept c.lines_told-in-Err-ThreadFault.result c.lines_told-in-Err-ThreadFault.ensures ran)

-- ---- no thread was asked for
pub returns-in_err-make_room-clause-starts : goal.returns-in_err-make_room-clause-starts
returns-in_err-make_room-clause-starts g c = λ other. none_more _ _ (g.W.Spawner.calls c.args.spawner.now) refl

pub returns-in_err-heard-clause-starts : goal.returns-in_err-heard-clause-starts
returns-in_err-heard-clause-starts g c =
    let r = c.args.run.now in
    let r' = c.together.new.run in
    let calls = g.W.Spawner.calls c.args.spawner.now in
    λ other. subst (StartsMore (thread_count r) (thread_count r') calls) (sym c.in_err-heard.ensures.not_asked) (none_more (thread_count r) (thread_count r') calls (ap (λ (x : Run). thread_count x) c.in_err-heard.ensures.nothing))
