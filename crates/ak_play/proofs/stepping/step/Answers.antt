-- What a statement came to, and how much of its line was written.
use Rattle.std.proofs.Common.{◌≡◌, Ok, Err, refl, sym, subst, arith}
use Rattle.std.proofs.lemmas.Result.{err_from_is_err_and}
use Rattle.ak_outside.specs.Faults.{Rose}
use Rattle.ak_play.specs.Gathered.{GatheredData, gathered_seen}
use Rattle.ak_play.specs.Steps.{HasStepped, stop_untold}
use Rattle.ak_play.proofs.Blocks.{main_stepped, main_stopped, one_line, still_alone}
use Rattle.ak_play.proofs.stepping.step.Goals as goal

pub push-requires : goal.push-requires
push-requires g c =
    let s = c.args.statement.now in
    let one = one_line s (still_alone s c.in_default.not-Together) in
    record { room = record { outcomes = omega (arith, one, c.requires.room.outcomes); tolds = omega (arith, one, c.requires.room.tolds) } }

pub returns-clause-stepped : goal.returns-clause-stepped
returns-clause-stepped g c =
    let r = c.args.run.now in
    let apps = r.apps.items in
    let s = c.args.statement.now in
    let k = gathered_seen c.args.gathered.now in
    let came = c.in_ok-came.came in
    let did = c.in_ok-came.ensures in
    let old = g.K.Sink.written c.args.sink.now in
    let new = g.K.Sink.written c.tell-told.new.sink in
    let f0 = g.K.Sink.faults c.args.sink.now in
    let f1 = g.K.Sink.faults c.tell-told.new.sink in
    let told = c.in_ok-told.ensures in
    let stepped = main_stepped apps s (still_alone s c.in_default.not-Together) k r c.carry_out.new.run old new (Rose f0 f1) (f1 ≡ f0) did.sessions came (Ok c.in_ok-told.field-0) did.did told.written told.cause told.kept in
    subst (λ (x : GatheredData). HasStepped apps s k x r c.carry_out.new.run old new (Rose f0 f1) (f1 ≡ f0) (Ok c.in_ok-told.field-0)) (sym c.push.ensures.seen) stepped

pub returns-in_err-told-clause-stepped : goal.returns-in_err-told-clause-stepped
returns-in_err-told-clause-stepped g c =
    let p = err_from_is_err_and c.from_residual-in_err-told.result c.from_residual-in_err-told.ensures.1 in
    let r = c.args.run.now in
    let apps = r.apps.items in
    let s = c.args.statement.now in
    let k = gathered_seen c.args.gathered.now in
    let came = c.in_ok-came.came in
    let did = c.in_ok-came.ensures in
    let old = g.K.Sink.written c.args.sink.now in
    let new = g.K.Sink.written c.tell-told.new.sink in
    let f0 = g.K.Sink.faults c.args.sink.now in
    let f1 = g.K.Sink.faults c.tell-told.new.sink in
    let told = c.in_err-told.ensures in
    let why = c.in_err-told.field-0.0 in
    let stepped = main_stepped apps s (still_alone s c.in_default.not-Together) k r c.carry_out.new.run old new (Rose f0 f1) (f1 ≡ f0) did.sessions came (Err why) did.did told.written told.cause told.kept in
    rw (p.1, p.2) (subst (λ (x : GatheredData). HasStepped apps s k x r c.carry_out.new.run old new (Rose f0 f1) (f1 ≡ f0) {A = Unit {0}} (Err (stop_untold why))) (sym c.push.ensures.seen) stepped)

pub returns-in_err-came-clause-stepped : goal.returns-in_err-came-clause-stepped
returns-in_err-came-clause-stepped g c =
    let p = err_from_is_err_and c.from_residual.result c.from_residual.ensures.1 in
    let r = c.args.run.now in
    let did = c.in_err-came.ensures in
    let k = gathered_seen c.args.gathered.now in
    let given = g.K.Sink.written c.args.sink.now in
    let faults = g.K.Sink.faults c.args.sink.now in
    rw (p.1, p.2) (main_stopped r.apps.items c.args.statement.now k k r c.carry_out.new.run given (Rose faults faults) (faults ≡ faults) did.sessions refl refl
    c.in_err-came.field-0.0 did.did.steps did.did.so did.did.does did.lines)
