use Rattle.std.proofs.Common.{List, [], ◌∷◌, take, drop, take_all, Ok, Err, ◌+◌, refl, sym, ◌∙◌, subst, arith}
use Rattle.std.proofs.lemmas.Result.{err_from_is_err_and}
use Rattle.std.specs.Io.KnownBytes.{Appends}
use Rattle.ak_print.specs.declared.told.Told.{Told}
use Rattle.ak_play.specs.Play.{text_of}
use Rattle.ak_play.specs.Steps.{HasWrittenAll}
use Rattle.ak_play.proofs.Playing.{Appends-nothing}
use Rattle.ak_play.proofs.Texts.{lines_on, lines_stop, one_written, split_at, taken_next}
use Rattle.ak_play.proofs.telling.tell_all.Goals as goal

pub loop-told-init : goal.loop-told-init
loop-told-init g c = record { written = Appends-nothing (g.K.Sink.written c.args.sink.now); kept = refl }

pub loop-told-preserved : goal.loop-told-preserved
loop-told-preserved g c =
    let i = c.loop-told.told-index in
    let tolds = c.args.tolds.now in
    let told = c.told-item.result in
    let old = g.K.Sink.written c.args.sink.now in
    let mid = g.K.Sink.written c.loop-told.sink in
    let new = g.K.Sink.written c.tell.new.sink in
    let next = taken_next tolds i told c.loop-told-test.true c.told-item.is in
    record {
      written = subst (λ (l : List Told). Appends old new (text_of l)) (sym next)
          (lines_on (take i tolds) (told ∷ []) old mid new c.loop-told.invariant.written (one_written (Ok c.in_ok-tell.field-0) told mid new c.in_ok-tell.ensures.written));
      kept = c.in_ok-tell.ensures.kept (λ bad. absurd (cc bad)) ∙ c.loop-told.invariant.kept;
    }

pub returns-in_err-tell-clause-written : goal.returns-in_err-tell-clause-written
returns-in_err-tell-clause-written g c =
    let p = err_from_is_err_and c.from_residual.result c.from_residual.ensures.1 in
    let i = c.loop-told.told-index in
    let tolds = c.args.tolds.now in
    let told = c.told-item.result in
    let old = g.K.Sink.written c.args.sink.now in
    let mid = g.K.Sink.written c.loop-told.sink in
    let new = g.K.Sink.written c.tell.new.sink in
    let why = c.in_err-tell.field-0.0 in
    let whole = split_at tolds i told c.loop-told-test.true c.told-item.is in
    let stopped = lines_stop (take i tolds) (told ∷ []) old mid new c.loop-told.invariant.written (drop (i + 1) tolds) why (one_written (Err why) told mid new c.in_err-tell.ensures.written) in
    rw (p.1, p.2) (subst (λ (l : List Told). HasWrittenAll {A = Unit {0}} (Err why) l old new) (sym whole) stopped)

pub returns-clause-written : goal.returns-clause-written
returns-clause-written g c =
    let i = c.loop-told.told-index in
    let tolds = c.args.tolds.now in
    subst (λ (l : List Told). Appends (g.K.Sink.written c.args.sink.now) (g.K.Sink.written c.loop-told.sink) (text_of l)) (take_all i tolds (omega (arith, c.loop-told-test.false))) c.loop-told.invariant.written
