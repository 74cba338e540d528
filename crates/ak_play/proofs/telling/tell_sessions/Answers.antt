use Rattle.std.proofs.Common.{◌≡◌, List, [], ◌∷◌, ◌++◌, map, take, drop, take_all, Err, ◌+◌, refl, sym, ap, ◌∙◌, subst, arith}
use Rattle.std.proofs.lemmas.Result.{err_from_is_err_and}
use Rattle.std.specs.Io.KnownBytes.{Appends}
use Rattle.ak_print.specs.declared.told.Told.{Told}
use Rattle.ak_block.specs.declared.blocks.Heard.{Heard}
use Rattle.ak_block.specs.Together.{part_of}
use Rattle.ak_play.specs.Parts.{session_tolds}
use Rattle.ak_play.specs.Play.{text_of}
use Rattle.ak_play.specs.Steps.{HasWrittenAll}
use Rattle.ak_play.proofs.Playing.{Appends-nothing}
use Rattle.ak_play.proofs.Texts.{lines_on, lines_stop, split_at, taken_next, tolds-append, tolds_of_one}
use Rattle.ak_play.proofs.telling.tell_sessions.Goals as goal

-- the lines of the sessions up to one of them
up_to : (hs : List Heard) (h : Heard) → session_tolds (map part_of (hs ++ h ∷ [])) ≡ session_tolds (map part_of hs) ++ h.tolds.items
up_to hs h = tolds-append hs (h ∷ []) ∙ ap (λ (l : List Told). session_tolds (map part_of hs) ++ l) (tolds_of_one h)

-- and those behind it
around : (hs after : List Heard) (h : Heard) → session_tolds (map part_of (hs ++ (h ∷ [] ++ after))) ≡ session_tolds (map part_of hs) ++ (h.tolds.items ++ session_tolds (map part_of after))
around hs after h = tolds-append hs (h ∷ after)

pub loop-part-init : goal.loop-part-init
loop-part-init g c = record { written = Appends-nothing (g.K.Sink.written c.args.sink.now); kept = refl }

pub loop-part-preserved : goal.loop-part-preserved
loop-part-preserved g c =
    let i = c.loop-part.part-index in
    let heard = c.args.heard.now in
    let part = c.part-item.result in
    let before = session_tolds (map part_of (take i heard)) in
    let old = g.K.Sink.written c.args.sink.now in
    let mid = g.K.Sink.written c.loop-part.sink in
    let new = g.K.Sink.written c.tell_all.new.sink in
    let next = ap (λ (hs : List Heard). session_tolds (map part_of hs)) (taken_next heard i part c.loop-part-test.true c.part-item.is) ∙ up_to (take i heard) part in
    let told = subst (λ (l : List Told). Appends mid new (text_of l)) c.as_slice.ensures.value c.in_ok-tell_all.ensures.written in
    record {
      written = subst (λ (l : List Told). Appends old new (text_of l)) (sym next) (lines_on before part.tolds.items old mid new c.loop-part.invariant.written told);
      kept = c.in_ok-tell_all.ensures.kept (λ bad. absurd (cc bad)) ∙ c.loop-part.invariant.kept;
    }

pub returns-in_err-tell_all-clause-written : goal.returns-in_err-tell_all-clause-written
returns-in_err-tell_all-clause-written g c =
    let p = err_from_is_err_and c.from_residual.result c.from_residual.ensures.1 in
    let i = c.loop-part.part-index in
    let heard = c.args.heard.now in
    let part = c.part-item.result in
    let before = session_tolds (map part_of (take i heard)) in
    let after = drop (i + 1) heard in
    let old = g.K.Sink.written c.args.sink.now in
    let mid = g.K.Sink.written c.loop-part.sink in
    let new = g.K.Sink.written c.tell_all.new.sink in
    let why = c.in_err-tell_all.field-0.0 in
    let whole = ap (λ (hs : List Heard). session_tolds (map part_of hs)) (split_at heard i part c.loop-part-test.true c.part-item.is) ∙ around (take i heard) after part in
    let told = subst (λ (l : List Told). HasWrittenAll {A = Unit {0}} (Err why) l mid new) c.as_slice.ensures.value c.in_err-tell_all.ensures.written in
    let stopped = lines_stop before part.tolds.items old mid new c.loop-part.invariant.written (session_tolds (map part_of after)) why told in
    rw (p.1, p.2) (subst (λ (l : List Told). HasWrittenAll {A = Unit {0}} (Err why) l old new) (sym whole) stopped)

pub returns-clause-written : goal.returns-clause-written
returns-clause-written g c =
    let i = c.loop-part.part-index in
    let heard = c.args.heard.now in
    subst (λ (hs : List Heard). Appends (g.K.Sink.written c.args.sink.now) (g.K.Sink.written c.loop-part.sink) (text_of (session_tolds (map part_of hs)))) (take_all i heard (omega (arith, c.loop-part-test.false))) c.loop-part.invariant.written
