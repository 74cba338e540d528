use Rattle.std.proofs.Common.{◌∙◌, ◌+◌, suc, length, refl, sym, ap, subst, arith}
use Rattle.std.proofs.lemmas.List.Elements.{All-get_or}
use Rattle.std.proofs.lemmas.Option.{slice_get_read}
use Rattle.std.specs.Io.KnownBytes.{Appends}
use Rattle.ak_journal.specs.Plain.{IsPlain}
use Rattle.ak_outside.specs.Sink.{AppendsPart}
use Rattle.ak_kit.proofs.Gathering.{IsGathered, all_written, cut_told, gathered_cut, gathered_written, lacking_told, one_gathered}
use Rattle.ak_kit.proofs.journal.put_entries.Goals as goal
use Rattle.ak_kit.proofs.journal.put_entries.Goals.{then-len-ge-PIECE+in_ok-write_all, else-len-ge-PIECE}

pub returns-in_err-write_all-clause-written : goal.returns-in_err-write_all-clause-written
returns-in_err-write_all-clause-written g c =
    let there = slice_get_read c.args.entries.now (length c.args.entries.now) c.loop-entry.entry-index c.entry-item.result refl c.loop-entry-test.true c.entry-item.is in
    let plain = subst IsPlain (sym c.entry-item.is) (All-get_or IsPlain c.args.entries.now c.loop-entry.entry-index c.entry-item.result c.loop-entry-test.true c.requires) in
    let legible = (c.plain_is_legible.ensures c.entry-item.result).1 (plain, c.in_ok-put_line.ensures.typed) in
    let gathered =
    one_gathered (g.K.Sink.written c.args.sink.now) (g.K.Sink.written c.loop-entry.sink) c.args.entries.now c.loop-entry.entry-index (suc c.loop-entry.entry-index) c.entry-item.result c.loop-entry.lines c.put_line.new.lines
    refl there legible c.in_ok-put_line.ensures.line c.loop-entry.invariant.0
    in
    let part = subst (AppendsPart (g.K.Sink.written c.loop-entry.sink) (g.K.Sink.written c.write_all.new.sink)) c.as_slice.ensures c.in_err-write_all.ensures.err in
    cut_told c.from_residual-in_err-write_all.result c.args.entries.now (g.K.Sink.written c.args.sink.now) (g.K.Sink.written c.write_all.new.sink) c.from_residual-in_err-write_all.ensures.1
    (gathered_cut (g.K.Sink.written c.args.sink.now) (g.K.Sink.written c.loop-entry.sink) c.args.entries.now (suc c.loop-entry.entry-index) c.put_line.new.lines (g.K.Sink.written c.write_all.new.sink) gathered part)

pub loop-entry-preserved : goal.loop-entry-preserved
loop-entry-preserved g c =
    let there = slice_get_read c.args.entries.now (length c.args.entries.now) c.loop-entry.entry-index c.entry-item.result refl c.loop-entry-test.true c.entry-item.is in
    let plain = subst IsPlain (sym c.entry-item.is) (All-get_or IsPlain c.args.entries.now c.loop-entry.entry-index c.entry-item.result c.loop-entry-test.true c.requires) in
    let legible = (c.plain_is_legible.ensures c.entry-item.result).1 (plain, c.in_ok-put_line.ensures.typed) in
    let gathered =
    one_gathered (g.K.Sink.written c.args.sink.now) (g.K.Sink.written c.loop-entry.sink) c.args.entries.now c.loop-entry.entry-index (c.loop-entry.entry-index + 1) c.entry-item.result c.loop-entry.lines c.put_line.new.lines
    (omega (arith)) there legible c.in_ok-put_line.ensures.line c.loop-entry.invariant.0
    in
    elim c.if-len-ge-PIECE.branch [
      | then-len-ge-PIECE+in_ok-write_all w ↦
          let more = subst (Appends (g.K.Sink.written c.loop-entry.sink) (g.K.Sink.written w.write_all.new.sink)) w.as_slice.ensures w.in_ok-write_all.ensures.ok in
          let written = gathered_written (g.K.Sink.written c.args.sink.now) (g.K.Sink.written c.loop-entry.sink) c.args.entries.now (c.loop-entry.entry-index + 1) c.put_line.new.lines (g.K.Sink.written w.write_all.new.sink) gathered more in (
            subst (λ s. IsGathered (g.K.Sink.written c.args.sink.now) (g.K.Sink.written s) c.args.entries.now (c.loop-entry.entry-index + 1) c.if-len-ge-PIECE.lines) (sym w.sink-is)
                (subst (λ ls. IsGathered (g.K.Sink.written c.args.sink.now) (g.K.Sink.written w.write_all.new.sink) c.args.entries.now (c.loop-entry.entry-index + 1) ls) (sym (w.lines-is ∙ w.clear.ensures)) written),
            ap g.K.Sink.faults w.sink-is ∙ w.in_ok-write_all.ensures.kept ∙ c.loop-entry.invariant.1,
          )
      | else-len-ge-PIECE w ↦ (
        subst (λ s. IsGathered (g.K.Sink.written c.args.sink.now) (g.K.Sink.written s) c.args.entries.now (c.loop-entry.entry-index + 1) c.if-len-ge-PIECE.lines) (sym w.sink-is)
            (subst (λ ls. IsGathered (g.K.Sink.written c.args.sink.now) (g.K.Sink.written c.loop-entry.sink) c.args.entries.now (c.loop-entry.entry-index + 1) ls) (sym w.lines-is) gathered),
        ap g.K.Sink.faults w.sink-is ∙ c.loop-entry.invariant.1,
      )
    ]

pub returns-in_err-write_all-2-clause-written : goal.returns-in_err-write_all-2-clause-written
returns-in_err-write_all-2-clause-written g c =
    let part = subst (AppendsPart (g.K.Sink.written c.loop-entry.sink) (g.K.Sink.written c.write_all-2.new.sink)) c.as_slice-2.ensures c.in_err-write_all-2.ensures.err in
    cut_told c.from_residual-in_err-write_all-2.result c.args.entries.now (g.K.Sink.written c.args.sink.now) (g.K.Sink.written c.write_all-2.new.sink) c.from_residual-in_err-write_all-2.ensures.1
    (gathered_cut (g.K.Sink.written c.args.sink.now) (g.K.Sink.written c.loop-entry.sink) c.args.entries.now c.loop-entry.entry-index c.loop-entry.lines (g.K.Sink.written c.write_all-2.new.sink) c.loop-entry.invariant.0 part)

pub returns-in_err-put_line-clause-written : goal.returns-in_err-put_line-clause-written
returns-in_err-put_line-clause-written g c =
    lacking_told c.from_residual.result c.args.entries.now (g.K.Sink.written c.args.sink.now) (g.K.Sink.written c.loop-entry.sink) c.loop-entry.entry-index c.loop-entry.lines c.from_residual.ensures.1
    c.loop-entry-test.true
    c.loop-entry.invariant.0

pub returns-clause-written : goal.returns-clause-written
returns-clause-written g c =
    let more = subst (Appends (g.K.Sink.written c.loop-entry.sink) (g.K.Sink.written c.write_all-2.new.sink)) c.as_slice-2.ensures c.in_ok-write_all-2.ensures.ok in
    all_written (g.K.Sink.written c.args.sink.now) (g.K.Sink.written c.loop-entry.sink) c.args.entries.now c.loop-entry.entry-index c.loop-entry.lines (g.K.Sink.written c.write_all-2.new.sink) c.loop-entry.invariant.0
    c.loop-entry-test.false
    more
