use Rattle.std.proofs.Common.{All, subst, sym}
use Rattle.ak_journal.specs.Plain.{IsPlain}
use Rattle.ak_kit.specs.Journal.{HasWrittenEntries}
use Rattle.ak_kit.specs.Untold.{lines_told}
use Rattle.ak_kit.proofs.Gathering.{head_and_entries, head_cut}
use Rattle.ak_kit.proofs.journal.put_journal.Goals as goal

pub returns-in_err-write_all-clause-written : goal.returns-in_err-write_all-clause-written
returns-in_err-write_all-clause-written g c =
    head_cut c.from_residual-in_err-write_all.result c.args.histories.now c.in_ok-entries.entries.items (g.K.Sink.written c.args.sink.now) (g.K.Sink.written c.write_all.new.sink) c.in_ok-entries.ensures
    c.from_residual-in_err-write_all.ensures.1
    c.in_err-write_all.ensures.err

pub returns-clause-written : goal.returns-clause-written
returns-clause-written g c =
    head_and_entries (lines_told c.put_entries.result) c.args.histories.now c.in_ok-entries.entries.items (g.K.Sink.written c.args.sink.now) (g.K.Sink.written c.write_all.new.sink) (g.K.Sink.written c.put_entries.new.sink)
    c.in_ok-entries.ensures
    c.in_ok-write_all.ensures.ok
    (subst (λ entries. HasWrittenEntries entries (lines_told c.put_entries.result) (g.K.Sink.written c.write_all.new.sink) (g.K.Sink.written c.put_entries.new.sink)) c.as_slice.ensures.value c.put_entries.ensures.written)

pub put_entries-requires : goal.put_entries-requires
put_entries-requires g c = subst (All IsPlain) (sym c.as_slice.ensures.value) (c.merged_is_plain.ensures c.args.histories.now c.in_ok-entries.entries.items c.in_ok-entries.ensures c.requires)
