use Rattle.std.proofs.Common.{◌≡◌}
use Rattle.ak_kit.proofs.Gathering.{IsGathered}
use Rattle.ak_kit.proofs.journal.put_entries.Given as goal

abbrev pub invariant-loop-entry : goal.invariant-loop-entry
invariant-loop-entry g l = IsGathered (g.K.Sink.written l.fn.sink) (g.K.Sink.written l.sink) l.entries l.entry-index l.lines × (g.K.Sink.faults l.sink ≡ g.K.Sink.faults l.fn.sink)
