-- The lines so far are written.
use Rattle.std.proofs.Common.{◌≡◌, take}
use Rattle.std.specs.Io.KnownBytes.{Appends}
use Rattle.ak_play.specs.Play.{text_of}
use Rattle.ak_play.proofs.telling.tell_all.Given as goal

abbrev pub invariant-loop-told : goal.invariant-loop-told
invariant-loop-told g l = record {
  written : Appends (g.K.Sink.written l.fn.sink) (g.K.Sink.written l.sink) (text_of (take l.told-index l.tolds));
  kept : g.K.Sink.faults l.sink ≡ g.K.Sink.faults l.fn.sink;
}
