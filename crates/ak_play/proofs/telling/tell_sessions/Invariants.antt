-- The lines of the sessions so far are written.
use Rattle.std.proofs.Common.{◌≡◌, map, take}
use Rattle.std.specs.Io.KnownBytes.{Appends}
use Rattle.ak_block.specs.Together.{part_of}
use Rattle.ak_play.specs.Parts.{session_tolds}
use Rattle.ak_play.specs.Play.{text_of}
use Rattle.ak_play.proofs.telling.tell_sessions.Given as goal

abbrev pub invariant-loop-part : goal.invariant-loop-part
invariant-loop-part g l = record {
  written : Appends (g.K.Sink.written l.fn.sink) (g.K.Sink.written l.sink) (text_of (session_tolds (map part_of (take l.part-index l.heard))));
  kept : g.K.Sink.faults l.sink ≡ g.K.Sink.faults l.fn.sink;
}
