-- What came so far is in `bytes`, and with the room that is left it is one more than the limit.
use Rattle.std.proofs.Common.{◌≡◌, ◌+◌, length}
use Rattle.std.specs.Io.KnownBytes.{Consumes}
use Rattle.ak_outside.proofs.reading.read_all.Given as goal

abbrev pub invariant-loop-room : goal.invariant-loop-room
invariant-loop-room g l = record {
  consumed : Consumes (g.S.Source.left l.fn.source) (g.S.Source.left l.source) l.bytes;
  counted : length l.bytes + l.room ≡ l.limit + 1;
  kept : g.S.Source.faults l.source ≡ g.S.Source.faults l.fn.source;
}

abbrev pub decreases-loop-room : goal.decreases-loop-room
decreases-loop-room g l = l.room
