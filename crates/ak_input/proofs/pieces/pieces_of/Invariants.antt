-- The pieces so far, the one that is begun and those to come are all.
use Rattle.std.proofs.Common.{◌≡◌, ◌≤◌, drop}
use Rattle.std.specs.Prelude.{map}
use Rattle.ak_input.specs.Marks.{start}
use Rattle.ak_input.specs.Pieces.{pieces_from}
use Rattle.ak_input.specs.ReadSeen.{seen}
use Rattle.ak_input.proofs.PieceLoop.{pieces_behind, at}
use Rattle.ak_input.proofs.pieces.pieces_of.Given as goal

abbrev pub invariant-loop-i : goal.invariant-loop-i
invariant-loop-i l =
    record {
      so_far : pieces_behind (map seen l.pieces.items) (at l.text l.from l.i) (pieces_from l.by l.marks (drop l.i l.text)) ≡ pieces_from l.by start l.text;
      within : l.from ≤ l.i;
      braces : l.marks.braces ≤ l.i;
      brackets : l.marks.brackets ≤ l.i;
    }
