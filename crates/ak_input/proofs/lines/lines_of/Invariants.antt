-- The lines so far, the piece that is begun and those to come are all.
use Rattle.std.proofs.Common.{◌≡◌, ◌+◌, ◌≤◌, drop}
use Rattle.ak_input.specs.Lines.{lines_behind, lines_from, pieces_of}
use Rattle.ak_input.proofs.PieceLoop.{onto_front, at}
use Rattle.ak_input.proofs.lines.lines_of.Given as goal

abbrev pub invariant-loop-i : goal.invariant-loop-i
invariant-loop-i l =
    record {
      so_far : lines_behind l.lines.items (lines_from l.number (onto_front (at l.input l.from l.i) (pieces_of (drop l.i l.input)))) ≡ lines_from 1 (pieces_of l.input);
      within : l.from ≤ l.i;
      number : l.number ≤ l.i + 1;
    }
