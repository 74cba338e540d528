-- The words so far and those to come are all.
use Rattle.std.proofs.Common.{◌≡◌, ◌+◌, ◌<◌, drop, None}
use Rattle.std.specs.Prelude.{IfSome}
use Rattle.ak_input.specs.Words.{words_behind, words_from}
use Rattle.ak_input.proofs.words.words_of.Given as goal

abbrev pub invariant-loop-b : goal.invariant-loop-b
invariant-loop-b l =
    record {
      so_far : words_behind l.words.items (words_from l.begun l.column (drop l.b-index l.line)) ≡ words_from None 1 l.line;
      column : l.column ≡ l.b-index + 1;
      braces : IfSome l.begun (λ w. w.marks.braces < l.column);
      brackets : IfSome l.begun (λ w. w.marks.brackets < l.column);
    }
