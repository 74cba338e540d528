-- What stands before the mark is so much of the text, and what is left of it.
use Rattle.std.proofs.Common.{◌≡◌, ◌++◌, take, drop}
use Rattle.ak_journal.specs.Parting.{before, behind}
use Rattle.ak_journal.proofs.reading.words.cut_at.Given as goal

abbrev pub invariant-loop-place : goal.invariant-loop-place
invariant-loop-place l = record {
  front : take l.place l.text ++ before l.mark (drop l.place l.text) ≡ before l.mark l.text;
  rest : behind l.mark (drop l.place l.text) ≡ behind l.mark l.text;
}
