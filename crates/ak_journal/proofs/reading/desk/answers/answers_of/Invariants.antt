-- The answers so far, and then those of the words that are left, are all.
use Rattle.std.proofs.Common.{◌≡◌, drop}
use Rattle.std.specs.List.{AllByRecursion}
use Rattle.ak_journal.specs.Parting.{texts}
use Rattle.ak_journal.specs.Legible.{IsLegibleAnswer}
use Rattle.ak_journal.specs.ReadDesk.{answers_behind, answers_of}
use Rattle.ak_journal.proofs.reading.desk.answers.answers_of.Given as goal

abbrev pub invariant-loop-word : goal.invariant-loop-word
invariant-loop-word l = record {
  read : answers_behind l.answers.items (texts (drop l.word-index l.words)) ≡ answers_of (texts l.words);
  legible : AllByRecursion IsLegibleAnswer l.answers.items;
}
