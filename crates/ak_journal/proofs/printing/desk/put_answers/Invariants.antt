-- What is written, and then what is still to be written, is the whole; the answers are of their types where those that are left are.
use Rattle.std.proofs.Common.{◌≡◌, ◌++◌, drop, map}
use Rattle.std.specs.List.{AllByRecursion}
use Rattle.ak_journal.specs.DeskLine.{answer_text}
use Rattle.ak_journal.specs.Parts.{behind_blanks}
use Rattle.ak_journal.specs.Typed.{IsTypedAnswer}
use Rattle.ak_journal.proofs.printing.desk.put_answers.Given as goal

abbrev pub invariant-loop-answer : goal.invariant-loop-answer
invariant-loop-answer l = record {
  line : l.out ++ behind_blanks (map answer_text (drop l.answer-index l.answers)) ≡ l.fn.out ++ behind_blanks (map answer_text l.answers);
  typed : AllByRecursion IsTypedAnswer (drop l.answer-index l.answers) → AllByRecursion IsTypedAnswer l.answers;
}
