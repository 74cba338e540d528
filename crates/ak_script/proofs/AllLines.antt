-- Exactly the lines that say statements are read as those.
use Rattle.std.proofs.Common.{◌≡◌, List, [], refl, ap, sym, subst, ◌∙◌, arith}
use Rattle.std.proofs.lemmas.List.Elements.{All-nil}
use Rattle.ak_input.specs.declared.line.Line.{Line}
use Rattle.ak_script.specs.Laws.{IsWholeSession, IsWholeStatement}
use Rattle.ak_script.specs.Pass.{SoFar}
use Rattle.ak_script.specs.Says.{StatementsAreRead, SessionLinesAreRead}
use Rattle.ak_script.specs.SaysLines.{SayAll, behind_script, AreReadTo, SayTo, LinesAreRead}
use Rattle.ak_script.specs.Statement.{StatementData}
use Rattle.ak_script.proofs.ReadingAgain.{all_again}
use Rattle.ak_script.proofs.Taking.{Outside, outside, taken}
use Rattle.ak_script.proofs.Whole.{Sound, sound_lines, few_lines}

sound_first : (d : List Line) → Sound (behind_script d [])
sound_first d = record {
  few = omega arith;
  counted = refl;
  whole = All-nil IsWholeStatement;
  sessions_whole = All-nil IsWholeSession;
  room = omega arith;
}

say_them : StatementsAreRead → SessionLinesAreRead → (d lines : List Line) (t : SoFar) → AreReadTo d lines t → SayTo d lines t
say_them law inner d lines t r =
    let o : Outside d [] lines t = taken law inner d lines t r.ends outside [] tt r.read in
    let same : o.statements ≡ t.statements = sym (ap (λ (s : SoFar). s.statements) o.reaches) in
    record {
      say = subst (SayAll lines) same o.say;
      room = few_lines t (sound_lines lines (behind_script d []) t (sound_first d) r.read);
      reaches = o.reaches ∙ ap (λ (xs : List StatementData). behind_script d xs) same;
    }

read_them : StatementsAreRead → SessionLinesAreRead → (d lines : List Line) (t : SoFar) → SayTo d lines t → AreReadTo d lines t
read_them law inner d lines t s =
    subst (λ (u : SoFar). AreReadTo d lines u) (sym s.reaches)
    (record { read = all_again law inner d [] lines t.statements s.say s.room; ends = refl })

pub lines_are_read : StatementsAreRead → SessionLinesAreRead → LinesAreRead
lines_are_read law inner d lines t = (say_them law inner d lines t, read_them law inner d lines t)
