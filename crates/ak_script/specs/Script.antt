-- Which script an input is the text of, or its first refusal.
use Rattle.std.specs.Prelude.{ℕ, List, Option, Some, None, Result, Ok, Err}
use Rattle.ak_base.specs.declared.ending.RefusalKind.TheVariants as refusal
use Rattle.ak_input.specs.declared.lines.InputLines.{InputLines}
use Rattle.ak_input.specs.Lines.{too_long, lines_of}
use Rattle.ak_describe.specs.declared.described.AppText.{AppText}
use Rattle.ak_describe.specs.Description.{description}
use Rattle.ak_describe.specs.Pass.{Refusal, then_read}
use Rattle.ak_script.specs.Pass.{SoFar, first_pass, refused_at}
use Rattle.ak_script.specs.Statement.{StatementData}

-- applications, and what is to be done with them, in order
pub record ScriptData : Type 0 where
  pub apps : List AppText
  pub statements : List StatementData

abbrev pub with_apps : List StatementData → List AppText → Result ScriptData Refusal
with_apps statements apps = Ok (record { apps = apps; statements = statements })

-- the second pass is made only where the first finds nothing
abbrev pub second_pass : SoFar → Result ScriptData Refusal
second_pass s = then_read (description s.descriptions) (with_apps s.statements)

unfoldable pub script_in : InputLines → Result ScriptData Refusal
script_in read = then_read (first_pass read) second_pass

-- an input that is too long is refused before all else
abbrev pub unless_long : Option ℕ → InputLines → Result ScriptData Refusal
unless_long None read = script_in read
unless_long (Some line) read = Err (refused_at line refusal.InputTooLong)

unfoldable pub script_of : List ℕ → Result ScriptData Refusal
script_of input = unless_long (too_long input) (lines_of input)
