-- The first pass: what the lines of a script say, one after another, or the first fault.
use Rattle.std.specs.Prelude.{ℕ, ◌+◌, nat_lt, is_some, if◌then◌else◌, List, [], ◌∷◌, ◌++◌, codes, Option, Some, None, Result, Ok, Err}
use Rattle.ak_base.specs.declared.ending.RefusalKind.{RefusalKind}
use Rattle.ak_base.specs.declared.ending.RefusalKind.TheVariants as refusal
use Rattle.ak_input.specs.declared.line.Line.{Line}
use Rattle.ak_input.specs.declared.lines.InputLines.{InputLines}
use Rattle.ak_input.specs.declared.lines.LineFault.{LineFault}
use Rattle.ak_describe.specs.Pass.{Refusal, then_read, or_refused, at_line}
use Rattle.ak_describe.specs.Read.{lines_read, end_fault, last_number, unfinished_behind}
use Rattle.ak_describe.specs.Words.{texts, behind, ends}
use Rattle.ak_script.specs.declared.part.Part.{Part}
use Rattle.ak_script.specs.declared.part.Part.TheVariants as part
use Rattle.ak_script.specs.Blocks as blocks
use Rattle.ak_script.specs.Blocks.{Block}
use Rattle.ak_script.specs.Forms.{statement_of}
use Rattle.ak_script.specs.Limits.{statement_limit}
use Rattle.ak_script.specs.Statement.{SessionLineData, StatementData, together_statement}

-- the part that the next line stands in, the lines of descriptions, the statements, the block that is open, and how many lines say statements
pub record SoFar : Type 0 where
  pub part : Part
  pub descriptions : List Line
  pub statements : List StatementData
  pub block : Block
  pub lines : ℕ

abbrev pub nothing_said : SoFar
nothing_said = record { part = part.Front; descriptions = []; statements = []; block = blocks.new_block; lines = 0 }

abbrev pub refused_at : ℕ → RefusalKind → Refusal
refused_at line kind = record { line = line; kind = kind }

-- unless the line is refused
abbrev pub unless : {A : Type 0} → ℕ → Option RefusalKind → A → Result A Refusal
unless line None x = Ok x
unless line (Some kind) x = Err (refused_at line kind)

-- ---- the first line is `kit 1`
-- no word stands behind these
abbrev pub more_fault : List (List ℕ) → Option RefusalKind
more_fault words = if ends words then None else Some refusal.BadValue

abbrev pub version_from : Option (List (List ℕ)) → Option RefusalKind
version_from None = Some refusal.BadValue
version_from (Some words) = more_fault words

abbrev pub version_fault : List (List ℕ) → Option RefusalKind
version_fault words = version_from (behind words (codes "1"))

abbrev pub kit_from : Option (List (List ℕ)) → Option RefusalKind
kit_from None = Some refusal.UnknownLine
kit_from (Some words) = version_fault words

abbrev pub front_fault : List (List ℕ) → Option RefusalKind
front_fault words = kit_from (behind words (codes "kit"))

abbrev pub front_line : SoFar → Line → Result SoFar Refusal
front_line s line = unless line.number (front_fault (texts line.words)) (record s { part = part.Descriptions })

-- ---- lines of descriptions, up to the line `script`
-- which stands where the applications may end, with no further word
abbrev pub script_fault : List Line → List (List ℕ) → Option RefusalKind
script_fault lines words =
    if is_some (end_fault lines) then Some refusal.UnknownLine else if ends words then None else Some refusal.BadValue

abbrev pub script_line : SoFar → ℕ → List (List ℕ) → Result SoFar Refusal
script_line s number words = unless number (script_fault s.descriptions words) (record s { part = part.Statements })

abbrev pub described_line : SoFar → Line → Result SoFar Refusal
described_line s line =
    then_read (lines_read (s.descriptions ++ line ∷ [])) (λ _. Ok (record s { descriptions = s.descriptions ++ line ∷ [] }))

abbrev pub by_script : SoFar → Line → Option (List (List ℕ)) → Result SoFar Refusal
by_script s line None = described_line s line
by_script s line (Some words) = script_line s line.number words

abbrev pub description_line : SoFar → Line → Result SoFar Refusal
description_line s line = by_script s line (behind (texts line.words) (codes "script"))

-- ---- statements, in at most 8,000 lines
-- there is room for one more line
abbrev pub count_fault : ℕ → Option RefusalKind
count_fault lines = if nat_lt lines statement_limit then None else Some refusal.Limit

abbrev pub statement_added : SoFar → ℕ → StatementData → Result SoFar Refusal
statement_added s number statement =
    unless number (count_fault s.lines) (record s { statements = s.statements ++ statement ∷ []; lines = s.lines + 1 })

abbrev pub single_line : SoFar → Line → Result SoFar Refusal
single_line s line = then_read (at_line line.number (statement_of line.words)) (statement_added s line.number)

-- the line that begins a block, with no further word
abbrev pub together_line : SoFar → ℕ → List (List ℕ) → Result SoFar Refusal
together_line s number words = unless number (more_fault words) (record s { part = part.Block })

abbrev pub by_together : SoFar → Line → Option (List (List ℕ)) → Result SoFar Refusal
by_together s line None = single_line s line
by_together s line (Some words) = together_line s line.number words

abbrev pub statement_line : SoFar → Line → Result SoFar Refusal
statement_line s line = by_together s line (behind (texts line.words) (codes "together"))

-- ---- a block: sessions, up to the line `end`
abbrev pub line_added : SoFar → ℕ → SessionLineData → Result SoFar Refusal
line_added s number line =
    unless number (count_fault s.lines) (record s { block = blocks.line_added s.block line; lines = s.lines + 1 })

abbrev pub inner_line : SoFar → Line → Result SoFar Refusal
inner_line s line = then_read (at_line line.number (blocks.line_of s.block line.words)) (line_added s line.number)

abbrev pub session_line : SoFar → ℕ → List (List ℕ) → Result SoFar Refusal
session_line s number words =
    unless number (blocks.session_fault s.block words) (record s { block = blocks.session_begun s.block })

-- the block is a statement
abbrev pub block_ended : SoFar → SoFar
block_ended s =
    record s { part = part.Statements; statements = s.statements ++ together_statement (record { sessions = blocks.closed s.block }) ∷ []; block = blocks.new_block }

abbrev pub end_line : SoFar → ℕ → List (List ℕ) → Result SoFar Refusal
end_line s number words = unless number (blocks.end_fault s.block words) (block_ended s)

abbrev pub by_end : SoFar → Line → Option (List (List ℕ)) → Result SoFar Refusal
by_end s line None = inner_line s line
by_end s line (Some words) = end_line s line.number words

abbrev pub by_session : SoFar → Line → Option (List (List ℕ)) → Result SoFar Refusal
by_session s line None = by_end s line (behind (texts line.words) (codes "end"))
by_session s line (Some words) = session_line s line.number words

abbrev pub block_line : SoFar → Line → Result SoFar Refusal
block_line s line = by_session s line (behind (texts line.words) (codes "session"))

-- ---- all lines
abbrev pub line_in : Part → SoFar → Line → Result SoFar Refusal
line_in part.Front s line = front_line s line
line_in part.Descriptions s line = description_line s line
line_in part.Statements s line = statement_line s line
line_in part.Block s line = block_line s line

unfoldable pub line_said : SoFar → Line → Result SoFar Refusal
line_said s line = line_in s.part s line

unfoldable pub lines_said : SoFar → List Line → Result SoFar Refusal
lines_said s [] = Ok s
lines_said s (line ∷ lines) = then_read (line_said s line) (λ next. lines_said next lines)

-- the first line that has no words, which stands behind all that have some
abbrev pub no_words : Option LineFault → Option Refusal
no_words None = None
no_words (Some fault) = Some (refused_at fault.line fault.kind)

-- the lines end in a block: at the number behind the last one
abbrev pub block_fault : Part → List Line → Option Refusal
block_fault part.Front lines = None
block_fault part.Descriptions lines = None
block_fault part.Statements lines = None
block_fault part.Block lines = unfinished_behind (last_number lines)

-- the applications may end where the lines end, as they may behind the line `script`, and no block is open there
abbrev pub ended : List Line → SoFar → Result SoFar Refusal
ended lines s = then_read (or_refused (end_fault s.descriptions) s) (λ t. or_refused (block_fault t.part lines) t)

unfoldable pub first_pass : InputLines → Result SoFar Refusal
first_pass read = then_read (lines_said nothing_said read.lines) (λ s. then_read (or_refused (no_words read.fault) s) (ended read.lines))
