-- The lines of an input: which of them say something, and their words.
use Rattle.std.specs.Prelude.{◌≡◌, ℕ, ◌+◌, Bool, true, ◌==◌, nat_le, if◌then◌else◌, List, [], ◌∷◌, ◌++◌, length, take, count_by, Option, Some, None, Result, Ok, Err}
use Rattle.std.specs.List.{slice_split, join_with_byte}
use Rattle.std.specs.Str.Lines.{strip_carriage_return}
use Rattle.ak_base.specs.declared.ending.RefusalKind.{RefusalKind}
use Rattle.ak_input.specs.declared.line.Line.{Line}
use Rattle.ak_input.specs.declared.line.Word.{Word}
use Rattle.ak_input.specs.declared.lines.InputLines.{InputLines}
use Rattle.ak_input.specs.declared.lines.LineFault.{LineFault}
use Rattle.ak_input.specs.Marks.{is_blank}
use Rattle.ak_input.specs.Words.{line_words}
use Rattle.ak_input.specs.Limits.{input_limit}

-- the pieces between the LFs
abbrev pub pieces_of : List ℕ → List (List ℕ)
pieces_of input = slice_split (λ b. b == 10) input

-- One CR at a line's end is no part of it (`strip_carriage_return`).

-- a line says nothing where it has only blanks, or where its first other byte is a `#`
abbrev pub is_silent : List ℕ → Bool
is_silent [] = true
is_silent (b ∷ line) = if is_blank b then is_silent line else b == 35

-- a line of this number in front of the others; one without words is the last
abbrev pub with_line : ℕ → Result (List Word) RefusalKind → InputLines → InputLines
with_line number (Ok words) others = record { lines = record { number = number; words = words } ∷ others.lines; fault = others.fault }
with_line number (Err kind) others = record { lines = []; fault = Some (record { line = number; kind = kind }) }

-- the lines of these pieces, the first of which has this number
unfoldable pub lines_from : ℕ → List (List ℕ) → InputLines
lines_from number [] = record { lines = []; fault = None }
lines_from number (piece ∷ pieces) =
    if is_silent (strip_carriage_return piece) then lines_from (number + 1) pieces
    else with_line number (line_words (strip_carriage_return piece)) (lines_from (number + 1) pieces)

-- behind lines that were read before
abbrev pub lines_behind : List Line → InputLines → InputLines
lines_behind front read = record { lines = front ++ read.lines; fault = read.fault }

-- the lines after this piece: those behind it, or its fault
abbrev pub kept : List Line → Option LineFault → InputLines → InputLines
kept lines None others = lines_behind lines others
kept lines (Some f) others = record { lines = lines; fault = Some f }

abbrev pub lines_of : List ℕ → InputLines
lines_of input = lines_from 1 (pieces_of input)

-- the line that the byte behind so many stands in: a LF is the last byte of its line
abbrev pub line_at : ℕ → List ℕ → ℕ
line_at place input = count_by (λ b. b == 10) (take place input) + 1

-- an input has at most 1,048,576 bytes; a longer one is refused at the line of the first byte more
abbrev pub too_long : List ℕ → Option ℕ
too_long input = if nat_le (length input) input_limit then None else Some (line_at input_limit input)

-- the pieces of an input, with a LF between each two, are the input
abbrev pub PiecesAreTheInput : Type 0
PiecesAreTheInput = (input : List ℕ) → join_with_byte 10 (pieces_of input) ≡ input
