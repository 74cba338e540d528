-- The lines of an input, apart from how it is split.
use Rattle.std.specs.Prelude.{◌≡◌, ◌↔◌, ◌⊎◌, ℕ, ◌+◌, true, false, List, [], ◌∷◌, Option, Some, None, IsUtf8}
use Rattle.std.specs.Str.Lines.{strip_carriage_return}
use Rattle.ak_base.specs.declared.ending.RefusalKind.{RefusalKind}
use Rattle.ak_base.specs.declared.ending.RefusalKind.TheVariants as refusal
use Rattle.ak_input.specs.declared.line.Line.{Line}
use Rattle.ak_input.specs.declared.line.Word.{Word}
use Rattle.ak_input.specs.declared.lines.InputLines.{InputLines}
use Rattle.ak_input.specs.declared.lines.LineFault.{LineFault}
use Rattle.ak_input.specs.Lines.{is_silent, lines_of, pieces_of}
use Rattle.ak_input.specs.Words.{IsLine}

-- it has only blanks, or its first other byte is a `#`; one CR at its end is no part of it
abbrev pub SaysNothing : List ℕ → Type 0
SaysNothing piece = is_silent (strip_carriage_return piece) ≡ true

abbrev pub SaysSomething : List ℕ → Type 0
SaysSomething piece = is_silent (strip_carriage_return piece) ≡ false

-- it is the line of this number, with these words and the blanks between them
pub record IsLineOf (number : ℕ) (piece : List ℕ) (line : Line) : Type 0 where
  pub number_is : line.number ≡ number
  pub says : SaysSomething piece
  pub utf8 : IsUtf8 (strip_carriage_return piece)
  pub words_are : IsLine 1 (strip_carriage_return piece) line.words

-- why it has no words: it is not UTF-8; or it is, and is no words and blanks, as where what is open is not closed
abbrev pub HasNoWords : List ℕ → RefusalKind → Type 0
HasNoWords text refusal.NotUtf8 = ¬ (IsUtf8 text)
HasNoWords text refusal.BadWord = IsUtf8 text × ((words : List Word) → IsLine 1 text words → ⊥)
HasNoWords text refusal.UnknownLine = ⊥
HasNoWords text (refusal.BadHey column) = ⊥
HasNoWords text refusal.BadValue = ⊥
HasNoWords text refusal.NameInUse = ⊥
HasNoWords text refusal.Limit = ⊥
HasNoWords text refusal.InputTooLong = ⊥
HasNoWords text refusal.Unfinished = ⊥
HasNoWords text refusal.UnknownName = ⊥
HasNoWords text refusal.ChainLoop = ⊥
HasNoWords text refusal.AskOrder = ⊥

-- these are the lines of the pieces that say something, the first of which has this number, up to the first one without words, where there is one
abbrev pub AreLines : ℕ → List (List ℕ) → List Line → Option LineFault → Type 0
AreLines number [] lines fault = (lines ≡ []) × (fault ≡ None)
AreLines number (piece ∷ pieces) lines fault =
    (SaysNothing piece × AreLines (number + 1) pieces lines fault)
    ⊎ (((line : Line) × (more : List Line) × (lines ≡ line ∷ more) × IsLineOf number piece line × AreLines (number + 1) pieces more fault)
    ⊎ ((kind : RefusalKind) × SaysSomething piece × HasNoWords (strip_carriage_return piece) kind × (lines ≡ []) × (fault ≡ Some (record { line = number; kind = kind }))))

-- of the pieces between the LFs of an input
abbrev pub AreLinesOf : List ℕ → InputLines → Type 0
AreLinesOf input read = AreLines 1 (pieces_of input) read.lines read.fault

-- exactly those are read of it
abbrev pub LinesAreSplit : Type 0
LinesAreSplit = (input : List ℕ) (read : InputLines) → (lines_of input ≡ read) ↔ AreLinesOf input read
