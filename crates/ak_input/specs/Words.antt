-- The words of a line: how they are read, byte by byte, and which words a line has.
use Rattle.std.specs.Prelude.{◌≡◌, ℕ, ◌+◌, Bool, true, false, ◌||◌, ◌==◌, if◌then◌else◌, List, [], ◌∷◌, ◌++◌, length, Option, Some, None, option_map, Result, Ok, Err}
use Rattle.std.specs.List.{list_all}
use Rattle.std.specs.Str.{is_utf8}
use Rattle.ak_base.specs.declared.ending.RefusalKind.{RefusalKind}
use Rattle.ak_base.specs.declared.ending.RefusalKind.TheVariants as refusal
use Rattle.ak_base.specs.Option.{◌>>=◌}
use Rattle.ak_input.specs.declared.line.Word.{Word}
use Rattle.ak_input.specs.declared.marks.Marks.{Marks}
use Rattle.ak_input.specs.declared.words.Begun.{Begun}
use Rattle.ak_input.specs.Marks.{is_blank, step, start, is_outside, ends_before}

-- ---- which words a line has

-- the bytes after the first one of a word: what is open goes on, no blank and no `[` stands where nothing is open, and nothing
-- is open at the end
abbrev pub GoesOn : Marks → List ℕ → Type 0
GoesOn m [] = is_outside m ≡ true
GoesOn m (b ∷ bytes) = (ends_before m b ≡ false) × ((next : Marks) × (step m b ≡ Some next) × GoesOn next bytes)

-- the bytes of a word
abbrev pub IsWordText : List ℕ → Type 0
IsWordText [] = true ≡ false
IsWordText (b ∷ bytes) = (is_blank b ≡ false) × ((next : Marks) × (step start b ≡ Some next) × GoesOn next bytes)

-- where a word may end: at the line's end, before a blank, and before a `[`
abbrev pub is_end : List ℕ → Bool
is_end [] = true
is_end (b ∷ bytes) = is_blank b || b == 91

-- these bytes, the first of which stands at this column, begin with this gap, this word and this rest
pub record BeginsWith (column : ℕ) (text gap : List ℕ) (w : Word) (rest : List ℕ) : Type 0 where
  pub parts : text ≡ gap ++ (w.bytes ++ rest)
  pub blanks : list_all is_blank gap ≡ true
  pub place : w.column ≡ column + length gap
  pub form : IsWordText w.bytes
  pub ends : is_end rest ≡ true

-- these bytes, the first of which stands at this column, are words and the blanks before, between and after them
abbrev pub IsLine : ℕ → List ℕ → List Word → Type 0
IsLine column text [] = list_all is_blank text ≡ true
IsLine column text (w ∷ words) =
    (gap : List ℕ) × (rest : List ℕ) × BeginsWith column text gap w rest × IsLine (w.column + length w.bytes) rest words

-- a line has one list of words at most
abbrev pub OneLine : Type 0
OneLine = (line : List ℕ) (v w : List Word) → IsLine 1 line v → IsLine 1 line w → v ≡ w

-- ---- how they are read

-- a word of one byte, so far
abbrev pub begun_at : ℕ → ℕ → Marks → Begun
begun_at column b m = record { word = record { column = column; bytes = b ∷ [] }; marks = m }

-- with one byte more
abbrev pub grown : Begun → ℕ → Marks → Begun
grown w b m = record { word = record { column = w.word.column; bytes = w.word.bytes ++ b ∷ [] }; marks = m }

-- the word that a byte begins outside of words: none is begun by a blank
abbrev pub opened_at : ℕ → ℕ → Option (Option Begun)
opened_at column b = if is_blank b then Some None else option_map (λ m. Some (begun_at column b m)) (step start b)

-- these bytes, the first of which stands at this column, where this word is begun
unfoldable pub words_from : Option Begun → ℕ → List ℕ → Option (List Word)
words_from None column [] = Some []
words_from (Some w) column [] = if is_outside w.marks then Some (w.word ∷ []) else None
words_from None column (b ∷ bytes) = opened_at column b >>= λ begun. words_from begun (column + 1) bytes
words_from (Some w) column (b ∷ bytes) =
    if ends_before w.marks b then ((opened_at column b >>= λ begun. words_from begun (column + 1) bytes) >>= λ words. Some (w.word ∷ words))
    else step w.marks b >>= λ m. words_from (Some (grown w b m)) (column + 1) bytes

-- behind words that were read before
abbrev pub words_behind : List Word → Option (List Word) → Option (List Word)
words_behind front read = read >>= λ words. Some (front ++ words)

abbrev pub words_or_fault : Option (List Word) → Result (List Word) RefusalKind
words_or_fault (Some words) = Ok words
words_or_fault None = Err refusal.BadWord

-- the words of a line, or why it has none: its bytes are not UTF-8, or what is open is not closed, or an escape is none
abbrev pub line_words : List ℕ → Result (List Word) RefusalKind
line_words line = if is_utf8 line then words_or_fault (words_from None 1 line) else Err refusal.NotUtf8
