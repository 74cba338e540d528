-- The words of a line, by themselves and in order. A reader answers what it read, and the words behind that; none where the words
-- are not of its form.
use Rattle.std.specs.Prelude.{ℕ, Bool, true, false, if◌then◌else◌, List, [], ◌∷◌, map, codes, Option, Some, None}
use Rattle.std.specs.Str.{bytes_eq}
use Rattle.ak_base.specs.Word.{is_word}
use Rattle.ak_base.specs.declared.code.Code.{Code}
use Rattle.ak_message.specs.declared.kind.Kind.{Kind}
use Rattle.ak_message.specs.declared.kind.Kind.TheVariants as k
use Rattle.ak_input.specs.declared.line.Word.{Word}
use Rattle.ak_base.specs.Option.{where_true, ◌>>=◌}
use Rattle.ak_input.specs.Written.{code_of}
use Rattle.ak_roster.specs.declared.head.Mode.{Mode}
use Rattle.ak_roster.specs.declared.head.Mode.TheVariants as mode

-- the bytes of each word
abbrev pub texts : List Word → List (List ℕ)
texts words = map (λ (w : Word). w.bytes) words

-- ---- a word
abbrev pub mode_of : List ℕ → Option Mode
mode_of word =
    if bytes_eq word (codes "single") then Some mode.Single
    else if bytes_eq word (codes "multiple") then Some mode.Multiple
    else if bytes_eq word (codes "exclusive") then Some mode.Exclusive
    else None

-- the letters of each kind but that of messages
abbrev pub kind_of : List ℕ → Option Kind
kind_of word =
    if bytes_eq word (codes "BOOL") then Some k.Bool
    else if bytes_eq word (codes "BYTE") then Some k.Int8
    else if bytes_eq word (codes "SHRT") then Some k.Int16
    else if bytes_eq word (codes "LONG") then Some k.Int32
    else if bytes_eq word (codes "LLNG") then Some k.Int64
    else if bytes_eq word (codes "UBYT") then Some k.UInt8
    else if bytes_eq word (codes "USHT") then Some k.UInt16
    else if bytes_eq word (codes "ULNG") then Some k.UInt32
    else if bytes_eq word (codes "ULLG") then Some k.UInt64
    else if bytes_eq word (codes "CSTR") then Some k.Text
    else if bytes_eq word (codes "MSNG") then Some k.Messenger
    else if bytes_eq word (codes "RAWT") then Some k.Raw
    else None

abbrev pub name_of : List ℕ → Option (List ℕ)
name_of word = where_true (is_word word) word

-- ---- words in order
-- the first one, and those behind it
abbrev pub first_of : List (List ℕ) → Option (List ℕ × List (List ℕ))
first_of [] = None
first_of (w ∷ words) = Some (w, words)

abbrev pub behind_first : List ℕ → Option (List ℕ × List (List ℕ)) → Option (List ℕ × List (List ℕ))
behind_first w None = Some (w, [])
behind_first w (Some last) = Some (last.0, w ∷ last.1)

-- the last one, and those before it
abbrev pub last_of : List (List ℕ) → Option (List ℕ × List (List ℕ))
last_of [] = None
last_of (w ∷ words) = behind_first w (last_of words)

-- those behind that word, if it is the first
abbrev pub behind : List (List ℕ) → List ℕ → Option (List (List ℕ))
behind [] word = None
behind (w ∷ words) word = where_true (bytes_eq w word) words

-- no word is left
abbrev pub ends : List (List ℕ) → Bool
ends [] = true
ends (w ∷ words) = false

unfoldable pub name_at : List (List ℕ) → Option (List ℕ × List (List ℕ))
name_at words = do
  first ← first_of words
  name ← name_of first.0
  Some (name, first.1)

unfoldable pub code_at : List (List ℕ) → Option (Code × List (List ℕ))
code_at words = do
  first ← first_of words
  code ← code_of first.0
  Some (code, first.1)

-- one name alone
unfoldable pub only_name : List (List ℕ) → Option (List ℕ)
only_name words = name_at words >>= λ name. where_true (ends name.1) name.0

-- one code alone
unfoldable pub only_code : List (List ℕ) → Option Code
only_code words = code_at words >>= λ code. where_true (ends code.1) code.0

-- ---- parts that may be left out
-- what can be read of the first words, up to the first one that can't
abbrev pub many_from : {A : Type 0} → Option A → List ℕ → List (List ℕ) → List A × List (List ℕ) → List A × List (List ℕ)
many_from None w words others = ([], w ∷ words)
many_from (Some x) w words others = (x ∷ others.0, others.1)

abbrev pub many : {A : Type 0} → (List ℕ → Option A) → List (List ℕ) → List A × List (List ℕ)
many read [] = ([], [])
many read (w ∷ words) = many_from (read w) w words (many read words)

-- one or more
abbrev pub filled : {A : Type 0} → List A → List (List ℕ) → Option (List A × List (List ℕ))
filled [] words = None
filled (x ∷ xs) words = Some (x ∷ xs, words)

-- one or more behind a key, or none where the key does not stand there
abbrev pub some_behind : {A : Type 0} → (List ℕ → Option A) → List (List ℕ) → Option (List (List ℕ)) → Option (List A × List (List ℕ))
some_behind read words None = Some ([], words)
some_behind read words (Some rest) = filled (many read rest).0 (many read rest).1
