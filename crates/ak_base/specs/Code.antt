-- Codes: numbers of four bytes, and their printed form.
use Rattle.std.specs.Prelude.{◌≡◌, ℕ, ◌/◌, ◌%◌, ◌^◌, ◌<◌, Bool, not, ◌&&◌, ◌⊎◌, ◌==◌, nat_le, if◌then◌else◌, IsTrue, List, [], ◌∷◌, ◌++◌, codes}
use Rattle.std.specs.Char.{digit_char}
use Rattle.std.specs.Int.{w32, to_be_bytes, from_be_bytes}
use Rattle.std.specs.List.{list_all, flat_map}

-- the code of four bytes, the first one highest, and the bytes of a code
abbrev pub code_of : List ℕ → ℕ
code_of bytes = from_be_bytes w32 bytes

abbrev pub bytes_of : ℕ → List ℕ
bytes_of code = to_be_bytes w32 code

-- whether the byte may stand between quotes: from a space to a tilde, and no `'` and no `\`
abbrev pub may_be_quoted : ℕ → Bool
may_be_quoted b = nat_le 32 b && nat_le b 126 && not (b == 39) && not (b == 92)

abbrev pub may_all_be_quoted : List ℕ → Bool
may_all_be_quoted bytes = list_all may_be_quoted bytes

-- the bytes between quotes
abbrev pub quoted : List ℕ → List ℕ
quoted bytes = 39 ∷ bytes ++ 39 ∷ []

-- a byte in two hexadecimal digits, in lower case, and bytes after `0x`
abbrev pub hex_of : ℕ → List ℕ
hex_of b = digit_char (b / 16) ∷ digit_char (b % 16) ∷ []

abbrev pub hex : List ℕ → List ℕ
hex bytes = codes "0x" ++ flat_map hex_of bytes

-- what is printed of a code: its bytes between quotes where all of them may stand there, and else in hexadecimal
unfoldable pub code_text : ℕ → List ℕ
code_text code = if may_all_be_quoted (bytes_of code) then quoted (bytes_of code) else hex (bytes_of code)

-- the text is one of the code: in hexadecimal, or between quotes where all its bytes may stand there
pub record IsCodeText (text : List ℕ) (code : ℕ) : Type 0 where
  pub is_code : code < 2 ^ 32
  pub form : (text ≡ hex (bytes_of code)) ⊎ (IsTrue (may_all_be_quoted (bytes_of code)) × (text ≡ quoted (bytes_of code)))

-- a text is the text of one code
abbrev pub OneCodeText : Type 0
OneCodeText = (text : List ℕ) (m n : ℕ) → IsCodeText text m → IsCodeText text n → m ≡ n

-- what is printed of a code is a text of it
abbrev pub PrintedCodesAreRead : Type 0
PrintedCodesAreRead = (code : ℕ) → code < 2 ^ 32 → IsCodeText (code_text code) code
