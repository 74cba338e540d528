-- The text of a value closes all that it opens, and nothing in it ends a piece: what leads from marks to marks.
use Rattle.std.proofs.Common.{◌≡◌, ℕ, zero, suc, ◌+◌, ◌-◌, ◌/◌, ◌%◌, ◌^◌, ◌<◌, ◌≤◌, Bool, true, false, not, ◌&&◌, ◌||◌, eqb, leb, List, [], ◌∷◌, ◌++◌, codes, ℤ, pos, negsuc, Some, refl, sym, subst, inl, inr, arith}
use Rattle.std.specs.Prelude.{All, FitsSigned, unsigned_abs}
use Rattle.std.specs.Char.{digit_char}
use Rattle.std.specs.Fmt.{decimal, signed_decimal}
use Rattle.std.specs.Int.{w8, w16, w32, w64}
use Rattle.std.specs.List.{flat_map, list_all}
use Rattle.std.specs.Str.Parse.{AllDigits}
use Rattle.std.proofs.lemmas.Bool.{and_right, and_parts, or_parts, or_from, not-true, both_ways, eqb-true, ne_eqb, le-leb, le-ltb, cases_lt}
use Rattle.std.proofs.lemmas.List.Elements.{All-head, All-tail}
use Rattle.std.proofs.lemmas.Str.Parse.{digit_from_value}
use Rattle.ak_base.specs.Code.{bytes_of, hex_of, may_be_quoted, may_all_be_quoted, code_text}
use Rattle.ak_base.specs.Word.{is_word_byte}
use Rattle.ak_base.proofs.Surface.{code_text-hex, code_text-quoted, IsForm-decimal, short_from_below}
use Rattle.ak_message.specs.declared.kind.Kind.{Kind}
use Rattle.ak_message.specs.declared.kind.Kind.TheVariants as k
use Rattle.ak_input.specs.declared.marks.Marks.{Marks}
use Rattle.ak_input.specs.declared.marks.Quotes.{Quotes}
use Rattle.ak_input.specs.declared.marks.Quotes.TheVariants as q
use Rattle.ak_message.specs.Kind.{kind_letters}
use Rattle.ak_input.specs.Marks.{is_blank, is_hex_digit, step, is_outside}
use Rattle.ak_input.specs.MessageText.{quoted_byte, quoted}
use Rattle.ak_input.proofs.CodeLaws.{small_bytes}
use Rattle.ak_input.proofs.QuotedLaws.{Positive, plain_byte, low_byte, one_byte}

-- these quotes are open, in so many braces
abbrev pub quotes_in : Quotes → ℕ → Marks
quotes_in quotes n = record { quotes = quotes; braces = n; brackets = 0 }

-- so many braces are open, and nothing else
abbrev pub within : ℕ → Marks
within n = quotes_in q.None n

-- a byte that ends a value, or a word, where nothing is open
abbrev pub value_end : ℕ → Bool
value_end b = is_blank b || eqb b 44 || eqb b 91

abbrev pub word_end : ℕ → Bool
word_end b = is_blank b || eqb b 91

-- the bytes lead from what is open before them to what is open behind them, and none of them ends a piece
abbrev pub Passes : (ℕ → Bool) → Marks → List ℕ → Marks → Type 0
Passes ends m [] last = m ≡ last
Passes ends m (b ∷ text) last = ((is_outside m && ends b) ≡ false) × ((next : Marks) × (step m b ≡ Some next) × Passes ends next text last)

pub passes-append : (ends : ℕ → Bool) (x y : List ℕ) (a b c : Marks) → Passes ends a x b → Passes ends b y c → Passes ends a (x ++ y) c
passes-append ends [] y a b c h later = subst (λ (m : Marks). Passes ends m y c) (sym h) later
passes-append ends (t ∷ x) y a b c h later = (h.0, (h.1.0, h.1.1, passes-append ends x y h.1.0 b c h.1.2 later))

-- fewer bytes end a piece
still_none : (outside before after : Bool) → (before ≡ false → after ≡ false) → (outside && before) ≡ false → (outside && after) ≡ false
still_none true before after fewer h = fewer h
still_none false before after fewer h = refl

pub passes_fewer : (ends others : ℕ → Bool) → ((b : ℕ) → ends b ≡ false → others b ≡ false) → (text : List ℕ) (m last : Marks) → Passes ends m text last → Passes others m text last
passes_fewer ends others fewer [] m last h = h
passes_fewer ends others fewer (b ∷ text) m last h =
    (still_none (is_outside m) (ends b) (others b) (fewer b) h.0, (h.1.0, h.1.1, passes_fewer ends others fewer text h.1.0 last h.1.2))

pub fewer_words : (b : ℕ) → value_end b ≡ false → word_end b ≡ false
fewer_words b h =
    let last = or_parts (is_blank b || eqb b 44) (eqb b 91) h in
    let first = or_parts (is_blank b) (eqb b 44) last.0 in
    or_from (is_blank b) (eqb b 91) first.0 last.1

pub fewer_commas : (b : ℕ) → value_end b ≡ false → eqb b 44 ≡ false
fewer_commas b h = (or_parts (is_blank b) (eqb b 44) (or_parts (is_blank b || eqb b 44) (eqb b 91) h).0).1

pub fewer_blanks : (b : ℕ) → word_end b ≡ false → is_blank b ≡ false
fewer_blanks b h = (or_parts (is_blank b) (eqb b 91) h).0

-- ---- bytes that open, close and end nothing

-- those that pass the test
pub record Spares (test : ℕ → Bool) : Type 0 where
  pub tab : test 9 ≡ false
  pub space : test 32 ≡ false
  pub double : test 34 ≡ false
  pub single : test 39 ≡ false
  pub comma : test 44 ≡ false
  pub bracket_in : test 91 ≡ false
  pub bracket_out : test 93 ≡ false
  pub brace_in : test 123 ≡ false
  pub brace_out : test 125 ≡ false

pub differs : (test : ℕ → Bool) (b c : ℕ) → test b ≡ true → test c ≡ false → eqb b c ≡ false
differs test b c passes fails = ne_eqb b c (λ e. both_ways (test c) fails (subst (λ (x : ℕ). test x ≡ true) e passes))

spared_step : (test : ℕ → Bool) → Spares test → (b n : ℕ) → test b ≡ true → step (within n) b ≡ Some (within n)
spared_step test spares b n passes =
    rw (differs test b 34 passes spares.double, differs test b 39 passes spares.single, differs test b 123 passes spares.brace_in, differs test b 125 passes spares.brace_out, differs test b 91 passes spares.bracket_in, differs test b 93 passes spares.bracket_out) refl

spared_end : (test : ℕ → Bool) → Spares test → (b : ℕ) → test b ≡ true → value_end b ≡ false
spared_end test spares b passes =
    rw (differs test b 32 passes spares.space, differs test b 9 passes spares.tab, differs test b 44 passes spares.comma, differs test b 91 passes spares.bracket_in) refl

pub passes_spared : (test : ℕ → Bool) → Spares test → (text : List ℕ) (n : ℕ) → list_all test text ≡ true → Passes value_end (within n) text (within n)
passes_spared test spares [] n all = refl
passes_spared test spares (b ∷ text) n all =
    let parts = and_parts (test b) (list_all test text) all in
    (and_right (is_outside (within n)) (value_end b) (spared_end test spares b parts.0), (within n, spared_step test spares b n parts.0, passes_spared test spares text n parts.1))

pub spares_word : Spares is_word_byte
spares_word = record { tab = refl; space = refl; double = refl; single = refl; comma = refl; bracket_in = refl; bracket_out = refl; brace_in = refl; brace_out = refl }

-- ---- numbers
abbrev pub is_digit : ℕ → Bool
is_digit b = leb 48 b && leb b 57

spares_digit : Spares is_digit
spares_digit = record { tab = refl; space = refl; double = refl; single = refl; comma = refl; bracket_in = refl; bracket_out = refl; brace_in = refl; brace_out = refl }

are_digits : (bytes : List ℕ) → AllDigits 10 bytes → list_all is_digit bytes ≡ true
are_digits [] all = refl
are_digits (b ∷ bytes) all =
    let digit = digit_from_value b all.0 in
    rw (le-leb 48 b digit.0, le-leb b 57 digit.1) (are_digits bytes all.1)

pub decimal_digits : (n : ℕ) → n < 10 ^ 20 → list_all is_digit (decimal n) ≡ true
decimal_digits n small = are_digits (decimal n) (IsForm-decimal n (short_from_below n small)).digits

pub decimal_passes : (x n : ℕ) → x < 10 ^ 20 → Passes value_end (within n) (decimal x) (within n)
decimal_passes x n small = passes_spared is_digit spares_digit (decimal x) n (decimal_digits x small)

pub signed_passes : (z : ℤ) (n : ℕ) → unsigned_abs z < 10 ^ 20 → Passes value_end (within n) (signed_decimal z) (within n)
signed_passes (pos x) n small = decimal_passes x n small
signed_passes (negsuc x) n small =
    (and_right (is_outside (within n)) (value_end 45) refl, (within n, refl, decimal_passes (suc x) n small))

pub small_8 : (z : ℤ) → FitsSigned w8 z → unsigned_abs z < 10 ^ 20
small_8 (pos x) fits = omega (arith, fits)
small_8 (negsuc x) fits = omega (arith, fits)

pub small_16 : (z : ℤ) → FitsSigned w16 z → unsigned_abs z < 10 ^ 20
small_16 (pos x) fits = omega (arith, fits)
small_16 (negsuc x) fits = omega (arith, fits)

pub small_32 : (z : ℤ) → FitsSigned w32 z → unsigned_abs z < 10 ^ 20
small_32 (pos x) fits = omega (arith, fits)
small_32 (negsuc x) fits = omega (arith, fits)

pub small_64 : (z : ℤ) → FitsSigned w64 z → unsigned_abs z < 10 ^ 20
small_64 (pos x) fits = omega (arith, fits)
small_64 (negsuc x) fits = omega (arith, fits)

-- ---- hexadecimal digits
hex_word : (d : ℕ) → d < 16 → is_word_byte (digit_char d) ≡ true
hex_word zero lt = refl
hex_word (suc zero) lt = refl
hex_word (suc (suc zero)) lt = refl
hex_word (suc (suc (suc zero))) lt = refl
hex_word (suc (suc (suc (suc zero)))) lt = refl
hex_word (suc (suc (suc (suc (suc zero))))) lt = refl
hex_word (suc (suc (suc (suc (suc (suc zero)))))) lt = refl
hex_word (suc (suc (suc (suc (suc (suc (suc zero))))))) lt = refl
hex_word (suc (suc (suc (suc (suc (suc (suc (suc zero)))))))) lt = refl
hex_word (suc (suc (suc (suc (suc (suc (suc (suc (suc zero))))))))) lt = refl
hex_word (suc (suc (suc (suc (suc (suc (suc (suc (suc (suc zero)))))))))) lt = refl
hex_word (suc (suc (suc (suc (suc (suc (suc (suc (suc (suc (suc zero))))))))))) lt = refl
hex_word (suc (suc (suc (suc (suc (suc (suc (suc (suc (suc (suc (suc zero)))))))))))) lt = refl
hex_word (suc (suc (suc (suc (suc (suc (suc (suc (suc (suc (suc (suc (suc zero))))))))))))) lt = refl
hex_word (suc (suc (suc (suc (suc (suc (suc (suc (suc (suc (suc (suc (suc (suc zero)))))))))))))) lt = refl
hex_word (suc (suc (suc (suc (suc (suc (suc (suc (suc (suc (suc (suc (suc (suc (suc zero))))))))))))))) lt = refl
hex_word (suc (suc (suc (suc (suc (suc (suc (suc (suc (suc (suc (suc (suc (suc (suc (suc d)))))))))))))))) lt = absurd (omega arith)

hex_digit : (d : ℕ) → d < 16 → is_hex_digit (digit_char d) ≡ true
hex_digit zero lt = refl
hex_digit (suc zero) lt = refl
hex_digit (suc (suc zero)) lt = refl
hex_digit (suc (suc (suc zero))) lt = refl
hex_digit (suc (suc (suc (suc zero)))) lt = refl
hex_digit (suc (suc (suc (suc (suc zero))))) lt = refl
hex_digit (suc (suc (suc (suc (suc (suc zero)))))) lt = refl
hex_digit (suc (suc (suc (suc (suc (suc (suc zero))))))) lt = refl
hex_digit (suc (suc (suc (suc (suc (suc (suc (suc zero)))))))) lt = refl
hex_digit (suc (suc (suc (suc (suc (suc (suc (suc (suc zero))))))))) lt = refl
hex_digit (suc (suc (suc (suc (suc (suc (suc (suc (suc (suc zero)))))))))) lt = refl
hex_digit (suc (suc (suc (suc (suc (suc (suc (suc (suc (suc (suc zero))))))))))) lt = refl
hex_digit (suc (suc (suc (suc (suc (suc (suc (suc (suc (suc (suc (suc zero)))))))))))) lt = refl
hex_digit (suc (suc (suc (suc (suc (suc (suc (suc (suc (suc (suc (suc (suc zero))))))))))))) lt = refl
hex_digit (suc (suc (suc (suc (suc (suc (suc (suc (suc (suc (suc (suc (suc (suc zero)))))))))))))) lt = refl
hex_digit (suc (suc (suc (suc (suc (suc (suc (suc (suc (suc (suc (suc (suc (suc (suc zero))))))))))))))) lt = refl
hex_digit (suc (suc (suc (suc (suc (suc (suc (suc (suc (suc (suc (suc (suc (suc (suc (suc d)))))))))))))))) lt = absurd (omega arith)

no_zero_digit : (d : ℕ) → 0 < d → d < 16 → eqb (digit_char d) 48 ≡ false
no_zero_digit zero positive lt = absurd (omega arith)
no_zero_digit (suc zero) positive lt = refl
no_zero_digit (suc (suc zero)) positive lt = refl
no_zero_digit (suc (suc (suc zero))) positive lt = refl
no_zero_digit (suc (suc (suc (suc zero)))) positive lt = refl
no_zero_digit (suc (suc (suc (suc (suc zero))))) positive lt = refl
no_zero_digit (suc (suc (suc (suc (suc (suc zero)))))) positive lt = refl
no_zero_digit (suc (suc (suc (suc (suc (suc (suc zero))))))) positive lt = refl
no_zero_digit (suc (suc (suc (suc (suc (suc (suc (suc zero)))))))) positive lt = refl
no_zero_digit (suc (suc (suc (suc (suc (suc (suc (suc (suc zero))))))))) positive lt = refl
no_zero_digit (suc (suc (suc (suc (suc (suc (suc (suc (suc (suc zero)))))))))) positive lt = refl
no_zero_digit (suc (suc (suc (suc (suc (suc (suc (suc (suc (suc (suc zero))))))))))) positive lt = refl
no_zero_digit (suc (suc (suc (suc (suc (suc (suc (suc (suc (suc (suc (suc zero)))))))))))) positive lt = refl
no_zero_digit (suc (suc (suc (suc (suc (suc (suc (suc (suc (suc (suc (suc (suc zero))))))))))))) positive lt = refl
no_zero_digit (suc (suc (suc (suc (suc (suc (suc (suc (suc (suc (suc (suc (suc (suc zero)))))))))))))) positive lt = refl
no_zero_digit (suc (suc (suc (suc (suc (suc (suc (suc (suc (suc (suc (suc (suc (suc (suc zero))))))))))))))) positive lt = refl
no_zero_digit (suc (suc (suc (suc (suc (suc (suc (suc (suc (suc (suc (suc (suc (suc (suc (suc d)))))))))))))))) positive lt = absurd (omega arith)

pub hex_words : (bytes : List ℕ) → All (λ b. b < 256) bytes → list_all is_word_byte (flat_map hex_of bytes) ≡ true
hex_words [] small = refl
hex_words (b ∷ bytes) small =
    let lt : b < 256 = All-head (λ b. b < 256) b bytes small in
    rw (hex_word (b / 16) (omega arith), hex_word (b % 16) (omega arith)) (hex_words bytes (All-tail (λ b. b < 256) b bytes small))

pub hex_passes : (bytes : List ℕ) (n : ℕ) → All (λ b. b < 256) bytes → Passes value_end (within n) (flat_map hex_of bytes) (within n)
hex_passes bytes n small = passes_spared is_word_byte spares_word (flat_map hex_of bytes) n (hex_words bytes small)

-- ---- codes
single_passes : (bytes : List ℕ) (n : ℕ) → may_all_be_quoted bytes ≡ true → Passes value_end (quotes_in q.Single n) bytes (quotes_in q.Single n)
single_passes [] n all = refl
single_passes (b ∷ bytes) n all =
    let parts = and_parts (may_be_quoted b) (may_all_be_quoted bytes) all in
    let front = and_parts (leb 32 b && leb b 126 && not (eqb b 39)) (not (eqb b 92)) parts.0 in
    let other = not-true (eqb b 39) (and_parts (leb 32 b && leb b 126) (not (eqb b 39)) front.0).1 in
    (refl, (quotes_in q.Single n, rw other refl, single_passes bytes n parts.1))

pub code_passes : (what n : ℕ) → Passes value_end (within n) (code_text what) (within n)
code_passes what n = by_form (may_all_be_quoted (bytes_of what)) refl where
  by_form : (all : Bool) → may_all_be_quoted (bytes_of what) ≡ all → Passes value_end (within n) (code_text what) (within n)
  by_form true all =
      subst (λ (t : List ℕ). Passes value_end (within n) t (within n)) (sym (code_text-quoted what all)) (
        and_right (is_outside (within n)) (value_end 39) refl,
        (
          quotes_in q.Single n,
          refl,
          passes-append value_end (bytes_of what) (39 ∷ []) (quotes_in q.Single n) (quotes_in q.Single n) (within n) (single_passes (bytes_of what) n all) (refl, (within n, refl, refl)),
        ),
      )
  by_form false some =
      subst (λ (t : List ℕ). Passes value_end (within n) t (within n)) (sym (code_text-hex what some))
      (passes_spared is_word_byte spares_word (codes "0x" ++ flat_map hex_of (bytes_of what)) n (hex_words (bytes_of what) (small_bytes what)))

-- ---- texts in quotes

-- within the quotes
abbrev Stays : ℕ → List ℕ → Type 0
Stays n text = Passes value_end (quotes_in q.Double n) text (quotes_in q.Double n)

escaped : (n b : ℕ) → step (quotes_in q.Escape n) b ≡ Some (quotes_in q.Double n) → Stays n (92 ∷ b ∷ [])
escaped n b stepped = (refl, (quotes_in q.Escape n, refl, (refl, (quotes_in q.Double n, stepped, refl))))

low_stays : (l n : ℕ) → 0 < l → l < 16 → Stays n (quoted_byte l)
low_stays l n positive lt =
    let stepped : step (quotes_in q.HexZero n) (digit_char l) ≡ Some (quotes_in q.Double n) = rw (hex_digit l lt, no_zero_digit l positive lt) refl in
    subst (λ (t : List ℕ). Stays n t) (sym (low_byte l positive lt))
    (refl, (quotes_in q.Escape n, refl, (refl, (quotes_in q.Hex n, refl, (refl, (quotes_in q.HexZero n, refl, (refl, (quotes_in q.Double n, stepped, refl))))))))

one_stays : (l n : ℕ) → l < 16 → Stays n (quoted_byte (16 + l))
one_stays l n lt =
    let stepped : step (quotes_in q.HexOne n) (digit_char l) ≡ Some (quotes_in q.Double n) = rw (hex_digit l lt) refl in
    subst (λ (t : List ℕ). Stays n t) (sym (one_byte l lt))
    (refl, (quotes_in q.Escape n, refl, (refl, (quotes_in q.Hex n, refl, (refl, (quotes_in q.HexOne n, refl, (refl, (quotes_in q.Double n, stepped, refl))))))))

delete_stays : (n : ℕ) → Stays n (quoted_byte 127)
delete_stays n = (refl, (quotes_in q.Escape n, refl, (refl, (quotes_in q.Hex n, refl, (refl, (quotes_in q.HexSeven n, refl, (refl, (quotes_in q.Double n, refl, refl))))))))

plain_stays : (b n : ℕ) → eqb b 34 ≡ false → eqb b 92 ≡ false → 32 ≤ b → eqb b 127 ≡ false → Stays n (quoted_byte b)
plain_stays b n e34 e92 large e127 =
    subst (λ (t : List ℕ). Stays n t) (sym (plain_byte b e34 e92 (le-ltb b 32 large) e127)) (refl, (quotes_in q.Double n, rw (e34, e92) refl, refl))

byte_stays : (b n : ℕ) → 0 < b → Stays n (quoted_byte b)
byte_stays b n positive =
    elim (cases_lt b 16) [
      | inl lt ↦ low_stays b n positive lt
      | inr le ↦
          elim (cases_lt b 32) [
            | inl lt ↦ at (16 + (b - 16)) (omega arith) (one_stays (b - 16) n (omega arith))
            | inr large ↦ by_tests large (eqb b 34) (eqb b 92) (eqb b 127) refl refl refl
          ]
    ] where
      at : (c : ℕ) → c ≡ b → Stays n (quoted_byte c) → Stays n (quoted_byte b)
      at c is h = subst (λ (x : ℕ). Stays n (quoted_byte x)) is h

      by_tests : 32 ≤ b → (t34 t92 t127 : Bool) → eqb b 34 ≡ t34 → eqb b 92 ≡ t92 → eqb b 127 ≡ t127 → Stays n (quoted_byte b)
      by_tests large true t92 t127 e34 e92 e127 = at 34 (sym (eqb-true b 34 e34)) (escaped n 34 refl)
      by_tests large false true t127 e34 e92 e127 = at 92 (sym (eqb-true b 92 e92)) (escaped n 92 refl)
      by_tests large false false true e34 e92 e127 = at 127 (sym (eqb-true b 127 e127)) (delete_stays n)
      by_tests large false false false e34 e92 e127 = plain_stays b n e34 e92 large e127

bytes_stay : (bytes : List ℕ) (n : ℕ) → Positive bytes → Stays n (flat_map quoted_byte bytes)
bytes_stay [] n all = refl
bytes_stay (b ∷ bytes) n all =
    passes-append value_end (quoted_byte b) (flat_map quoted_byte bytes) (quotes_in q.Double n) (quotes_in q.Double n) (quotes_in q.Double n) (byte_stays b n (All-head (λ b. 0 < b) b bytes all)) (bytes_stay bytes n (All-tail (λ b. 0 < b) b bytes all))

pub quoted_passes : (bytes : List ℕ) (n : ℕ) → Positive bytes → Passes value_end (within n) (quoted bytes) (within n)
quoted_passes bytes n all = (
  and_right (is_outside (within n)) (value_end 34) refl,
  (
    quotes_in q.Double n,
    refl,
    passes-append value_end (flat_map quoted_byte bytes) (34 ∷ []) (quotes_in q.Double n) (quotes_in q.Double n) (within n) (bytes_stay bytes n all) (refl, (within n, refl, refl)),
  ),
)

-- ---- the letters of a kind, and a colon

pub letters_are_words : (kind : Kind) → list_all is_word_byte (kind_letters kind) ≡ true
letters_are_words k.Bool = refl
letters_are_words k.Int8 = refl
letters_are_words k.Int16 = refl
letters_are_words k.Int32 = refl
letters_are_words k.Int64 = refl
letters_are_words k.UInt8 = refl
letters_are_words k.UInt16 = refl
letters_are_words k.UInt32 = refl
letters_are_words k.UInt64 = refl
letters_are_words k.Text = refl
letters_are_words k.Message = refl
letters_are_words k.Messenger = refl
letters_are_words k.Raw = refl

pub letters_pass : (kind : Kind) (payload : List ℕ) (n : ℕ) → Passes value_end (within n) payload (within n) → Passes value_end (within n) (kind_letters kind ++ 58 ∷ payload) (within n)
letters_pass kind payload n h =
    passes-append value_end (kind_letters kind) (58 ∷ payload) (within n) (within n) (within n) (passes_spared is_word_byte spares_word (kind_letters kind) n (letters_are_words kind))
    (and_right (is_outside (within n)) (value_end 58) refl, (within n, refl, h))

-- ---- braces
pub inside : (n : ℕ) → is_outside (within (n + 1)) ≡ false
inside n = rw (ne_eqb (n + 1) 0 (λ e. omega arith)) refl

pub closes : (n : ℕ) → step (within (n + 1)) 125 ≡ Some (within n)
closes n = let less : n + 1 - 1 ≡ n = omega arith in rw less refl

-- a body in braces
pub braced_passes : (body : List ℕ) (n : ℕ) → Passes value_end (within (n + 1)) body (within (n + 1)) → Passes value_end (within n) (123 ∷ body ++ 125 ∷ []) (within n)
braced_passes body n h = (
  and_right (is_outside (within n)) (value_end 123) refl,
  (
    within (n + 1),
    refl,
    passes-append value_end body (125 ∷ []) (within (n + 1)) (within (n + 1)) (within n) h (and_right (is_outside (within (n + 1))) (value_end 125) refl, (within n, closes n, refl)),
  ),
)
