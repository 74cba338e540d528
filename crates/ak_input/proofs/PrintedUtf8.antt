-- What is printed of a message is UTF-8.
use Rattle.std.proofs.Common.{◌≡◌, ℕ, zero, suc, ◌+◌, ◌/◌, ◌%◌, ◌^◌, ◌<◌, ◌≤◌, Bool, true, false, not, ◌&&◌, ◌||◌, cond, eqb, leb, ltb, List, [], ◌∷◌, ◌++◌, codes, ℤ, pos, negsuc, refl, sym, ap, subst, inl, inr, arith}
use lib.Utf8.{scalar, scalars, encode, encodes}
use Rattle.std.specs.Prelude.{All, IsUtf8, unsigned_abs}
use Rattle.std.specs.Char.{digit_char}
use Rattle.std.specs.Fmt.{decimal, signed_decimal}
use Rattle.std.specs.List.{flat_map, list_all}
use Rattle.std.specs.Str.{IsAscii}
use Rattle.std.proofs.lemmas.Bool.{and_from, and_parts, ltb-true, leb-true, lt-ltb, le-ltb, le-leb, ne_eqb, cond_both, cases_lt}
use Rattle.std.proofs.lemmas.List.{append-nil}
use Rattle.std.proofs.lemmas.List.Concat.{flat_map-append}
use Rattle.std.proofs.lemmas.List.Elements.{All-head, All-tail}
use Rattle.std.proofs.lemmas.Str.{IsUtf8-append, IsUtf8-nil, IsUtf8-from_ascii, encode_ascii}
use Rattle.ak_base.specs.Code.{bytes_of, hex_of, may_be_quoted, may_all_be_quoted, code_text}
use Rattle.ak_base.specs.Word.{is_word_byte}
use Rattle.ak_base.proofs.Surface.{code_text-hex, code_text-quoted, word_byte, word_parts}
use Rattle.ak_message.specs.declared.address.Address.{Address}
use Rattle.ak_message.specs.declared.address.Target.{Target}
use Rattle.ak_message.specs.declared.address.Target.TheVariants as target
use Rattle.ak_message.specs.declared.kind.Kind.{Kind}
use Rattle.ak_message.specs.Fields.{IsField}
use Rattle.ak_message.specs.Kind.{kind_letters}
use Rattle.ak_input.specs.Laws.{PrintedTextsAreUtf8}
use Rattle.ak_message.specs.Message.{ValueData, bool_value, int8_value, int16_value, int32_value, int64_value, uint8_value, uint16_value, uint32_value, uint64_value, text_value, message_value, messenger_value, raw_value, NestedValues, no_values, then_value, NestedFields, no_fields, then_field, FieldData, kind_of, listed_values, nested_fields, listed_fields}
use Rattle.ak_message.specs.MessageCode.{listed_fields-nested}
use Rattle.ak_input.specs.MessageText.{quoted_byte, quoted, target_text, payload_text, more_values_text, nested_values_text, nested_fields_text}
use Rattle.ak_message.specs.Whole.{FitsTarget, FitsAddress, FitsValue, FitsValues, FitsFields}
use Rattle.ak_input.proofs.CodeLaws.{small_bytes}
use Rattle.ak_input.proofs.Passing.{is_digit, decimal_digits, hex_words, letters_are_words, small_8, small_16, small_32, small_64}
use Rattle.ak_input.proofs.PiecesAgain.{raw_small}
use Rattle.ak_input.proofs.QuotedLaws.{plain_byte}

-- ---- ASCII

abbrev is_ascii : ℕ → Bool
is_ascii b = ltb b 128

ascii_at : (text : List ℕ) → list_all is_ascii text ≡ true → IsAscii text
ascii_at [] all i = omega arith
ascii_at (b ∷ text) all zero = ltb-true b 128 (and_parts (is_ascii b) (list_all is_ascii text) all).0
ascii_at (b ∷ text) all (suc i) = ascii_at text (and_parts (is_ascii b) (list_all is_ascii text) all).1 i

ascii_utf8 : (text : List ℕ) → list_all is_ascii text ≡ true → IsUtf8 text
ascii_utf8 text all = IsUtf8-from_ascii text (ascii_at text all)

all_pass : (test other : ℕ → Bool) → ((b : ℕ) → test b ≡ true → other b ≡ true) → (text : List ℕ) → list_all test text ≡ true → list_all other text ≡ true
all_pass test other wider [] all = refl
all_pass test other wider (b ∷ text) all =
    let parts = and_parts (test b) (list_all test text) all in
    and_from (other b) (list_all other text) (wider b parts.0) (all_pass test other wider text parts.1)

word_ascii : (b : ℕ) → is_word_byte b ≡ true → is_ascii b ≡ true
word_ascii b h = lt-ltb b 128 (word_byte b h).1

digit_ascii : (b : ℕ) → is_digit b ≡ true → is_ascii b ≡ true
digit_ascii b h =
    let high = leb-true b 57 (and_parts (leb 48 b) (leb b 57) h).1 in
    lt-ltb b 128 (omega arith)

quotable_ascii : (b : ℕ) → may_be_quoted b ≡ true → is_ascii b ≡ true
quotable_ascii b h =
    let front = and_parts (leb 32 b && leb b 126 && not (eqb b 39)) (not (eqb b 92)) h in
    let range = and_parts (leb 32 b && leb b 126) (not (eqb b 39)) front.0 in
    let high = leb-true b 126 (and_parts (leb 32 b) (leb b 126) range.0).1 in
    lt-ltb b 128 (omega arith)

words_utf8 : (text : List ℕ) → list_all is_word_byte text ≡ true → IsUtf8 text
words_utf8 text all = ascii_utf8 text (all_pass is_word_byte is_ascii word_ascii text all)

-- an ASCII byte in front
front_utf8 : (b : ℕ) (text : List ℕ) → is_ascii b ≡ true → IsUtf8 text → IsUtf8 (b ∷ text)
front_utf8 b text low h = IsUtf8-append (b ∷ []) text (ascii_utf8 (b ∷ []) (and_from (is_ascii b) true low refl)) h

-- ---- codes and numbers

code_utf8 : (what : ℕ) → IsUtf8 (code_text what)
code_utf8 what = by_form (may_all_be_quoted (bytes_of what)) refl where
  by_form : (all : Bool) → may_all_be_quoted (bytes_of what) ≡ all → IsUtf8 (code_text what)
  by_form true all =
      subst IsUtf8 (sym (code_text-quoted what all))
      (front_utf8 39 (bytes_of what ++ 39 ∷ []) refl (IsUtf8-append (bytes_of what) (39 ∷ []) (ascii_utf8 (bytes_of what) (all_pass may_be_quoted is_ascii quotable_ascii (bytes_of what) all)) (ascii_utf8 (39 ∷ []) refl)))
  by_form false some =
      subst IsUtf8 (sym (code_text-hex what some)) (words_utf8 (codes "0x" ++ flat_map hex_of (bytes_of what)) (hex_words (bytes_of what) (small_bytes what)))

decimal_utf8 : (n : ℕ) → n < 10 ^ 20 → IsUtf8 (decimal n)
decimal_utf8 n small = ascii_utf8 (decimal n) (all_pass is_digit is_ascii digit_ascii (decimal n) (decimal_digits n small))

signed_utf8 : (z : ℤ) → unsigned_abs z < 10 ^ 20 → IsUtf8 (signed_decimal z)
signed_utf8 (pos n) small = decimal_utf8 n small
signed_utf8 (negsuc n) small = front_utf8 45 (decimal (suc n)) refl (decimal_utf8 (suc n) small)

-- ---- texts in quotes: a character of one byte is printed in ASCII, and any other one as it is

hex_ascii : (d : ℕ) → d < 16 → is_ascii (digit_char d) ≡ true
hex_ascii zero lt = refl
hex_ascii (suc zero) lt = refl
hex_ascii (suc (suc zero)) lt = refl
hex_ascii (suc (suc (suc zero))) lt = refl
hex_ascii (suc (suc (suc (suc zero)))) lt = refl
hex_ascii (suc (suc (suc (suc (suc zero))))) lt = refl
hex_ascii (suc (suc (suc (suc (suc (suc zero)))))) lt = refl
hex_ascii (suc (suc (suc (suc (suc (suc (suc zero))))))) lt = refl
hex_ascii (suc (suc (suc (suc (suc (suc (suc (suc zero)))))))) lt = refl
hex_ascii (suc (suc (suc (suc (suc (suc (suc (suc (suc zero))))))))) lt = refl
hex_ascii (suc (suc (suc (suc (suc (suc (suc (suc (suc (suc zero)))))))))) lt = refl
hex_ascii (suc (suc (suc (suc (suc (suc (suc (suc (suc (suc (suc zero))))))))))) lt = refl
hex_ascii (suc (suc (suc (suc (suc (suc (suc (suc (suc (suc (suc (suc zero)))))))))))) lt = refl
hex_ascii (suc (suc (suc (suc (suc (suc (suc (suc (suc (suc (suc (suc (suc zero))))))))))))) lt = refl
hex_ascii (suc (suc (suc (suc (suc (suc (suc (suc (suc (suc (suc (suc (suc (suc zero)))))))))))))) lt = refl
hex_ascii (suc (suc (suc (suc (suc (suc (suc (suc (suc (suc (suc (suc (suc (suc (suc zero))))))))))))))) lt = refl
hex_ascii (suc (suc (suc (suc (suc (suc (suc (suc (suc (suc (suc (suc (suc (suc (suc (suc d)))))))))))))))) lt = absurd (omega arith)

abbrev is_control : ℕ → Bool
is_control c = (leb 1 c && ltb c 32) || eqb c 127

abbrev AreAscii : List ℕ → Type 0
AreAscii text = list_all is_ascii text ≡ true

hex_pair : (c : ℕ) → c < 128 → AreAscii (codes "\\x" ++ hex_of c)
hex_pair c lt = rw (hex_ascii (c / 16) (omega arith), hex_ascii (c % 16) (omega arith)) refl

low_bytes : (c : ℕ) → c < 128 → AreAscii (quoted_byte c)
low_bytes c lt =
    let low : is_ascii c ≡ true = lt-ltb c 128 lt in
    let alone : AreAscii (c ∷ []) = and_from (is_ascii c) true low refl in
    cond_both (eqb c 34 || eqb c 92) (92 ∷ c ∷ []) (cond (is_control c) (codes "\\x" ++ hex_of c) (c ∷ [])) AreAscii (λ e. alone)
    (λ e. cond_both (is_control c) (codes "\\x" ++ hex_of c) (c ∷ []) AreAscii (λ e. hex_pair c lt) (λ e. alone))

abbrev is_high : ℕ → Bool
is_high b = leb 128 b

kept : (bytes : List ℕ) → list_all is_high bytes ≡ true → flat_map quoted_byte bytes ≡ bytes
kept [] all = refl
kept (b ∷ bytes) all =
    let parts = and_parts (is_high b) (list_all is_high bytes) all in
    let high = leb-true 128 b parts.0 in
    let alone = plain_byte b (ne_eqb b 34 (λ e. omega arith)) (ne_eqb b 92 (λ e. omega arith)) (le-ltb b 32 (omega arith)) (ne_eqb b 127 (λ e. omega arith)) in
    rw alone (ap (λ (t : List ℕ). b ∷ t) (kept bytes parts.1))

two_high : (a b : ℕ) → 128 ≤ a → 128 ≤ b → list_all is_high (a ∷ b ∷ []) ≡ true
two_high a b p q = and_from (is_high a) (is_high b && true) (le-leb 128 a p) (and_from (is_high b) true (le-leb 128 b q) refl)

more_high : (a : ℕ) (bytes : List ℕ) → 128 ≤ a → list_all is_high bytes ≡ true → list_all is_high (a ∷ bytes) ≡ true
more_high a bytes p all = and_from (is_high a) (list_all is_high bytes) (le-leb 128 a p) all

high_bytes : (c : ℕ) → 128 ≤ c → list_all is_high (encode c) ≡ true
unfolding encode
high_bytes c le = rw (le-ltb c 128 le) (by_size (ltb c 2048) (ltb c 65536)) where
  by_size : (two three : Bool)
      → list_all is_high (cond two ((192 + c / 64) ∷ (128 + c % 64) ∷ []) (cond three ((224 + c / 4096) ∷ (128 + (c / 64) % 64) ∷ (128 + c % 64) ∷ []) ((240 + c / 262144) ∷ (128 + (c / 4096) % 64) ∷ (128 + (c / 64) % 64) ∷ (128 + c % 64) ∷ []))) ≡ true
  by_size true three = two_high (192 + c / 64) (128 + c % 64) (omega arith) (omega arith)
  by_size false true =
      more_high (224 + c / 4096) ((128 + (c / 64) % 64) ∷ (128 + c % 64) ∷ []) (omega arith) (two_high (128 + (c / 64) % 64) (128 + c % 64) (omega arith) (omega arith))
  by_size false false =
      more_high (240 + c / 262144) ((128 + (c / 4096) % 64) ∷ (128 + (c / 64) % 64) ∷ (128 + c % 64) ∷ []) (omega arith)
      (more_high (128 + (c / 4096) % 64) ((128 + (c / 64) % 64) ∷ (128 + c % 64) ∷ []) (omega arith) (two_high (128 + (c / 64) % 64) (128 + c % 64) (omega arith) (omega arith)))

char_utf8 : (c : ℕ) → scalar c ≡ true → IsUtf8 (flat_map quoted_byte (encode c))
char_utf8 c is =
    elim (cases_lt c 128) [
      | inl lt ↦
          let printed : IsUtf8 (quoted_byte c ++ []) = subst IsUtf8 (sym (append-nil (quoted_byte c))) (ascii_utf8 (quoted_byte c) (low_bytes c lt)) in
          subst (λ (t : List ℕ). IsUtf8 (flat_map quoted_byte t)) (sym (encode_ascii c lt)) printed
      | inr le ↦ subst IsUtf8 (sym (kept (encode c) (high_bytes c le))) (c ∷ [], (and_from (scalar c) true is refl, append-nil (encode c)))
    ]

chars_utf8 : (cs : List ℕ) → scalars cs ≡ true → IsUtf8 (flat_map quoted_byte (encodes cs))
chars_utf8 [] all = IsUtf8-nil
chars_utf8 (c ∷ cs) all =
    let parts = and_parts (scalar c) (scalars cs) all in
    subst IsUtf8 (sym (flat_map-append quoted_byte (encode c) (encodes cs)))
    (IsUtf8-append (flat_map quoted_byte (encode c)) (flat_map quoted_byte (encodes cs)) (char_utf8 c parts.0) (chars_utf8 cs parts.1))

quoted_utf8 : (bytes : List ℕ) → IsUtf8 bytes → IsUtf8 (quoted bytes)
quoted_utf8 bytes h =
    let body : IsUtf8 (flat_map quoted_byte bytes) = subst (λ (t : List ℕ). IsUtf8 (flat_map quoted_byte t)) h.1.1 (chars_utf8 h.0 h.1.0) in
    front_utf8 34 (flat_map quoted_byte bytes ++ 34 ∷ []) refl (IsUtf8-append (flat_map quoted_byte bytes) (34 ∷ []) body (ascii_utf8 (34 ∷ []) refl))

-- ---- values and fields

target_utf8 : (t : Target) → FitsTarget t → IsUtf8 (target_text t)
target_utf8 target.Preferred fits = ascii_utf8 (codes "p") refl
target_utf8 (target.Token n) fits = decimal_utf8 n (omega arith)

address_utf8 : (a : Address) → FitsAddress a → IsUtf8 (decimal a.looper ++ 46 ∷ target_text a.target)
address_utf8 a fits =
    IsUtf8-append (decimal a.looper) (46 ∷ target_text a.target) (decimal_utf8 a.looper (omega (arith, fits.0))) (front_utf8 46 (target_text a.target) refl (target_utf8 a.target fits.1))

letters_utf8 : (kind : Kind) (payload : List ℕ) → IsUtf8 payload → IsUtf8 (kind_letters kind ++ 58 ∷ payload)
letters_utf8 kind payload h =
    IsUtf8-append (kind_letters kind) (58 ∷ payload) (words_utf8 (kind_letters kind) (letters_are_words kind)) (front_utf8 58 payload refl h)

mutual
  payload_utf8 : (v : ValueData) → FitsValue v → IsUtf8 (payload_text v)
  payload_utf8 (bool_value true) fits = ascii_utf8 (codes "true") refl
  payload_utf8 (bool_value false) fits = ascii_utf8 (codes "false") refl
  payload_utf8 (int8_value z) fits = signed_utf8 z (small_8 z fits)
  payload_utf8 (int16_value z) fits = signed_utf8 z (small_16 z fits)
  payload_utf8 (int32_value z) fits = signed_utf8 z (small_32 z fits)
  payload_utf8 (int64_value z) fits = signed_utf8 z (small_64 z fits)
  payload_utf8 (uint8_value n) fits = decimal_utf8 n (omega (arith, fits))
  payload_utf8 (uint16_value n) fits = decimal_utf8 n (omega (arith, fits))
  payload_utf8 (uint32_value n) fits = decimal_utf8 n (omega (arith, fits))
  payload_utf8 (uint64_value n) fits = decimal_utf8 n (omega (arith, fits))
  payload_utf8 (text_value bytes) fits = quoted_utf8 bytes fits.1
  payload_utf8 (message_value what fs popped) fits =
      front_utf8 123 (code_text what ++ nested_fields_text fs ++ 125 ∷ []) refl
      (IsUtf8-append (code_text what ++ nested_fields_text fs) (125 ∷ []) (IsUtf8-append (code_text what) (nested_fields_text fs) (code_utf8 what) (fields_utf8 fs fits.0.every_field fits.1)) (ascii_utf8 (125 ∷ []) refl))
  payload_utf8 (messenger_value a) fits = address_utf8 a fits
  payload_utf8 (raw_value bytes) fits = words_utf8 (flat_map hex_of bytes) (hex_words bytes (raw_small bytes fits.1))

  values_utf8 : (vs : NestedValues) → FitsValues vs → IsUtf8 (more_values_text vs)
  values_utf8 no_values fits = IsUtf8-nil
  values_utf8 (then_value v vs) fits =
      front_utf8 44 (kind_letters (kind_of v) ++ 58 ∷ payload_text v ++ more_values_text vs) refl
      (IsUtf8-append (kind_letters (kind_of v) ++ 58 ∷ payload_text v) (more_values_text vs) (letters_utf8 (kind_of v) (payload_text v) (payload_utf8 v fits.0)) (values_utf8 vs fits.1))

  all_values_utf8 : (vs : NestedValues) → FitsValues vs → IsUtf8 (nested_values_text vs)
  all_values_utf8 no_values fits = IsUtf8-nil
  all_values_utf8 (then_value v vs) fits =
      IsUtf8-append (kind_letters (kind_of v) ++ 58 ∷ payload_text v) (more_values_text vs) (letters_utf8 (kind_of v) (payload_text v) (payload_utf8 v fits.0)) (values_utf8 vs fits.1)

  fields_utf8 : (fs : NestedFields) → All IsField (listed_fields fs) → FitsFields fs → IsUtf8 (nested_fields_text fs)
  fields_utf8 no_fields every fits = IsUtf8-nil
  fields_utf8 (then_field name kind vs fs) every fits =
      let field : FieldData = record { name = name; kind = kind; values = listed_values vs } in
      let first = All-head IsField field (listed_fields fs) every in
      let later = All-tail IsField field (listed_fields fs) every in
      front_utf8 32 (name ++ 61 ∷ nested_values_text vs ++ nested_fields_text fs) refl
      (IsUtf8-append (name ++ 61 ∷ nested_values_text vs) (nested_fields_text fs)
      (IsUtf8-append name (61 ∷ nested_values_text vs) (words_utf8 name (word_parts name first.word).1) (front_utf8 61 (nested_values_text vs) refl (all_values_utf8 vs fits.0))) (fields_utf8 fs later fits.1))

pub printed_utf8 : PrintedTextsAreUtf8
printed_utf8 m whole =
    let every : All IsField (listed_fields (nested_fields m.fields)) = subst (λ (fs : List FieldData). All IsField fs) (sym (listed_fields-nested m.fields)) whole.0.every_field in
    IsUtf8-append (code_text m.what) (nested_fields_text (nested_fields m.fields)) (code_utf8 m.what) (fields_utf8 (nested_fields m.fields) every whole.1)
