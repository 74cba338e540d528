-- The text of a value closes what it opens, so values between commas and fields between blanks are the pieces of their text.
use Rattle.std.proofs.Common.{◌≡◌, ℕ, zero, suc, ◌+◌, ◌<◌, true, false, List, [], ◌∷◌, ◌++◌, get_or, codes, Some, refl, sym, subst, arith}
use Rattle.std.specs.Prelude.{All, Contains}
use Rattle.std.specs.Fmt.{decimal}
use Rattle.std.proofs.lemmas.Bool.{and_left, and_right}
use Rattle.std.proofs.lemmas.List.{append-nil}
use Rattle.std.proofs.lemmas.List.Elements.{All-nil, All-cons, All-head, All-tail}
use Rattle.ak_base.specs.Code.{code_text}
use Rattle.ak_base.specs.Word.{is_word_byte, is_word}
use Rattle.ak_base.proofs.Surface.{word_parts}
use Rattle.ak_message.specs.declared.address.Address.{Address}
use Rattle.ak_message.specs.declared.address.Target.{Target}
use Rattle.ak_message.specs.declared.address.Target.TheVariants as target
use Rattle.ak_input.specs.declared.marks.Marks.{Marks}
use Rattle.ak_input.specs.declared.pieces.Separator.{Separator}
use Rattle.ak_input.specs.declared.pieces.Separator.TheVariants as by
use Rattle.ak_message.specs.Fields.{IsField}
use Rattle.ak_message.specs.Kind.{kind_letters}
use Rattle.ak_input.specs.Marks.{start, is_outside}
use Rattle.ak_message.specs.Message.{ValueData, bool_value, int8_value, int16_value, int32_value, int64_value, uint8_value, uint16_value, uint32_value, uint64_value, text_value, message_value, messenger_value, raw_value, NestedValues, no_values, then_value, NestedFields, no_fields, then_field, FieldData, kind_of, listed_values, listed_fields}
use Rattle.ak_input.specs.MessageText.{target_text, payload_text, more_values_text, nested_values_text, nested_fields_text, value_text, field_texts}
use Rattle.ak_input.specs.Pieces.{separates, pieces_from, pieces_of}
use Rattle.ak_message.specs.Whole.{FitsTarget, FitsAddress, FitsValue, FitsValues, FitsFields}
use Rattle.ak_input.proofs.Passing.{within, value_end, word_end, Passes, passes-append, passes_fewer, fewer_words, fewer_commas, fewer_blanks, passes_spared, spares_word, small_8, small_16, small_32, small_64, decimal_passes, signed_passes, hex_passes, code_passes, quoted_passes, letters_pass, inside, braced_passes}
use Rattle.ak_input.proofs.QuotedLaws.{Positive}

-- ---- what is known of a value that fits

-- a text has no zero byte
pub no_zeros : (bytes : List ℕ) → (Contains bytes 0 → ⊥) → Positive bytes
no_zeros [] none = All-nil (λ b. 0 < b)
no_zeros (zero ∷ bytes) none = absurd (none (0, omega arith, refl))
no_zeros (suc b ∷ bytes) none =
    All-cons (λ b. 0 < b) (suc b) bytes (omega arith) (no_zeros bytes (λ c. none (suc c.0, omega (arith, c.1), c.2)))

-- raw bytes are bytes
pub raw_small : (bytes : List ℕ) → ((i : ℕ) → get_or bytes i 0 < 256) → All (λ b. b < 256) bytes
raw_small [] small = All-nil (λ b. b < 256)
raw_small (b ∷ bytes) small = All-cons (λ b. b < 256) b bytes (small 0) (raw_small bytes (λ i. small (suc i)))

-- ---- the text of a value

target_passes : (t : Target) (n : ℕ) → FitsTarget t → Passes value_end (within n) (target_text t) (within n)
target_passes target.Preferred n fits = passes_spared is_word_byte spares_word (codes "p") n refl
target_passes (target.Token x) n fits = decimal_passes x n (omega arith)

address_passes : (a : Address) (n : ℕ) → FitsAddress a → Passes value_end (within n) (decimal a.looper ++ 46 ∷ target_text a.target) (within n)
address_passes a n fits =
    passes-append value_end (decimal a.looper) (46 ∷ target_text a.target) (within n) (within n) (within n) (decimal_passes a.looper n (omega (arith, fits.0)))
    (and_right (is_outside (within n)) (value_end 46) refl, (within n, refl, target_passes a.target n fits.1))

-- the words of a message are parted by blanks, and all is in braces
mutual
  pub payload_passes : (v : ValueData) (n : ℕ) → FitsValue v → Passes value_end (within n) (payload_text v) (within n)
  payload_passes (bool_value true) n fits = passes_spared is_word_byte spares_word (codes "true") n refl
  payload_passes (bool_value false) n fits = passes_spared is_word_byte spares_word (codes "false") n refl
  payload_passes (int8_value z) n fits = signed_passes z n (small_8 z fits)
  payload_passes (int16_value z) n fits = signed_passes z n (small_16 z fits)
  payload_passes (int32_value z) n fits = signed_passes z n (small_32 z fits)
  payload_passes (int64_value z) n fits = signed_passes z n (small_64 z fits)
  payload_passes (uint8_value x) n fits = decimal_passes x n (omega (arith, fits))
  payload_passes (uint16_value x) n fits = decimal_passes x n (omega (arith, fits))
  payload_passes (uint32_value x) n fits = decimal_passes x n (omega (arith, fits))
  payload_passes (uint64_value x) n fits = decimal_passes x n (omega (arith, fits))
  payload_passes (text_value bytes) n fits = quoted_passes bytes n (no_zeros bytes fits.0.1)
  payload_passes (message_value what fs popped) n fits =
      braced_passes (code_text what ++ nested_fields_text fs) n
      (passes-append value_end (code_text what) (nested_fields_text fs) (within (n + 1)) (within (n + 1)) (within (n + 1)) (code_passes what (n + 1)) (fields_pass fs n fits.0.every_field fits.1))
  payload_passes (messenger_value a) n fits = address_passes a n fits
  payload_passes (raw_value bytes) n fits = hex_passes bytes n (raw_small bytes fits.1)

  -- commas stand in braces
  values_pass : (vs : NestedValues) (n : ℕ) → FitsValues vs → Passes value_end (within (n + 1)) (more_values_text vs) (within (n + 1))
  values_pass no_values n fits = refl
  values_pass (then_value v vs) n fits = (
    and_left (is_outside (within (n + 1))) (value_end 44) (inside n),
    (
      within (n + 1),
      refl,
      passes-append value_end (kind_letters (kind_of v) ++ 58 ∷ payload_text v) (more_values_text vs) (within (n + 1)) (within (n + 1)) (within (n + 1))
          (letters_pass (kind_of v) (payload_text v) (n + 1) (payload_passes v (n + 1) fits.0)) (values_pass vs n fits.1),
    ),
  )

  all_values_pass : (vs : NestedValues) (n : ℕ) → FitsValues vs → Passes value_end (within (n + 1)) (nested_values_text vs) (within (n + 1))
  all_values_pass no_values n fits = refl
  all_values_pass (then_value v vs) n fits =
      passes-append value_end (kind_letters (kind_of v) ++ 58 ∷ payload_text v) (more_values_text vs) (within (n + 1)) (within (n + 1)) (within (n + 1))
      (letters_pass (kind_of v) (payload_text v) (n + 1) (payload_passes v (n + 1) fits.0)) (values_pass vs n fits.1)

  fields_pass : (fs : NestedFields) (n : ℕ) → All IsField (listed_fields fs) → FitsFields fs → Passes value_end (within (n + 1)) (nested_fields_text fs) (within (n + 1))
  fields_pass no_fields n every fits = refl
  fields_pass (then_field name kind vs fs) n every fits =
      let field : FieldData = record { name = name; kind = kind; values = listed_values vs } in
      let first = All-head IsField field (listed_fields fs) every in
      let later = All-tail IsField field (listed_fields fs) every in (
        and_left (is_outside (within (n + 1))) (value_end 32) (inside n),
        (
          within (n + 1),
          refl,
          passes-append value_end (name ++ 61 ∷ nested_values_text vs) (nested_fields_text fs) (within (n + 1)) (within (n + 1)) (within (n + 1))
              (passes-append value_end name (61 ∷ nested_values_text vs) (within (n + 1)) (within (n + 1)) (within (n + 1)) (passes_spared is_word_byte spares_word name (n + 1) (word_parts name first.word).1)
              (and_right (is_outside (within (n + 1))) (value_end 61) refl, (within (n + 1), refl, all_values_pass vs n fits.0)))
              (fields_pass fs n later fits.1),
        ),
      )

pub value_passes : (v : ValueData) (n : ℕ) → FitsValue v → Passes value_end (within n) (value_text v) (within n)
value_passes v n fits = letters_pass (kind_of v) (payload_text v) n (payload_passes v n fits)

-- ---- a field, with its commas

more_pass : (vs : NestedValues) → FitsValues vs → Passes word_end start (more_values_text vs) start
more_pass no_values fits = refl
more_pass (then_value v vs) fits = (
  refl,
  (
    start,
    refl,
    passes-append word_end (value_text v) (more_values_text vs) start start start (passes_fewer value_end word_end fewer_words (value_text v) start start (value_passes v 0 fits.0)) (more_pass vs fits.1),
  ),
)

field_values_pass : (vs : NestedValues) → FitsValues vs → Passes word_end start (nested_values_text vs) start
field_values_pass no_values fits = refl
field_values_pass (then_value v vs) fits =
    passes-append word_end (value_text v) (more_values_text vs) start start start (passes_fewer value_end word_end fewer_words (value_text v) start start (value_passes v 0 fits.0)) (more_pass vs fits.1)

pub field_passes : (name : List ℕ) (vs : NestedValues) → is_word name ≡ true → FitsValues vs → Passes word_end start (name ++ 61 ∷ nested_values_text vs) start
field_passes name vs word fits =
    passes-append word_end name (61 ∷ nested_values_text vs) start start start (passes_fewer value_end word_end fewer_words name start start (passes_spared is_word_byte spares_word name 0 (word_parts name word).1))
    (refl, (start, refl, field_values_pass vs fits))

pub code_passes_word : (what : ℕ) → Passes word_end start (code_text what) start
code_passes_word what = passes_fewer value_end word_end fewer_words (code_text what) start start (code_passes what 0)

-- ---- pieces

last_piece : (by : Separator) (text : List ℕ) (m last : Marks) → Passes (separates by) m text last → is_outside last ≡ true → pieces_from by m text ≡ Some (text ∷ [])
unfolding pieces_from
last_piece by [] m last h out = let here : is_outside m ≡ true = subst (λ (x : Marks). is_outside x ≡ true) (sym h) out in rw here refl
last_piece by (b ∷ text) m last h out = rw (h.0, h.1.1, last_piece by text h.1.0 last h.1.2 out) refl

next_piece : (by : Separator) (text : List ℕ) (m last : Marks) (b : ℕ) (rest : List ℕ) (pieces : List (List ℕ)) → Passes (separates by) m text last → is_outside last ≡ true → separates by b ≡ true
    → pieces_from by start rest ≡ Some pieces → pieces_from by m (text ++ b ∷ rest) ≡ Some (text ∷ pieces)
unfolding pieces_from
next_piece by [] m last b rest pieces h out ends later =
    let here : is_outside m ≡ true = subst (λ (x : Marks). is_outside x ≡ true) (sym h) out in
    rw (here, ends, later) refl
next_piece by (c ∷ text) m last b rest pieces h out ends later =
    rw (h.0, h.1.1, next_piece by text h.1.0 last b rest pieces h.1.2 out ends later) refl

-- each value's text
abbrev pub value_texts : NestedValues → List (List ℕ)
value_texts no_values = []
value_texts (then_value v vs) = value_text v ∷ value_texts vs

-- values with commas between them
pub values_again : (v : ValueData) (vs : NestedValues) → FitsValue v → FitsValues vs → pieces_of by.Comma (value_text v ++ more_values_text vs) ≡ Some (value_text v ∷ value_texts vs)
values_again v no_values first fits =
    rw (append-nil (value_text v)) (last_piece by.Comma (value_text v) start start (passes_fewer value_end (separates by.Comma) fewer_commas (value_text v) start start (value_passes v 0 first)) refl)
values_again v (then_value w vs) first fits =
    next_piece by.Comma (value_text v) start start 44 (value_text w ++ more_values_text vs) (value_text w ∷ value_texts vs)
    (passes_fewer value_end (separates by.Comma) fewer_commas (value_text v) start start (value_passes v 0 first)) refl refl (values_again w vs fits.0 fits.1)

-- a word in front, and fields with a blank before each
pub words_again : (front : List ℕ) (fs : NestedFields) → Passes word_end start front start → All IsField (listed_fields fs) → FitsFields fs
    → pieces_of by.Blank (front ++ nested_fields_text fs) ≡ Some (front ∷ field_texts fs)
words_again front no_fields passes every fits =
    rw (append-nil front) (last_piece by.Blank front start start (passes_fewer word_end (separates by.Blank) fewer_blanks front start start passes) refl)
words_again front (then_field name kind vs fs) passes every fits =
    let field : FieldData = record { name = name; kind = kind; values = listed_values vs } in
    let first = All-head IsField field (listed_fields fs) every in
    let later = All-tail IsField field (listed_fields fs) every in
    next_piece by.Blank front start start 32 (name ++ 61 ∷ nested_values_text vs ++ nested_fields_text fs) ((name ++ 61 ∷ nested_values_text vs) ∷ field_texts fs)
    (passes_fewer word_end (separates by.Blank) fewer_blanks front start start passes) refl refl
    (words_again (name ++ 61 ∷ nested_values_text vs) fs (field_passes name vs first.word fits.0) later fits.1)
