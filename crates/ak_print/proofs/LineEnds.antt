-- No text that is printed has a line end in it.
use Rattle.std.proofs.Common.{◌≡◌, ℕ, zero, suc, ◌+◌, ◌/◌, ◌%◌, ◌≤◌, Bool, true, false, ◌&&◌, ◌||◌, cond, eqb, leb, ltb, List, [], ◌∷◌, ◌++◌, codes, ℤ, pos, negsuc, refl, sym, subst, ◌∙◌, arith}
use Rattle.std.specs.Prelude.{All, count_by, ◌==◌, if◌then◌else◌}
use Rattle.std.specs.Char.{digit_char}
use Rattle.std.specs.Fmt.{decimal, signed_decimal, digits, digits_onto, digit_glyph}
use Rattle.std.specs.List.{flat_map, list_all}
use Rattle.std.proofs.lemmas.Bool.{ne_eqb, eqb-true, and_parts, cond_both}
use Rattle.std.proofs.lemmas.Bool.Decides.{nat_tests}
use Rattle.std.proofs.lemmas.List.Elements.{All-head, All-tail}
use Rattle.std.proofs.lemmas.List.Sums.{sum_by-append}
use Rattle.ak_base.specs.Code.{bytes_of, hex_of, may_be_quoted, may_all_be_quoted, code_text}
use Rattle.ak_base.specs.Error.{name_of}
use Rattle.ak_base.specs.Word.{is_word_byte}
use Rattle.ak_base.specs.declared.error.KitError.{KitError}
use Rattle.ak_base.specs.declared.error.KitError.TheVariants as e
use Rattle.ak_base.proofs.Surface.{code_text-hex, code_text-quoted, word_byte, word_parts}
use Rattle.ak_message.specs.declared.address.Target.{Target}
use Rattle.ak_message.specs.declared.address.Target.TheVariants as target
use Rattle.ak_message.specs.declared.kind.Kind.{Kind}
use Rattle.ak_message.specs.declared.kind.Kind.TheVariants as k
use Rattle.ak_message.specs.Fields.{IsField}
use Rattle.ak_message.specs.Kind.{kind_letters}
use Rattle.ak_message.specs.Message.{ValueData, bool_value, int8_value, int16_value, int32_value, int64_value, uint8_value, uint16_value, uint32_value, uint64_value, text_value, message_value, messenger_value, raw_value, NestedValues, no_values, then_value, NestedFields, no_fields, then_field, FieldData, MessageData, kind_of, listed_values, nested_fields, listed_fields}
use Rattle.ak_message.specs.MessageCode.{listed_fields-nested}
use Rattle.ak_input.specs.MessageText.{quoted_byte, quoted, target_text, payload_text, more_values_text, nested_values_text, nested_fields_text, message_text}
use Rattle.ak_message.specs.Whole.{FitsValue, FitsValues, FitsFields, IsWhole}

-- how many line ends a text has
unfoldable pub line_ends : List ℕ → ℕ
line_ends text = count_by (λ b. b == 10) text

pub line_ends-append : (xs ys : List ℕ) → line_ends (xs ++ ys) ≡ line_ends xs + line_ends ys
unfolding line_ends
line_ends-append xs ys = sum_by-append (λ b. cond (b == 10) 1 0) xs ys

pub both : (xs ys : List ℕ) → line_ends xs ≡ 0 → line_ends ys ≡ 0 → line_ends (xs ++ ys) ≡ 0
both xs ys p q = line_ends-append xs ys ∙ omega (arith, p, q)

behind : (b : ℕ) (text : List ℕ) → 11 ≤ b → line_ends text ≡ 0 → line_ends (b ∷ text) ≡ 0
unfolding line_ends
behind b text large h = rw (ne_eqb b 10 (λ e. omega (arith, e, large))) h

-- ---- numbers, words and codes
digits_end : (n k : ℕ) (acc : List ℕ) → line_ends acc ≡ 0 → line_ends (digits_onto k 10 false n acc) ≡ 0
digits_end n zero acc h = h
digits_end n (suc k) acc h =
    let digit : ℕ = digit_glyph false (n % 10) in
    let large : 11 ≤ digit = grind (arith, nat_tests) in
    let more : line_ends (digit ∷ acc) ≡ 0 = behind digit acc large h in
    elim (n / 10 == 0) as (λ t. line_ends (if t then digit ∷ acc else digits_onto k 10 false (n / 10) (digit ∷ acc)) ≡ 0) [ true ↦ more | false ↦ digits_end (n / 10) k (digit ∷ acc) more ]

nothing : line_ends [] ≡ 0
unfolding line_ends
nothing = refl

pub decimal_end : (n : ℕ) → line_ends (decimal n) ≡ 0
unfolding digits
decimal_end n = digits_end n 64 [] nothing

pub signed_end : (z : ℤ) → line_ends (signed_decimal z) ≡ 0
signed_end (pos n) = decimal_end n
signed_end (negsuc n) = behind 45 (decimal (suc n)) (omega arith) (decimal_end (suc n))

word_end : (bytes : List ℕ) → list_all is_word_byte bytes ≡ true → line_ends bytes ≡ 0
word_end [] all = nothing
word_end (b ∷ bytes) all =
    let parts = and_parts (is_word_byte b) (list_all is_word_byte bytes) all in
    behind b bytes (omega (arith, (word_byte b parts.0).0)) (word_end bytes parts.1)

hex_end : (bytes : List ℕ) → line_ends (flat_map hex_of bytes) ≡ 0
hex_end [] = nothing
hex_end (b ∷ bytes) =
    let high : 11 ≤ digit_char (b / 16) = grind (arith, nat_tests) in
    let low : 11 ≤ digit_char (b % 16) = grind (arith, nat_tests) in
    behind (digit_char (b / 16)) (digit_char (b % 16) ∷ flat_map hex_of bytes) high (behind (digit_char (b % 16)) (flat_map hex_of bytes) low (hex_end bytes))

quotable_end : (bytes : List ℕ) → list_all may_be_quoted bytes ≡ true → line_ends bytes ≡ 0
quotable_end [] all = nothing
quotable_end (b ∷ bytes) all =
    let parts = and_parts (may_be_quoted b) (list_all may_be_quoted bytes) all in
    let large : 11 ≤ b = let h = parts.0 in grind (arith, nat_tests) in
    behind b bytes large (quotable_end bytes parts.1)

one_end : (b : ℕ) → 11 ≤ b → line_ends (b ∷ []) ≡ 0
one_end b large = behind b [] large nothing

code_end : (what : ℕ) → line_ends (code_text what) ≡ 0
code_end what = by_form (may_all_be_quoted (bytes_of what)) refl where
  by_form : (all : Bool) → may_all_be_quoted (bytes_of what) ≡ all → line_ends (code_text what) ≡ 0
  by_form true all =
      subst (λ (t : List ℕ). line_ends t ≡ 0) (sym (code_text-quoted what all))
      (behind 39 (bytes_of what ++ 39 ∷ []) (omega arith) (both (bytes_of what) (39 ∷ []) (quotable_end (bytes_of what) all) (one_end 39 (omega arith))))
  by_form false some =
      subst (λ (t : List ℕ). line_ends t ≡ 0) (sym (code_text-hex what some)) (behind 48 (120 ∷ flat_map hex_of (bytes_of what)) (omega arith) (behind 120 (flat_map hex_of (bytes_of what)) (omega arith) (hex_end (bytes_of what))))

-- ---- texts in quotes: a line end is printed in hexadecimal
alone_end : (b : ℕ) → eqb b 10 ≡ false → line_ends (b ∷ []) ≡ 0
unfolding line_ends
alone_end b other = rw other refl

escaped_end : (b : ℕ) → line_ends (codes "\\x" ++ hex_of b) ≡ 0
escaped_end b = behind 92 (120 ∷ hex_of b) (omega arith) (behind 120 (hex_of b) (omega arith) (hex_end (b ∷ [])))

byte_end : (b : ℕ) → line_ends (quoted_byte b) ≡ 0
byte_end b = by_ten (eqb b 10) refl where
  by_ten : (ten : Bool) → eqb b 10 ≡ ten → line_ends (quoted_byte b) ≡ 0
  by_ten true is = subst (λ (x : ℕ). line_ends (quoted_byte x) ≡ 0) (sym (eqb-true b 10 is)) (escaped_end 10)
  by_ten false other =
      cond_both (eqb b 34 || eqb b 92) (92 ∷ b ∷ []) (cond ((leb 1 b && ltb b 32) || eqb b 127) (codes "\\x" ++ hex_of b) (b ∷ [])) (λ t. line_ends t ≡ 0)
      (λ _. behind 92 (b ∷ []) (omega arith) (alone_end b other))
      (λ _. cond_both ((leb 1 b && ltb b 32) || eqb b 127) (codes "\\x" ++ hex_of b) (b ∷ []) (λ t. line_ends t ≡ 0) (λ _. escaped_end b) (λ _. alone_end b other))

escapes_end : (bytes : List ℕ) → line_ends (flat_map quoted_byte bytes) ≡ 0
escapes_end [] = nothing
escapes_end (b ∷ bytes) = both (quoted_byte b) (flat_map quoted_byte bytes) (byte_end b) (escapes_end bytes)

quoted_end : (bytes : List ℕ) → line_ends (quoted bytes) ≡ 0
quoted_end bytes = behind 34 (flat_map quoted_byte bytes ++ 34 ∷ []) (omega arith) (both (flat_map quoted_byte bytes) (34 ∷ []) (escapes_end bytes) (one_end 34 (omega arith)))

-- ---- values and fields
target_end : (t : Target) → line_ends (target_text t) ≡ 0
target_end target.Preferred = one_end 112 (omega arith)
target_end (target.Token n) = decimal_end n

letters_end : (kind : Kind) → line_ends (kind_letters kind) ≡ 0
unfolding line_ends
letters_end k.Bool = refl
letters_end k.Int8 = refl
letters_end k.Int16 = refl
letters_end k.Int32 = refl
letters_end k.Int64 = refl
letters_end k.UInt8 = refl
letters_end k.UInt16 = refl
letters_end k.UInt32 = refl
letters_end k.UInt64 = refl
letters_end k.Text = refl
letters_end k.Message = refl
letters_end k.Messenger = refl
letters_end k.Raw = refl

bool_ends : (line_ends (codes "true") ≡ 0) × (line_ends (codes "false") ≡ 0)
unfolding line_ends
bool_ends = (refl, refl)

value_end : (kind : Kind) (payload : List ℕ) → line_ends payload ≡ 0 → line_ends (kind_letters kind ++ 58 ∷ payload) ≡ 0
value_end kind payload h = both (kind_letters kind) (58 ∷ payload) (letters_end kind) (behind 58 payload (omega arith) h)

mutual
  payload_end : (v : ValueData) → FitsValue v → line_ends (payload_text v) ≡ 0
  payload_end (bool_value true) fits = bool_ends.0
  payload_end (bool_value false) fits = bool_ends.1
  payload_end (int8_value z) fits = signed_end z
  payload_end (int16_value z) fits = signed_end z
  payload_end (int32_value z) fits = signed_end z
  payload_end (int64_value z) fits = signed_end z
  payload_end (uint8_value n) fits = decimal_end n
  payload_end (uint16_value n) fits = decimal_end n
  payload_end (uint32_value n) fits = decimal_end n
  payload_end (uint64_value n) fits = decimal_end n
  payload_end (text_value bytes) fits = quoted_end bytes
  payload_end (message_value what fs popped) fits =
      behind 123 (code_text what ++ nested_fields_text fs ++ 125 ∷ []) (omega arith)
      (both (code_text what ++ nested_fields_text fs) (125 ∷ []) (both (code_text what) (nested_fields_text fs) (code_end what) (fields_end fs fits.0.every_field fits.1)) (one_end 125 (omega arith)))
  payload_end (messenger_value a) fits =
      both (decimal a.looper) (46 ∷ target_text a.target) (decimal_end a.looper) (behind 46 (target_text a.target) (omega arith) (target_end a.target))
  payload_end (raw_value bytes) fits = hex_end bytes

  more_end : (vs : NestedValues) → FitsValues vs → line_ends (more_values_text vs) ≡ 0
  more_end no_values fits = nothing
  more_end (then_value v vs) fits =
      behind 44 (kind_letters (kind_of v) ++ 58 ∷ payload_text v ++ more_values_text vs) (omega arith)
      (both (kind_letters (kind_of v) ++ 58 ∷ payload_text v) (more_values_text vs) (value_end (kind_of v) (payload_text v) (payload_end v fits.0)) (more_end vs fits.1))

  values_end : (vs : NestedValues) → FitsValues vs → line_ends (nested_values_text vs) ≡ 0
  values_end no_values fits = nothing
  values_end (then_value v vs) fits =
      both (kind_letters (kind_of v) ++ 58 ∷ payload_text v) (more_values_text vs) (value_end (kind_of v) (payload_text v) (payload_end v fits.0)) (more_end vs fits.1)

  fields_end : (fs : NestedFields) → All IsField (listed_fields fs) → FitsFields fs → line_ends (nested_fields_text fs) ≡ 0
  fields_end no_fields every fits = nothing
  fields_end (then_field name kind vs fs) every fits =
      let field : FieldData = record { name = name; kind = kind; values = listed_values vs } in
      let first = All-head IsField field (listed_fields fs) every in
      let later = All-tail IsField field (listed_fields fs) every in
      behind 32 (name ++ 61 ∷ nested_values_text vs ++ nested_fields_text fs) (omega arith)
      (both (name ++ 61 ∷ nested_values_text vs) (nested_fields_text fs)
      (both name (61 ∷ nested_values_text vs) (word_end name (word_parts name first.word).1) (behind 61 (nested_values_text vs) (omega arith) (values_end vs fits.0))) (fields_end fs later fits.1))

pub message_end : (m : MessageData) → IsWhole m → line_ends (message_text m) ≡ 0
message_end m whole =
    let every : All IsField (listed_fields (nested_fields m.fields)) = subst (λ (fs : List FieldData). All IsField fs) (sym (listed_fields-nested m.fields)) whole.0.every_field in
    both (code_text m.what) (nested_fields_text (nested_fields m.fields)) (code_end m.what) (fields_end (nested_fields m.fields) every whole.1)

pub name_end : (error : KitError) → line_ends (name_of error) ≡ 0
unfolding line_ends
name_end e.Ok = refl
name_end e.NoMemory = refl
name_end e.BadType = refl
name_end e.NameNotFound = refl
name_end e.BadIndex = refl
name_end e.BadPortId = refl
name_end e.WouldBlock = refl
name_end e.BadValue = refl
name_end e.BadHandler = refl
name_end e.NameInUse = refl
name_end e.DuplicateReply = refl
name_end e.BadScriptSyntax = refl
name_end e.AlreadyRunning = refl
name_end e.LaunchFailedAppNotFound = refl
name_end e.Spent = refl
name_end e.TooLong = refl
name_end e.Limit = refl
name_end e.ChainLoop = refl
name_end e.IsLooper = refl
name_end e.NoTeam = refl
