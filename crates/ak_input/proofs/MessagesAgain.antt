-- What is printed of a value and of a message is read, where nothing is popped.
use Rattle.std.proofs.Common.{◌≡◌, ℕ, zero, suc, ◌-◌, ◌<◌, ◌≤◌, true, false, eqb, ltb, List, [], ◌∷◌, ◌++◌, codes, length, take, get_or, Bool, Option, Some, refl, sym, ap, subst, ◌∙◌, arith}
use Rattle.std.specs.Prelude.{All, filter}
use Rattle.std.specs.List.{flat_map, slice_get}
use Rattle.std.proofs.lemmas.Bool.{ne_eqb, le-ltb}
use Rattle.std.proofs.lemmas.List.{length-append, take_at, get_or_at}
use Rattle.ak_base.specs.Code.{bytes_of, hex_of, may_all_be_quoted, code_text}
use Rattle.ak_base.proofs.Surface.{code_text-quoted, code_text-hex}
use Rattle.ak_base.specs.declared.limited.Limited.{Limited}
use Rattle.ak_base.specs.declared.limited.Limited.TheVariants.{Within}
use Rattle.ak_input.specs.declared.pieces.Separator.TheVariants as by
use Rattle.ak_message.specs.Fields.{IsMessage}
use Rattle.ak_input.specs.Laws.{PrintedValuesAreRead, PrintedFieldsAreRead, PrintedMessagesAreRead, PrintedWithoutPopped}
use Rattle.ak_message.specs.Message.{ValueData, bool_value, int8_value, int16_value, int32_value, int64_value, uint8_value, uint16_value, uint32_value, uint64_value, text_value, message_value, messenger_value, raw_value, NestedValues, no_values, then_value, NestedFields, no_fields, then_field, MessageData, kind_of, depth_of_value, depth_of_nested_values, depth_of_nested_fields, nested_values, listed_values, nested_fields, listed_fields, message_of_nested}
use Rattle.ak_message.specs.MessageCode.{listed_values-nested, listed_fields-nested}
use Rattle.ak_input.specs.MessageText.{payload_text, nested_values_text, nested_fields_text, value_text, field_texts}
use Rattle.ak_input.specs.Pieces.{pieces_of, braced}
use Rattle.ak_message.specs.Popped.{IsUnpoppedValue, AreUnpoppedValues, AreUnpoppedFields, unpopped}
use Rattle.ak_input.specs.Reading.{Got, got, payload_from, value_with, is_some_bytes, is_missing, words_of, message_from, read_message}
use Rattle.ak_message.specs.Whole.{FitsValue, FitsValues, FitsFields}
use Rattle.ak_input.proofs.FieldsAgain.{AreRead, FieldsAreRead, values_of_kind, values_alone, message_is_read}
use Rattle.ak_input.proofs.PiecesAgain.{code_passes_word, words_again}
use Rattle.ak_message.proofs.Surface.{is_unpopped, whole-unpopped}
use Rattle.ak_input.proofs.UnpoppedText.{words-unpopped}
use Rattle.ak_input.proofs.ValuesAgain.{value_is, bool_again, int8_again, int16_again, int32_again, int64_again, uint8_again, uint16_again, uint32_again, uint64_again, text_again, messenger_again, raw_again}

-- ---- what stands in braces

pub braced_again : (body : List ℕ) → braced (123 ∷ body ++ 125 ∷ []) ≡ Some body
braced_again body =
    let size : length (123 ∷ body ++ 125 ∷ []) - 1 ≡ suc (length body) = omega (arith, length-append body (125 ∷ [])) in
    let long : ltb (length (123 ∷ body ++ 125 ∷ [])) 2 ≡ false = le-ltb (length (123 ∷ body ++ 125 ∷ [])) 2 (omega (arith, length-append body (125 ∷ []))) in
    let last : get_or (body ++ 125 ∷ []) (length body) 0 ≡ 125 = get_or_at body 125 [] 0 (length body) refl in
    let front : take (length body) (body ++ 125 ∷ []) ≡ body = take_at body (125 ∷ []) (length body) refl in
    rw (long, size, last, front) refl

-- ---- the words of a message

abbrev AreFilled : List (List ℕ) → Type 0
AreFilled [] = Unit {0}
AreFilled (p ∷ ps) = (eqb (length p) 0 ≡ false) × AreFilled ps

pub filled : (front : List ℕ) (b : ℕ) (rest : List ℕ) → eqb (length (front ++ b ∷ rest)) 0 ≡ false
filled front b rest =
    let long = length-append front (b ∷ rest) in
    ne_eqb (length (front ++ b ∷ rest)) 0 (λ e. omega arith)

pub code_filled : (what : ℕ) → eqb (length (code_text what)) 0 ≡ false
code_filled what = by_form (may_all_be_quoted (bytes_of what)) refl where
  by_form : (all : Bool) → may_all_be_quoted (bytes_of what) ≡ all → eqb (length (code_text what)) 0 ≡ false
  by_form true all = subst (λ (t : List ℕ). eqb (length t) 0 ≡ false) (sym (code_text-quoted what all)) (ne_eqb (length (39 ∷ bytes_of what ++ 39 ∷ [])) 0 (λ e. omega arith))
  by_form false some = subst (λ (t : List ℕ). eqb (length t) 0 ≡ false) (sym (code_text-hex what some)) (ne_eqb (length (codes "0x" ++ flat_map hex_of (bytes_of what))) 0 (λ e. omega arith))

fields_filled : (fs : NestedFields) → AreFilled (field_texts fs)
fields_filled no_fields = tt
fields_filled (then_field name kind vs fs) = (filled name 61 (nested_values_text vs), fields_filled fs)

all_kept : (ps : List (List ℕ)) → AreFilled ps → filter is_some_bytes ps ≡ ps
all_kept [] h = refl
all_kept (p ∷ ps) h = rw h.0 (ap (λ (t : List (List ℕ)). p ∷ t) (all_kept ps h.1))

last_filled : (p : List ℕ) (ps : List (List ℕ)) → AreFilled (p ∷ ps) → is_missing (slice_get (p ∷ ps) (length ps)) ≡ false
last_filled p [] h = h.0
last_filled p (next ∷ ps) h = last_filled next ps h.1

words_are : (body first : List ℕ) (fs : NestedFields) → eqb (length first) 0 ≡ false → pieces_of by.Blank body ≡ Some (first ∷ field_texts fs) → words_of body ≡ Some (first ∷ field_texts fs)
unfolding words_of
words_are body first fs some pieces =
    let place : length (first ∷ field_texts fs) - 1 ≡ length (field_texts fs) = omega arith in
    rw (pieces, place, some, last_filled first (field_texts fs) (some, fields_filled fs), all_kept (field_texts fs) (fields_filled fs)) refl

-- ---- a message as a value is told by its lists
mutual
  fields-listed : (fs : NestedFields) → nested_fields (listed_fields fs) ≡ fs
  fields-listed no_fields = refl
  fields-listed (then_field name kind vs fs) = λ i. then_field name kind (values-listed vs i) (fields-listed fs i)

  values-listed : (vs : NestedValues) → nested_values (listed_values vs) ≡ vs
  values-listed no_values = refl
  values-listed (then_value v vs) = ap (λ (t : NestedValues). then_value v t) (values-listed vs)

-- ---- values, where a reader of messages reads those of fewer levels
abbrev some_got : ValueData → Option Got
some_got v = Some (got v)

abbrev MessageAgain : (List ℕ → Option Got) → ℕ → Type 0
MessageAgain message levels =
    (what : ℕ) (fs : NestedFields) → IsMessage (message_of_nested what fs 0) → FitsFields fs → AreUnpoppedFields fs → depth_of_nested_fields fs < levels
    → message (123 ∷ code_text what ++ nested_fields_text fs ++ 125 ∷ []) ≡ some_got (message_value what fs 0)

module _ (message : List ℕ → Option Got) (levels : ℕ) (again : MessageAgain message levels) where
  payload_again : (v : ValueData) → FitsValue v → IsUnpoppedValue v → depth_of_value v ≤ levels → payload_from message (kind_of v) (payload_text v) ≡ some_got v
  payload_again (bool_value x) fits unpopped shallow = bool_again message x
  payload_again (int8_value z) fits unpopped shallow = int8_again message z fits
  payload_again (int16_value z) fits unpopped shallow = int16_again message z fits
  payload_again (int32_value z) fits unpopped shallow = int32_again message z fits
  payload_again (int64_value z) fits unpopped shallow = int64_again message z fits
  payload_again (uint8_value n) fits unpopped shallow = uint8_again message n fits
  payload_again (uint16_value n) fits unpopped shallow = uint16_again message n fits
  payload_again (uint32_value n) fits unpopped shallow = uint32_again message n fits
  payload_again (uint64_value n) fits unpopped shallow = uint64_again message n fits
  payload_again (text_value bytes) fits unpopped shallow = text_again bytes fits
  payload_again (message_value what fs popped) fits unpopped shallow =
      let is : IsMessage (message_of_nested what fs 0) = subst (λ (n : ℕ). IsMessage (message_of_nested what fs n)) unpopped.0 fits.0 in
      again what fs is fits.1 unpopped.1 (omega (arith, shallow)) ∙ ap (λ (n : ℕ). some_got (message_value what fs n)) (sym unpopped.0)
  payload_again (messenger_value a) fits unpopped shallow = messenger_again message a fits
  payload_again (raw_value bytes) fits unpopped shallow = raw_again bytes fits

  value_again : (v : ValueData) → FitsValue v → IsUnpoppedValue v → depth_of_value v ≤ levels → value_with message (value_text v) ≡ some_got v
  value_again v fits unpopped shallow = value_is message (kind_of v) (payload_text v) ∙ payload_again v fits unpopped shallow

  are_read : (vs : NestedValues) → FitsValues vs → AreUnpoppedValues vs → depth_of_nested_values vs ≤ levels → AreRead message vs
  are_read no_values fits unpopped shallow = tt
  are_read (then_value v vs) fits unpopped shallow =
      (value_again v fits.0 unpopped.0 (omega (arith, shallow)), are_read vs fits.1 unpopped.1 (omega (arith, shallow)))

  each_is_read : (fs : NestedFields) → FitsFields fs → AreUnpoppedFields fs → depth_of_nested_fields fs ≤ levels → FieldsAreRead message fs
  each_is_read no_fields fits unpopped shallow = tt
  each_is_read (then_field name kind vs fs) fits unpopped shallow =
      (are_read vs fits.0 unpopped.0 (omega (arith, shallow)), each_is_read fs fits.1 unpopped.1 (omega (arith, shallow)))

-- ---- messages in braces, level by level
message_again : (levels : ℕ) → levels ≤ 16 → MessageAgain (message_from levels) levels
unfolding message_from
message_again zero le what fs is fits unpopped shallow = absurd (omega arith)
message_again (suc levels) le what fs is fits unpopped shallow =
    let read = each_is_read (message_from levels) levels (message_again levels (omega arith)) fs fits unpopped (omega arith) in
    let pieces = words_again (code_text what) fs (code_passes_word what) is.every_field fits in
    let words = words_are (code_text what ++ nested_fields_text fs) (code_text what) fs (code_filled what) pieces in
    let made = message_is_read (message_from levels) what fs is fits read (omega arith) in
    rw (braced_again (code_text what ++ nested_fields_text fs), words, made) (ap (λ (t : NestedFields). some_got (message_value what t 0)) (fields-listed fs))

-- ---- the laws

depth_within : (v : ValueData) → FitsValue v → depth_of_value v ≤ 16
depth_within (bool_value x) fits = omega arith
depth_within (int8_value z) fits = omega arith
depth_within (int16_value z) fits = omega arith
depth_within (int32_value z) fits = omega arith
depth_within (int64_value z) fits = omega arith
depth_within (uint8_value n) fits = omega arith
depth_within (uint16_value n) fits = omega arith
depth_within (uint32_value n) fits = omega arith
depth_within (uint64_value n) fits = omega arith
depth_within (text_value bytes) fits = omega arith
depth_within (message_value what fs popped) fits = omega (arith, fits.0.depth_within, ap depth_of_nested_fields (fields-listed fs))
depth_within (messenger_value a) fits = omega arith
depth_within (raw_value bytes) fits = omega arith

pub values_are_read : PrintedValuesAreRead
values_are_read v fits unpopped =
    value_again (message_from 16) 16 (message_again 16 (omega arith)) v fits unpopped (depth_within v fits)

pub fields_are_read : PrintedFieldsAreRead
fields_are_read f is fits unpopped shallow =
    let same : listed_values (nested_values f.values) ≡ f.values = listed_values-nested f.values in
    let again : f.values ≡ listed_values (nested_values f.values) = sym same in
    let read = are_read (message_from 15) 15 (message_again 15 (omega arith)) (nested_values f.values) fits unpopped (omega (arith, shallow)) in
    let kinds : All (λ v. kind_of v ≡ f.kind) (listed_values (nested_values f.values)) = subst (λ (vs : List ValueData). All (λ v. kind_of v ≡ f.kind) vs) again is.same_kind in
    let some : 0 < length (listed_values (nested_values f.values)) = subst (λ (vs : List ValueData). 0 < length vs) again is.filled in
    let few : length (listed_values (nested_values f.values)) ≤ 255 = subst (λ (vs : List ValueData). length vs ≤ 255) again is.limit in
    values_alone (message_from 15) f.kind (nested_values f.values) read fits kinds some few ∙ ap (λ (vs : List ValueData). values_of_kind f.kind vs) same

abbrev found : MessageData → Option (Limited MessageData)
found m = Some (Within m)

pub messages_are_read : PrintedMessagesAreRead
messages_are_read m whole unpopped =
    let same : message_of_nested m.what (nested_fields m.fields) 0 ≡ m = λ i. record { what = m.what; fields = listed_fields-nested m.fields i; popped = (sym unpopped.0) i } in
    let is : IsMessage (message_of_nested m.what (nested_fields m.fields) 0) = subst IsMessage (sym same) whole.0 in
    let shallow : depth_of_nested_fields (nested_fields m.fields) ≤ 15 = omega (arith, whole.0.depth_within) in
    let read = each_is_read (message_from 15) 15 (message_again 15 (omega arith)) (nested_fields m.fields) whole.1 unpopped.1 shallow in
    message_is_read (message_from 15) m.what (nested_fields m.fields) is whole.1 read shallow ∙ ap found same

pub read_without_popped : PrintedWithoutPopped
read_without_popped m whole =
    subst (λ (ws : List (List ℕ)). read_message ws ≡ found (unpopped m)) (words-unpopped m) (messages_are_read (unpopped m) (whole-unpopped m whole) (is_unpopped m))
