-- A message with nothing popped has the flat text that it had before.
use Rattle.std.proofs.Common.{◌≡◌, ℕ, ◌+◌, List, ◌∷◌, ◌++◌, length, refl, ap, ◌∙◌}
use Rattle.std.specs.Int.{w16, to_be_bytes}
use Rattle.ak_message.specs.declared.kind.Kind.{Kind}
use Rattle.ak_message.specs.Kind.{kind_letters}
use Rattle.ak_message.specs.Message.{ValueData, bool_value, int8_value, int16_value, int32_value, int64_value, uint8_value, uint16_value, uint32_value, uint64_value, text_value, message_value, messenger_value, raw_value, NestedValues, no_values, then_value, NestedFields, no_fields, then_field, MessageData, nested_fields}
use Rattle.ak_message.specs.Popped.{unpopped_value, unpopped_values, unpopped_fields, unpopped}
use Rattle.ak_flatten.specs.Spelling.{value_bytes, values_bytes, fields_bytes, value_count, field_count, opening_bytes, spelling}
use Rattle.ak_message.proofs.Surface.{nested-unpopped_fields}

value_count-unpopped : (vs : NestedValues) → value_count (unpopped_values vs) ≡ value_count vs
value_count-unpopped no_values = refl
value_count-unpopped (then_value v vs) = ap (λ (n : ℕ). n + 1) (value_count-unpopped vs)

field_count-unpopped : (fs : NestedFields) → field_count (unpopped_fields fs) ≡ field_count fs
field_count-unpopped no_fields = refl
field_count-unpopped (then_field name kind vs fs) = ap (λ (n : ℕ). n + 1) (field_count-unpopped fs)

-- ---- the flat text
abbrev value_text : List ℕ → List ℕ → List ℕ
value_text one more = to_be_bytes w16 (length one) ++ one ++ more

abbrev field_text : List ℕ → Kind → ℕ → List ℕ → List ℕ → List ℕ
field_text name kind count vs more = kind_letters kind ++ length name ∷ name ++ count ∷ vs ++ more

mutual
  value_bytes-unpopped : (v : ValueData) → value_bytes (unpopped_value v) ≡ value_bytes v
  value_bytes-unpopped (bool_value x) = refl
  value_bytes-unpopped (int8_value x) = refl
  value_bytes-unpopped (int16_value x) = refl
  value_bytes-unpopped (int32_value x) = refl
  value_bytes-unpopped (int64_value x) = refl
  value_bytes-unpopped (uint8_value x) = refl
  value_bytes-unpopped (uint16_value x) = refl
  value_bytes-unpopped (uint32_value x) = refl
  value_bytes-unpopped (uint64_value x) = refl
  value_bytes-unpopped (text_value x) = refl
  value_bytes-unpopped (message_value what fs popped) = λ i. opening_bytes what (field_count-unpopped fs i) ++ fields_bytes-unpopped fs i
  value_bytes-unpopped (messenger_value x) = refl
  value_bytes-unpopped (raw_value x) = refl

  values_bytes-unpopped : (vs : NestedValues) → values_bytes (unpopped_values vs) ≡ values_bytes vs
  values_bytes-unpopped no_values = refl
  values_bytes-unpopped (then_value v vs) = λ i. value_text (value_bytes-unpopped v i) (values_bytes-unpopped vs i)

  fields_bytes-unpopped : (fs : NestedFields) → fields_bytes (unpopped_fields fs) ≡ fields_bytes fs
  fields_bytes-unpopped no_fields = refl
  fields_bytes-unpopped (then_field name kind vs fs) =
      λ i. field_text name kind (value_count-unpopped vs i) (values_bytes-unpopped vs i) (fields_bytes-unpopped fs i)

pub spelling-unpopped : (m : MessageData) → spelling (unpopped m) ≡ spelling m
spelling-unpopped m =
    ap (λ (fs : NestedFields). value_bytes (message_value m.what fs 0)) (nested-unpopped_fields m.fields) ∙ value_bytes-unpopped (message_value m.what (nested_fields m.fields) m.popped)
