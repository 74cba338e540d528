-- The text of a message does not tell what is popped.
use Rattle.std.proofs.Common.{◌≡◌, ℕ, List, [], ◌∷◌, ◌++◌, refl, ap, ◌∙◌}
use Rattle.ak_base.specs.Code.{code_text}
use Rattle.ak_message.specs.declared.kind.Kind.{Kind}
use Rattle.ak_message.specs.Kind.{kind_letters}
use Rattle.ak_message.specs.Message.{ValueData, bool_value, int8_value, int16_value, int32_value, int64_value, uint8_value, uint16_value, uint32_value, uint64_value, text_value, message_value, messenger_value, raw_value, NestedValues, no_values, then_value, NestedFields, no_fields, then_field, MessageData, nested_fields}
use Rattle.ak_input.specs.MessageText.{payload_text, more_values_text, nested_values_text, nested_fields_text, message_text, field_texts, message_words}
use Rattle.ak_message.specs.Popped.{unpopped_value, unpopped_values, unpopped_fields, unpopped}
use Rattle.ak_message.proofs.Surface.{kind-unpopped, nested-unpopped_fields}

abbrev value_of_text : Kind → List ℕ → List ℕ
value_of_text kind payload = kind_letters kind ++ 58 ∷ payload

mutual
  payload-unpopped : (v : ValueData) → payload_text (unpopped_value v) ≡ payload_text v
  payload-unpopped (bool_value x) = refl
  payload-unpopped (int8_value x) = refl
  payload-unpopped (int16_value x) = refl
  payload-unpopped (int32_value x) = refl
  payload-unpopped (int64_value x) = refl
  payload-unpopped (uint8_value x) = refl
  payload-unpopped (uint16_value x) = refl
  payload-unpopped (uint32_value x) = refl
  payload-unpopped (uint64_value x) = refl
  payload-unpopped (text_value x) = refl
  payload-unpopped (message_value what fs popped) = ap (λ (t : List ℕ). 123 ∷ code_text what ++ t ++ 125 ∷ []) (fields_text-unpopped fs)
  payload-unpopped (messenger_value x) = refl
  payload-unpopped (raw_value x) = refl

  more-unpopped : (vs : NestedValues) → more_values_text (unpopped_values vs) ≡ more_values_text vs
  more-unpopped no_values = refl
  more-unpopped (then_value v vs) = λ i. 44 ∷ value_of_text (kind-unpopped v i) (payload-unpopped v i) ++ more-unpopped vs i

  values_text-unpopped : (vs : NestedValues) → nested_values_text (unpopped_values vs) ≡ nested_values_text vs
  values_text-unpopped no_values = refl
  values_text-unpopped (then_value v vs) = λ i. value_of_text (kind-unpopped v i) (payload-unpopped v i) ++ more-unpopped vs i

  fields_text-unpopped : (fs : NestedFields) → nested_fields_text (unpopped_fields fs) ≡ nested_fields_text fs
  fields_text-unpopped no_fields = refl
  fields_text-unpopped (then_field name kind vs fs) = λ i. 32 ∷ name ++ 61 ∷ values_text-unpopped vs i ++ fields_text-unpopped fs i

texts-unpopped : (fs : NestedFields) → field_texts (unpopped_fields fs) ≡ field_texts fs
texts-unpopped no_fields = refl
texts-unpopped (then_field name kind vs fs) = λ i. (name ++ 61 ∷ values_text-unpopped vs i) ∷ texts-unpopped fs i

pub words-unpopped : (m : MessageData) → message_words (unpopped m) ≡ message_words m
words-unpopped m =
    ap (λ (fs : NestedFields). code_text m.what ∷ field_texts fs) (nested-unpopped_fields m.fields) ∙ ap (λ (ts : List (List ℕ)). code_text m.what ∷ ts) (texts-unpopped (nested_fields m.fields))

pub text-unpopped : (m : MessageData) → message_text (unpopped m) ≡ message_text m
text-unpopped m =
    ap (λ (t : List ℕ). code_text m.what ++ t) (ap nested_fields_text (nested-unpopped_fields m.fields) ∙ fields_text-unpopped (nested_fields m.fields))
