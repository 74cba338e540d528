-- The printed text of a message, as 'RPLY' result=LONG:3 error=LONG:0
use Rattle.std.specs.Prelude.{◌≡◌, ℕ, Bool, true, false, pos, negsuc, ◌&&◌, ◌||◌, ◌==◌, nat_lt, nat_le, if◌then◌else◌, List, [], ◌∷◌, ◌++◌, codes, refl}
use Rattle.std.specs.List.{flat_map}
use Rattle.std.specs.Fmt.{digits, decimal, signed_decimal}
use Rattle.ak_base.specs.Code.{code_text, hex_of}
use Rattle.ak_message.specs.declared.address.Address.{Address}
use Rattle.ak_message.specs.declared.address.Target.{Target}
use Rattle.ak_message.specs.declared.address.Target.TheVariants as target
use Rattle.ak_message.specs.declared.kind.Kind.TheVariants as k
use Rattle.ak_message.specs.Kind.{kind_letters}
use Rattle.ak_message.specs.Message.{ValueData, bool_value, int8_value, int16_value, int32_value, int64_value, uint8_value, uint16_value, uint32_value, uint64_value, text_value, message_value, messenger_value, raw_value, NestedValues, no_values, then_value, NestedFields, no_fields, then_field, MessageData, kind_of, nested_fields}

-- `"` and `\` have a `\` before them; a control byte is `\x` and two hex digits; every other byte stands as it is
abbrev pub quoted_byte : ℕ → List ℕ
quoted_byte b =
    if b == 34 || b == 92 then 92 ∷ b ∷ []
    else if (nat_le 1 b && nat_lt b 32) || b == 127 then codes "\\x" ++ hex_of b
    else b ∷ []

-- in double quotes
abbrev pub quoted : List ℕ → List ℕ
quoted bytes = 34 ∷ flat_map quoted_byte bytes ++ 34 ∷ []

abbrev pub bool_text : Bool → List ℕ
bool_text true = codes "true"
bool_text false = codes "false"

-- the looper, a point, and `p` for the preferred handler or the token
abbrev pub target_text : Target → List ℕ
target_text target.Preferred = codes "p"
target_text (target.Token n) = decimal n

abbrev pub address_text : Address → List ℕ
address_text a = decimal a.looper ++ 46 ∷ target_text a.target

-- ---- a value is its kind's letters, a colon and its payload
abbrev mutual
  pub payload_text : ValueData → List ℕ
  payload_text (bool_value x) = bool_text x
  payload_text (int8_value x) = signed_decimal x
  payload_text (int16_value x) = signed_decimal x
  payload_text (int32_value x) = signed_decimal x
  payload_text (int64_value x) = signed_decimal x
  payload_text (uint8_value x) = decimal x
  payload_text (uint16_value x) = decimal x
  payload_text (uint32_value x) = decimal x
  payload_text (uint64_value x) = decimal x
  payload_text (text_value x) = quoted x
  payload_text (message_value what fields _) = 123 ∷ code_text what ++ nested_fields_text fields ++ 125 ∷ []
  payload_text (messenger_value x) = address_text x
  payload_text (raw_value x) = flat_map hex_of x

  -- of values behind a first one
  pub more_values_text : NestedValues → List ℕ
  more_values_text no_values = []
  more_values_text (then_value v vs) = 44 ∷ kind_letters (kind_of v) ++ 58 ∷ payload_text v ++ more_values_text vs

  -- joined by commas
  pub nested_values_text : NestedValues → List ℕ
  nested_values_text no_values = []
  nested_values_text (then_value v vs) = kind_letters (kind_of v) ++ 58 ∷ payload_text v ++ more_values_text vs

  -- each a space, its name, `=` and its values
  pub nested_fields_text : NestedFields → List ℕ
  nested_fields_text no_fields = []
  nested_fields_text (then_field name _ vs fs) = 32 ∷ name ++ 61 ∷ nested_values_text vs ++ nested_fields_text fs

abbrev pub value_text : ValueData → List ℕ
value_text v = kind_letters (kind_of v) ++ 58 ∷ payload_text v

-- the code, and each field
abbrev pub message_text : MessageData → List ℕ
message_text m = code_text m.what ++ nested_fields_text (nested_fields m.fields)

-- ---- the words of that text
-- each field's name, `=` and values
abbrev pub field_texts : NestedFields → List (List ℕ)
field_texts no_fields = []
field_texts (then_field name _ vs fs) = (name ++ 61 ∷ nested_values_text vs) ∷ field_texts fs

-- the code, and each field
abbrev pub message_words : MessageData → List (List ℕ)
message_words m = code_text m.what ∷ field_texts (nested_fields m.fields)

-- ---- two messages as they are printed
pub reply_text
    : message_text (record {
      what = 0x52504c59;
      fields = (record { name = codes "result"; kind = k.Int32; values = int32_value (pos 3) ∷ [] })
          ∷ (record { name = codes "error"; kind = k.Int32; values = int32_value (pos 0) ∷ [] }) ∷ [];
      popped = 0;
    })
    ≡ codes "'RPLY' result=LONG:3 error=LONG:0"
unfolding code_text digits
reply_text = refl

pub nested_text
    : message_text (record {
      what = 1;
      fields = (record {
        name = codes "m";
        kind = k.Message;
        values = message_value 0x5f504e4c (then_field (codes "n") k.Int32 (then_value (int32_value (negsuc 4)) no_values) no_fields) 0
            ∷ message_value 0x7f000000 no_fields 0 ∷ [];
      })
          ∷ (record { name = codes "t"; kind = k.Text; values = text_value (97 ∷ 34 ∷ 92 ∷ 10 ∷ 127 ∷ []) ∷ [] }) ∷ [];
      popped = 0;
    })
    ≡ codes "0x00000001 m=MSGG:{'_PNL' n=LONG:-5},MSGG:{0x7f000000} t=CSTR:\"a\\\"\\\\\\x0a\\x7f\""
unfolding code_text digits
nested_text = refl
