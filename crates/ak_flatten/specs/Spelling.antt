-- The flat text of a message, part by part. Numbers have their highest byte first.
use Rattle.std.specs.Prelude.{◌≡◌, ℕ, ◌+◌, ◌≤◌, Bool, true, false, pos, List, [], ◌∷◌, ◌++◌, length, codes, refl}
use Rattle.std.specs.Int.{w8, w16, w32, w64, to_be_bytes, cast_unsigned}
use Rattle.ak_message.specs.declared.address.Address.{Address}
use Rattle.ak_message.specs.declared.address.Target.{Target}
use Rattle.ak_message.specs.declared.address.Target.TheVariants as target
use Rattle.ak_message.specs.declared.kind.Kind.{Kind}
use Rattle.ak_message.specs.declared.kind.Kind.TheVariants as k
use Rattle.ak_message.specs.Kind.{kind_letters}
use Rattle.ak_message.specs.Message.{ValueData, bool_value, int8_value, int16_value, int32_value, int64_value, uint8_value, uint16_value, uint32_value, uint64_value, text_value, message_value, messenger_value, raw_value, NestedValues, no_values, then_value, NestedFields, no_fields, then_field, FieldData, MessageData, nested_values, value_of_message}
use Rattle.ak_flatten.specs.Format.{magic}

-- 0 and zeros for the preferred handler, 1 and the token for another one
abbrev pub target_bytes : Target → List ℕ
target_bytes target.Preferred = 0 ∷ to_be_bytes w64 0
target_bytes (target.Token n) = 1 ∷ to_be_bytes w64 n

abbrev pub address_bytes : Address → List ℕ
address_bytes a = to_be_bytes w32 a.looper ++ target_bytes a.target

abbrev pub bool_bytes : Bool → List ℕ
bool_bytes false = 0 ∷ []
bool_bytes true = 1 ∷ []

abbrev pub value_count : NestedValues → ℕ
value_count no_values = 0
value_count (then_value _ vs) = value_count vs + 1

abbrev pub field_count : NestedFields → ℕ
field_count no_fields = 0
field_count (then_field _ _ _ fs) = field_count fs + 1

-- what stands before the fields
abbrev pub opening_bytes : ℕ → ℕ → List ℕ
opening_bytes what count = magic ++ to_be_bytes w32 what ++ to_be_bytes w32 count

abbrev mutual
  pub value_bytes : ValueData → List ℕ
  value_bytes (bool_value b) = bool_bytes b
  value_bytes (int8_value z) = cast_unsigned w8 z ∷ []
  value_bytes (int16_value z) = to_be_bytes w16 (cast_unsigned w16 z)
  value_bytes (int32_value z) = to_be_bytes w32 (cast_unsigned w32 z)
  value_bytes (int64_value z) = to_be_bytes w64 (cast_unsigned w64 z)
  value_bytes (uint8_value n) = n ∷ []
  value_bytes (uint16_value n) = to_be_bytes w16 n
  value_bytes (uint32_value n) = to_be_bytes w32 n
  value_bytes (uint64_value n) = to_be_bytes w64 n
  value_bytes (text_value bytes) = bytes
  value_bytes (message_value what fs _) = opening_bytes what (field_count fs) ++ fields_bytes fs
  value_bytes (messenger_value address) = address_bytes address
  value_bytes (raw_value bytes) = bytes

  -- each value behind its length
  pub values_bytes : NestedValues → List ℕ
  values_bytes no_values = []
  values_bytes (then_value v vs) = to_be_bytes w16 (length (value_bytes v)) ++ value_bytes v ++ values_bytes vs

  -- the type code, the name behind its length, and the values behind their number
  pub fields_bytes : NestedFields → List ℕ
  fields_bytes no_fields = []
  fields_bytes (then_field name kind vs fs) =
      kind_letters kind ++ length name ∷ name ++ value_count vs ∷ values_bytes vs ++ fields_bytes fs

-- one value behind its length
abbrev pub sized_bytes : ValueData → List ℕ
sized_bytes v = to_be_bytes w16 (length (value_bytes v)) ++ value_bytes v

-- what stands before the values of a field
abbrev pub head_bytes : Kind → List ℕ → ℕ → List ℕ
head_bytes kind name count = kind_letters kind ++ length name ∷ name ++ count ∷ []

-- one field
abbrev pub field_bytes : FieldData → List ℕ
field_bytes f = kind_letters f.kind ++ length f.name ∷ f.name ++ value_count (nested_values f.values) ∷ values_bytes (nested_values f.values)

-- the flat text
abbrev pub spelling : MessageData → List ℕ
spelling m = value_bytes (value_of_message m)

-- ---- two messages as they are spelled
pub question_bytes
    : spelling (record { what = 0x50474554; fields = []; popped = 0 })
    ≡ 0x41 ∷ 0x4b ∷ 0x4d ∷ 0x31 ∷ 0x50 ∷ 0x47 ∷ 0x45 ∷ 0x54 ∷ 0 ∷ 0 ∷ 0 ∷ 0 ∷ []
question_bytes = refl

pub reply_bytes
    : spelling (record {
      what = 0x52504c59;
      fields = (record { name = codes "result"; kind = k.Int32; values = int32_value (pos 3) ∷ [] })
          ∷ (record { name = codes "error"; kind = k.Int32; values = int32_value (pos 0) ∷ [] }) ∷ [];
      popped = 0;
    })
    ≡ 0x41 ∷ 0x4b ∷ 0x4d ∷ 0x31 ∷ 0x52 ∷ 0x50 ∷ 0x4c ∷ 0x59 ∷ 0 ∷ 0 ∷ 0 ∷ 2
    ∷ 0x4c ∷ 0x4f ∷ 0x4e ∷ 0x47 ∷ 6 ∷ 0x72 ∷ 0x65 ∷ 0x73 ∷ 0x75 ∷ 0x6c ∷ 0x74 ∷ 1 ∷ 0 ∷ 4 ∷ 0 ∷ 0 ∷ 0 ∷ 3
    ∷ 0x4c ∷ 0x4f ∷ 0x4e ∷ 0x47 ∷ 5 ∷ 0x65 ∷ 0x72 ∷ 0x72 ∷ 0x6f ∷ 0x72 ∷ 1 ∷ 0 ∷ 4 ∷ 0 ∷ 0 ∷ 0 ∷ 0 ∷ []
reply_bytes = refl
