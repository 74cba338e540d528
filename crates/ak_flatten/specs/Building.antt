-- What a message has more of, once its fields and values are read.
use Rattle.std.specs.Prelude.{ℕ, List, [], ◌∷◌, ◌++◌, Result, Ok}
use Rattle.ak_message.specs.declared.kind.Kind.{Kind}
use Rattle.ak_message.specs.Message.{ValueData, FieldData, MessageData}
use Rattle.ak_flatten.specs.declared.fault.FlatFault.{FlatFault}
use Rattle.ak_flatten.specs.Reading.{Left, Read, ◌>>=◌, values_at, field_at, fields_at}

-- one more field, at the end
abbrev pub with_field : MessageData → FieldData → MessageData
with_field m f = record { what = m.what; fields = m.fields ++ f ∷ []; popped = m.popped }

-- a field of these values, where there are any
abbrev pub with_values : MessageData → List ℕ → Kind → List ValueData → MessageData
with_values m name kind [] = m
with_values m name kind (v ∷ vs) = with_field m (record { name = name; kind = kind; values = v ∷ vs })

-- ---- the message with what is read next
unfoldable pub values_added : (Left → Result MessageData FlatFault) → MessageData → List ℕ → Kind → ℕ → Left → Read MessageData
values_added message m name kind count left = do
  values ← values_at message kind count [] left
  Ok (with_values m name kind values.0, values.1)

unfoldable pub field_added : (Left → Result MessageData FlatFault) → MessageData → Left → Read MessageData
field_added message m left = do
  field ← field_at message m.fields left
  Ok (with_field m field.0, field.1)

unfoldable pub fields_added : (Left → Result MessageData FlatFault) → MessageData → ℕ → Left → Read MessageData
fields_added message m count left = do
  fields ← fields_at message count m.fields left
  Ok (record { what = m.what; fields = fields.0; popped = m.popped }, fields.1)
