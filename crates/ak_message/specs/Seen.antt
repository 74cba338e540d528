-- What contracts see of a value and of a field as the code holds them. A message inside is seen as its value.
use Rattle.std.specs.Prelude.{List, map}
use Rattle.ak_message.specs.declared.message.Value.{Value}
use Rattle.ak_message.specs.declared.message.Value.TheVariants as v
use Rattle.ak_message.specs.declared.message.Field.{Field}
use Rattle.ak_message.specs.declared.field_ref.FieldRef.{FieldRef}
use Rattle.ak_message.specs.Message.{ValueData, bool_value, int8_value, int16_value, int32_value, int64_value, uint8_value, uint16_value, uint32_value, uint64_value, text_value, messenger_value, raw_value, FieldData, value_of_message}

abbrev pub value_of : Value → ValueData
value_of (v.Bool x) = bool_value x
value_of (v.Int8 x) = int8_value x
value_of (v.Int16 x) = int16_value x
value_of (v.Int32 x) = int32_value x
value_of (v.Int64 x) = int64_value x
value_of (v.UInt8 x) = uint8_value x
value_of (v.UInt16 x) = uint16_value x
value_of (v.UInt32 x) = uint32_value x
value_of (v.UInt64 x) = uint64_value x
value_of (v.Text x) = text_value x
value_of (v.Message m) = value_of_message m.value
value_of (v.Messenger x) = messenger_value x
value_of (v.Raw x) = raw_value x

abbrev pub field_of : Field → FieldData
field_of f = record { name = f.name; kind = f.kind; values = map value_of f.values.items }

abbrev pub fields_of : List Field → List FieldData
fields_of fs = map field_of fs

-- what a reader sees of a field
abbrev pub field_ref_of : FieldRef → FieldData
field_ref_of f = record { name = f.name.now; kind = f.kind; values = map value_of f.values.now }
