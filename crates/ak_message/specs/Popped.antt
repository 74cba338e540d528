-- A message of which nothing is popped, at any depth.
use Rattle.std.specs.Prelude.{◌≡◌, map}
use Rattle.ak_message.specs.Message.{ValueData, bool_value, int8_value, int16_value, int32_value, int64_value, uint8_value, uint16_value, uint32_value, uint64_value, text_value, message_value, messenger_value, raw_value, NestedValues, no_values, then_value, NestedFields, no_fields, then_field, FieldData, MessageData, nested_fields}

abbrev mutual
  pub IsUnpoppedValue : ValueData → Type 0
  IsUnpoppedValue (bool_value _) = Unit {0}
  IsUnpoppedValue (int8_value _) = Unit {0}
  IsUnpoppedValue (int16_value _) = Unit {0}
  IsUnpoppedValue (int32_value _) = Unit {0}
  IsUnpoppedValue (int64_value _) = Unit {0}
  IsUnpoppedValue (uint8_value _) = Unit {0}
  IsUnpoppedValue (uint16_value _) = Unit {0}
  IsUnpoppedValue (uint32_value _) = Unit {0}
  IsUnpoppedValue (uint64_value _) = Unit {0}
  IsUnpoppedValue (text_value _) = Unit {0}
  IsUnpoppedValue (message_value _ fs popped) = (popped ≡ 0) × AreUnpoppedFields fs
  IsUnpoppedValue (messenger_value _) = Unit {0}
  IsUnpoppedValue (raw_value _) = Unit {0}

  pub AreUnpoppedValues : NestedValues → Type 0
  AreUnpoppedValues no_values = Unit {0}
  AreUnpoppedValues (then_value v vs) = IsUnpoppedValue v × AreUnpoppedValues vs

  pub AreUnpoppedFields : NestedFields → Type 0
  AreUnpoppedFields no_fields = Unit {0}
  AreUnpoppedFields (then_field _ _ vs fs) = AreUnpoppedValues vs × AreUnpoppedFields fs

-- nothing is popped, at any depth
abbrev pub IsUnpopped : MessageData → Type 0
IsUnpopped m = (m.popped ≡ 0) × AreUnpoppedFields (nested_fields m.fields)

-- ---- the same message with nothing popped
abbrev mutual
  pub unpopped_value : ValueData → ValueData
  unpopped_value (bool_value x) = bool_value x
  unpopped_value (int8_value x) = int8_value x
  unpopped_value (int16_value x) = int16_value x
  unpopped_value (int32_value x) = int32_value x
  unpopped_value (int64_value x) = int64_value x
  unpopped_value (uint8_value x) = uint8_value x
  unpopped_value (uint16_value x) = uint16_value x
  unpopped_value (uint32_value x) = uint32_value x
  unpopped_value (uint64_value x) = uint64_value x
  unpopped_value (text_value x) = text_value x
  unpopped_value (message_value what fs _) = message_value what (unpopped_fields fs) 0
  unpopped_value (messenger_value x) = messenger_value x
  unpopped_value (raw_value x) = raw_value x

  pub unpopped_values : NestedValues → NestedValues
  unpopped_values no_values = no_values
  unpopped_values (then_value v vs) = then_value (unpopped_value v) (unpopped_values vs)

  pub unpopped_fields : NestedFields → NestedFields
  unpopped_fields no_fields = no_fields
  unpopped_fields (then_field name kind vs fs) = then_field name kind (unpopped_values vs) (unpopped_fields fs)

abbrev pub unpopped_field : FieldData → FieldData
unpopped_field f = record { name = f.name; kind = f.kind; values = map unpopped_value f.values }

abbrev pub unpopped : MessageData → MessageData
unpopped m = record { what = m.what; fields = map unpopped_field m.fields; popped = 0 }
