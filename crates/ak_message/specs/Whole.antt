-- A message that is sound at every depth: its own fields are, each value is in its kind's range, and so is each message in it.
use Rattle.std.specs.Prelude.{◌^◌, ◌<◌, FitsSigned}
use Rattle.std.specs.Int.{w8, w16, w32, w64}
use Rattle.ak_base.specs.Text.{IsText, IsRaw}
use Rattle.ak_message.specs.declared.address.Address.{Address}
use Rattle.ak_message.specs.declared.address.Target.{Target}
use Rattle.ak_message.specs.declared.address.Target.TheVariants as target
use Rattle.ak_message.specs.Message.{ValueData, bool_value, int8_value, int16_value, int32_value, int64_value, uint8_value, uint16_value, uint32_value, uint64_value, text_value, message_value, messenger_value, raw_value, NestedValues, no_values, then_value, NestedFields, no_fields, then_field, MessageData, nested_fields, message_of_nested}
use Rattle.ak_message.specs.Fields.{IsMessage}

abbrev pub FitsTarget : Target → Type 0
FitsTarget target.Preferred = Unit {0}
FitsTarget (target.Token n) = n < 2 ^ 64

abbrev pub FitsAddress : Address → Type 0
FitsAddress a = (a.looper < 2 ^ 32) × FitsTarget a.target

abbrev mutual
  pub FitsValue : ValueData → Type 0
  FitsValue (bool_value _) = Unit {0}
  FitsValue (int8_value z) = FitsSigned w8 z
  FitsValue (int16_value z) = FitsSigned w16 z
  FitsValue (int32_value z) = FitsSigned w32 z
  FitsValue (int64_value z) = FitsSigned w64 z
  FitsValue (uint8_value n) = n < 2 ^ 8
  FitsValue (uint16_value n) = n < 2 ^ 16
  FitsValue (uint32_value n) = n < 2 ^ 32
  FitsValue (uint64_value n) = n < 2 ^ 64
  FitsValue (text_value bytes) = IsText bytes
  FitsValue (message_value what fs popped) = IsMessage (message_of_nested what fs popped) × FitsFields fs
  FitsValue (messenger_value address) = FitsAddress address
  FitsValue (raw_value bytes) = IsRaw bytes

  pub FitsValues : NestedValues → Type 0
  FitsValues no_values = Unit {0}
  FitsValues (then_value v vs) = FitsValue v × FitsValues vs

  pub FitsFields : NestedFields → Type 0
  FitsFields no_fields = Unit {0}
  FitsFields (then_field _ _ vs fs) = FitsValues vs × FitsFields fs

-- every message that exists is so
abbrev pub IsWhole : MessageData → Type 0
IsWhole m = IsMessage m × FitsFields (nested_fields m.fields)
