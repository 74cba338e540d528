-- What contracts see of a message: a record with real lists. What a message holds as a value is spelled by data types
-- of its own, since a list of its own kind cannot stand in a data type; the functions below turn one into the other.
use Rattle.std.specs.Prelude.{ℕ, ◌+◌, Bool, ℤ, max, List, [], ◌∷◌}
use Rattle.ak_message.specs.declared.address.Address.{Address}
use Rattle.ak_message.specs.declared.kind.Kind.{Kind}
use Rattle.ak_message.specs.declared.kind.Kind.TheVariants as k

mutual
  -- one value
  pub data ValueData : Type 0 where
    bool_value : Bool → ValueData
    int8_value : ℤ → ValueData
    int16_value : ℤ → ValueData
    int32_value : ℤ → ValueData
    int64_value : ℤ → ValueData
    uint8_value : ℕ → ValueData
    uint16_value : ℕ → ValueData
    uint32_value : ℕ → ValueData
    uint64_value : ℕ → ValueData
    text_value : List ℕ → ValueData
    -- its code, its fields, and how many specifiers are popped
    message_value : ℕ → NestedFields → ℕ → ValueData
    messenger_value : Address → ValueData
    raw_value : List ℕ → ValueData

  -- the values of a field of a message that is a value
  pub data NestedValues : Type 0 where
    no_values : NestedValues
    then_value : ValueData → NestedValues → NestedValues

  -- the fields of a message that is a value, each with its name, its kind and its values
  pub data NestedFields : Type 0 where
    no_fields : NestedFields
    then_field : List ℕ → Kind → NestedValues → NestedFields → NestedFields

pub record FieldData : Type 0 where
  pub name : List ℕ
  pub kind : Kind
  pub values : List ValueData

pub record MessageData : Type 0 where
  pub what : ℕ
  pub fields : List FieldData
  pub popped : ℕ

abbrev pub kind_of : ValueData → Kind
kind_of (bool_value _) = k.Bool
kind_of (int8_value _) = k.Int8
kind_of (int16_value _) = k.Int16
kind_of (int32_value _) = k.Int32
kind_of (int64_value _) = k.Int64
kind_of (uint8_value _) = k.UInt8
kind_of (uint16_value _) = k.UInt16
kind_of (uint32_value _) = k.UInt32
kind_of (uint64_value _) = k.UInt64
kind_of (text_value _) = k.Text
kind_of (message_value _ _ _) = k.Message
kind_of (messenger_value _) = k.Messenger
kind_of (raw_value _) = k.Raw

-- ---- a message as a value, and back
abbrev pub nested_values : List ValueData → NestedValues
nested_values [] = no_values
nested_values (v ∷ vs) = then_value v (nested_values vs)

abbrev pub listed_values : NestedValues → List ValueData
listed_values no_values = []
listed_values (then_value v vs) = v ∷ listed_values vs

abbrev pub nested_fields : List FieldData → NestedFields
nested_fields [] = no_fields
nested_fields (f ∷ fs) = then_field f.name f.kind (nested_values f.values) (nested_fields fs)

abbrev pub listed_fields : NestedFields → List FieldData
listed_fields no_fields = []
listed_fields (then_field name kind vs fs) = (record { name = name; kind = kind; values = listed_values vs }) ∷ listed_fields fs

-- the value that a message is
abbrev pub value_of_message : MessageData → ValueData
value_of_message m = message_value m.what (nested_fields m.fields) m.popped

-- the message with these fields
abbrev pub message_of_nested : ℕ → NestedFields → ℕ → MessageData
message_of_nested what fields popped = record { what = what; fields = listed_fields fields; popped = popped }

-- ---- how deep messages stand in one another: 0 for a value that is no message, else one more than the deepest value
abbrev mutual
  pub depth_of_value : ValueData → ℕ
  depth_of_value (bool_value _) = 0
  depth_of_value (int8_value _) = 0
  depth_of_value (int16_value _) = 0
  depth_of_value (int32_value _) = 0
  depth_of_value (int64_value _) = 0
  depth_of_value (uint8_value _) = 0
  depth_of_value (uint16_value _) = 0
  depth_of_value (uint32_value _) = 0
  depth_of_value (uint64_value _) = 0
  depth_of_value (text_value _) = 0
  depth_of_value (messenger_value _) = 0
  depth_of_value (raw_value _) = 0
  depth_of_value (message_value _ fs _) = depth_of_nested_fields fs + 1

  pub depth_of_nested_values : NestedValues → ℕ
  depth_of_nested_values no_values = 0
  depth_of_nested_values (then_value v vs) = max (depth_of_value v) (depth_of_nested_values vs)

  pub depth_of_nested_fields : NestedFields → ℕ
  depth_of_nested_fields no_fields = 0
  depth_of_nested_fields (then_field _ _ vs fs) = max (depth_of_nested_values vs) (depth_of_nested_fields fs)

-- 1 for a message without message values
abbrev pub depth_of : MessageData → ℕ
depth_of m = depth_of_value (value_of_message m)
