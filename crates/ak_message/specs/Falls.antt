-- A message stands deeper than each message in it.
use Rattle.std.specs.Prelude.{◌+◌, ◌≤◌, List, [], ◌∷◌, map}
use Rattle.std.proofs.Common.{arith}
use denote.Param.Weighed.{most}
use Rattle.ak_message.specs.declared.message.Message.TheInside.{Inside}
use Rattle.ak_message.specs.declared.message.Message.TheDeep.{deep-Message, deep-Field, deep-Value}
use Rattle.ak_message.specs.declared.message.Value.{Value}
use Rattle.ak_message.specs.declared.message.Value.TheVariants as v
use Rattle.ak_message.specs.declared.message.Field.{Field}
use Rattle.ak_message.specs.Message.{depth_of, depth_of_value, depth_of_nested_values, nested_values, depth_of_nested_fields, nested_fields}
use Rattle.ak_message.specs.Inside.{message_in, IsSound}
use Rattle.ak_message.specs.Seen.{value_of, fields_of}

child_size-of_value : (x : Value) → deep-Value x ≤ depth_of_value (value_of x) + 1
child_size-of_value (v.Bool x) = omega arith
child_size-of_value (v.Int8 x) = omega arith
child_size-of_value (v.Int16 x) = omega arith
child_size-of_value (v.Int32 x) = omega arith
child_size-of_value (v.Int64 x) = omega arith
child_size-of_value (v.UInt8 x) = omega arith
child_size-of_value (v.UInt16 x) = omega arith
child_size-of_value (v.UInt32 x) = omega arith
child_size-of_value (v.UInt64 x) = omega arith
child_size-of_value (v.Text x) = omega arith
child_size-of_value (v.Message x) = omega arith
child_size-of_value (v.Messenger x) = omega arith
child_size-of_value (v.Raw x) = omega arith

child_size-of_values : (xs : List Value) → most deep-Value xs ≤ depth_of_nested_values (nested_values (map value_of xs)) + 1
child_size-of_values [] = omega arith
child_size-of_values (x ∷ xs) = omega (arith, child_size-of_value x, child_size-of_values xs)

child_size-of_fields : (fs : List Field) → most deep-Field fs ≤ depth_of_nested_fields (nested_fields (fields_of fs)) + 1
child_size-of_fields [] = omega arith
child_size-of_fields (f ∷ fs) = omega (arith, child_size-of_values f.values.items, child_size-of_fields fs)

pub child_size-falls : (m : Inside) → IsSound m → deep-Message m ≤ depth_of (message_in m)
child_size-falls m h = omega (arith, child_size-of_fields m.fields.items)
