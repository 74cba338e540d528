-- Whole numbers of eight kinds, and their sums.
use Rattle.std.specs.Prelude.{ℤ, pos, negsuc, ◌+ℤ◌, nat_abs, int_le, Bool, ◌&&◌, if◌then◌else◌, Option, None, Some}
use Rattle.ak_message.specs.declared.kind.Kind.{Kind}
use Rattle.ak_message.specs.declared.kind.Kind.TheVariants as k
use Rattle.ak_message.specs.Kind.{is_same_kind}
use Rattle.ak_message.specs.Message.{ValueData, bool_value, int8_value, int16_value, int32_value, int64_value, uint8_value, uint16_value, uint32_value, uint64_value, text_value, message_value, messenger_value, raw_value, kind_of}
use Rattle.ak_action.specs.declared.number.Number.{Number}
use Rattle.ak_action.specs.declared.number.Number.TheVariants as n

abbrev pub number_value : Number → ValueData
number_value (n.Int8 x) = int8_value x
number_value (n.Int16 x) = int16_value x
number_value (n.Int32 x) = int32_value x
number_value (n.Int64 x) = int64_value x
number_value (n.UInt8 x) = uint8_value x
number_value (n.UInt16 x) = uint16_value x
number_value (n.UInt32 x) = uint32_value x
number_value (n.UInt64 x) = uint64_value x

abbrev pub number_of : ValueData → Option Number
number_of (bool_value _) = None
number_of (int8_value x) = Some (n.Int8 x)
number_of (int16_value x) = Some (n.Int16 x)
number_of (int32_value x) = Some (n.Int32 x)
number_of (int64_value x) = Some (n.Int64 x)
number_of (uint8_value x) = Some (n.UInt8 x)
number_of (uint16_value x) = Some (n.UInt16 x)
number_of (uint32_value x) = Some (n.UInt32 x)
number_of (uint64_value x) = Some (n.UInt64 x)
number_of (text_value _) = None
number_of (message_value _ _ _) = None
number_of (messenger_value _) = None
number_of (raw_value _) = None

abbrev pub number_kind : Number → Kind
number_kind x = kind_of (number_value x)

abbrev pub int_of : Number → ℤ
int_of (n.Int8 x) = x
int_of (n.Int16 x) = x
int_of (n.Int32 x) = x
int_of (n.Int64 x) = x
int_of (n.UInt8 x) = pos x
int_of (n.UInt16 x) = pos x
int_of (n.UInt32 x) = pos x
int_of (n.UInt64 x) = pos x

-- from the least to the greatest of a kind
abbrev pub in_range : ℤ → ℤ → ℤ → Bool
in_range least greatest z = int_le least z && int_le z greatest

abbrev pub where_in : ℤ → ℤ → ℤ → Number → Option Number
where_in least greatest z x = if in_range least greatest z then Some x else None

-- the number of that kind, where it is in the kind's range
abbrev pub number_in : Kind → ℤ → Option Number
number_in k.Int8 z = where_in (negsuc 127) (pos 127) z (n.Int8 z)
number_in k.Int16 z = where_in (negsuc 32767) (pos 32767) z (n.Int16 z)
number_in k.Int32 z = where_in (negsuc 2147483647) (pos 2147483647) z (n.Int32 z)
number_in k.Int64 z = where_in (negsuc 9223372036854775807) (pos 9223372036854775807) z (n.Int64 z)
number_in k.UInt8 z = where_in (pos 0) (pos 255) z (n.UInt8 (nat_abs z))
number_in k.UInt16 z = where_in (pos 0) (pos 65535) z (n.UInt16 (nat_abs z))
number_in k.UInt32 z = where_in (pos 0) (pos 4294967295) z (n.UInt32 (nat_abs z))
number_in k.UInt64 z = where_in (pos 0) (pos 18446744073709551615) z (n.UInt64 (nat_abs z))
number_in _ z = None

-- of two numbers of one kind, where that kind has it
abbrev pub sum_of : Number → Number → Option Number
sum_of a b = if is_same_kind (number_kind a) (number_kind b) then number_in (number_kind a) (int_of a +ℤ int_of b) else None
