-- Values in a line: of what passes a limit nothing is kept.
use Rattle.std.specs.Prelude.{ℕ, Bool, true, nat_le, if◌then◌else◌, is_none, List, [], ◌∷◌, length, Option, Some, None, option_map}
use Rattle.ak_base.specs.declared.limited.Limited.{Limited}
use Rattle.ak_base.specs.declared.limited.Limited.TheVariants.{Within, Over}
use Rattle.ak_message.specs.declared.kind.Kind.{Kind}
use Rattle.ak_message.specs.Kind.{is_same_kind}
use Rattle.ak_message.specs.Message.{ValueData, bool_value, int8_value, int16_value, int32_value, int64_value, uint8_value, uint16_value, uint32_value, uint64_value, text_value, message_value, messenger_value, raw_value}
use Rattle.ak_base.specs.Option.{where_true, ◌>>=◌}
use Rattle.ak_input.specs.Reading as reading
use Rattle.ak_input.specs.Written.{value_from}
use Rattle.ak_flatten.specs.Spelling.{value_bytes}
use Rattle.ak_flatten.specs.Limits.{flat_limit}
use Rattle.ak_action.specs.declared.number.Number.{Number}
use Rattle.ak_action.specs.Number.{number_of, number_kind}
use Rattle.ak_action.specs.Values.{ValuesData, one_value, with_last, depth_fault, push_fault}

-- one step behind another, where the first passes no limit
abbrev pub limited_then : {A B : Type 0} → (A → Limited B) → Limited A → Limited B
limited_then f (Within x) = f x
limited_then f Over = Over

-- ---- one value
-- a value of that kind
unfoldable pub value_of_kind : Kind → List ℕ → Option (Limited ValueData)
value_of_kind kind word = reading.read_value word >>= λ g. where_true (is_same_kind g.kind kind) g.value

-- a number of that kind, which no limit is for
abbrev pub number_of_kind : Kind → ValueData → Option Number
number_of_kind kind v = number_of v >>= λ n. where_true (is_same_kind (number_kind n) kind) n

abbrev pub number_in : Kind → Limited ValueData → Option Number
number_in kind Over = None
number_in kind (Within v) = number_of_kind kind v

unfoldable pub number_from : Kind → List ℕ → Option Number
number_from kind word = value_from word >>= number_in kind

-- ---- values of a field
-- with one value more, where a field can hold it
abbrev pub with_value : Option ValuesData → ValueData → Option ValuesData
with_value None v = where_true (is_none (depth_fault v)) (one_value v)
with_value (Some vs) v = where_true (is_none (push_fault vs v)) (with_last vs v)

unfoldable pub values_of : Option ValuesData → List ValueData → Option (Option ValuesData)
values_of all [] = Some all
values_of all (v ∷ vs) = with_value all v >>= λ more. values_of (Some more) vs

-- one value or more
abbrev pub values_kept : Limited (List ValueData) → Option (Limited ValuesData)
values_kept Over = Some Over
values_kept (Within vs) = values_of None vs >>= option_map Within

unfoldable pub values_from : List ℕ → Option (Limited ValuesData)
values_from text = option_map (λ (g : reading.GotValues). g.values) (reading.read_values text) >>= values_kept

-- ---- one value alone, of any kind
-- whether it is no message of over 4,096 bytes
abbrev pub is_short : ValueData → Bool
is_short (message_value what fields popped) = nat_le (length (value_bytes (message_value what fields popped))) flat_limit
is_short (bool_value _) = true
is_short (int8_value _) = true
is_short (int16_value _) = true
is_short (int32_value _) = true
is_short (int64_value _) = true
is_short (uint8_value _) = true
is_short (uint16_value _) = true
is_short (uint32_value _) = true
is_short (uint64_value _) = true
is_short (text_value _) = true
is_short (messenger_value _) = true
is_short (raw_value _) = true

-- a message that is too long passes a limit
abbrev pub one_kept : ValueData → Limited ValuesData
one_kept v = if is_short v then Within (one_value v) else Over

unfoldable pub one_from : List ℕ → Option (Limited ValuesData)
one_from word = option_map (limited_then one_kept) (value_from word)
