-- Which specifier of a message is current.
use Rattle.std.specs.Prelude.{ℕ, ◌+◌, ◌-◌, zero, suc, length, codes, Option, Some, None, option_and_then, Result, Ok}
use Rattle.ak_message.specs.declared.kind.Kind.TheVariants as k
use Rattle.ak_message.specs.declared.fault.AddFault.{AddFault}
use Rattle.ak_message.specs.declared.fault.FindFault.{FindFault}
use Rattle.ak_message.specs.declared.specifier.Specifier.{Specifier}
use Rattle.ak_message.specs.Message.{ValueData, MessageData, message_value, message_of_nested, value_of_message}
use Rattle.ak_message.specs.Fields.{added, field_named, found_in, place_fault, specifier_count}
use Rattle.ak_specifier.specs.Specifier.{specifier_message, specifier_in}

-- how many specifiers are not popped
abbrev pub left_of : MessageData → ℕ
left_of m = specifier_count m.fields - m.popped

abbrev pub popped_once : MessageData → MessageData
popped_once m = record m { popped = m.popped + 1 }

abbrev pub message_of_found : Result ValueData FindFault → Option MessageData
message_of_found (Ok (message_value what fields popped)) = Some (message_of_nested what fields popped)
message_of_found _ = None

-- the message at that place among the specifiers
abbrev pub specifier_message_at : MessageData → ℕ → Option MessageData
specifier_message_at m place = message_of_found (found_in m.fields (codes "specifiers") k.Message place)

-- the last one of so many
abbrev pub last_specifier : MessageData → ℕ → Option MessageData
last_specifier m zero = None
last_specifier m (suc place) = specifier_message_at m place

abbrev pub current_message : MessageData → Option MessageData
current_message m = last_specifier m (left_of m)

abbrev pub current_of : MessageData → Option Specifier
current_of m = option_and_then specifier_in (current_message m)

-- ---- adding one
-- the field `specifiers` has another kind, or there is no room for a field or a value
abbrev pub specifier_fault : MessageData → Option AddFault
specifier_fault m = place_fault (length m.fields) (field_named m.fields (codes "specifiers")) k.Message

-- it stands last, and none is popped
abbrev pub with_specifier : MessageData → Specifier → MessageData
with_specifier m s =
    record m { fields = added m.fields (codes "specifiers") (value_of_message (specifier_message s)); popped = 0 }
