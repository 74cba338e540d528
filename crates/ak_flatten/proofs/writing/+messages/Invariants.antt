-- A field is measured by its values, and a message by the messages in it. What is written, and then what is still to be
-- written, is the whole.
use Rattle.std.proofs.Common.{◌≡◌, ◌+◌, ◌*◌, ◌++◌, map, drop}
use Rattle.ak_message.specs.Message.{depth_of, depth_of_value, depth_of_nested_values, nested_values, nested_fields}
use Rattle.ak_message.specs.Seen.{value_of, field_ref_of}
use Rattle.ak_flatten.specs.Spelling.{spelling, values_bytes, fields_bytes, field_bytes}
use Rattle.ak_flatten.proofs.writing.+messages.Given as goal

abbrev pub decreases-put_field : goal.decreases-put_field
decreases-put_field l = 4 * depth_of_nested_values (nested_values (map value_of l.field.now.values.now)) + 3

abbrev pub decreases-put_message : goal.decreases-put_message
decreases-put_message l = 4 * depth_of l.message.now

abbrev pub decreases-put_value : goal.decreases-put_value
decreases-put_value l = 4 * depth_of_value (value_of l.value.now) + 2

abbrev pub decreases-put_bytes : goal.decreases-put_bytes
decreases-put_bytes l = 4 * depth_of_value (value_of l.value.now) + 1

abbrev pub invariant-put_field-loop-value : goal.invariant-put_field-loop-value
invariant-put_field-loop-value l =
    l.out ++ values_bytes (nested_values (map value_of (drop l.value-index l.value-items)))
    ≡ l.fn.out ++ field_bytes (field_ref_of l.field)

abbrev pub invariant-put_message-loop-i : goal.invariant-put_message-loop-i
invariant-put_message-loop-i l =
    l.out ++ fields_bytes (nested_fields (drop l.i l.message.fields)) ≡ l.fn.out ++ spelling l.message
