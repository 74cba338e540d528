-- A field is measured by its values, and a message by the messages in it. What is written, and then what is still to be
-- written, is the whole.
use Rattle.std.proofs.Common.{◌≡◌, ◌+◌, ◌*◌, ◌++◌, map, drop}
use Rattle.ak_message.specs.Message.{depth_of, depth_of_value, depth_of_nested_values, nested_values, nested_fields}
use Rattle.ak_input.specs.MessageText.{message_text, more_values_text, nested_values_text, nested_fields_text}
use Rattle.ak_message.specs.Seen.{value_of}
use Rattle.ak_print.proofs.message.+messages.Given as goal

abbrev pub decreases-put_field : goal.decreases-put_field
decreases-put_field l = 6 * depth_of_nested_values (nested_values (map value_of l.field.now.values.now)) + 5

abbrev pub decreases-put_values : goal.decreases-put_values
decreases-put_values l = 6 * depth_of_nested_values (nested_values (map value_of l.values.now)) + 4

abbrev pub decreases-put_value : goal.decreases-put_value
decreases-put_value l = 6 * depth_of_value (value_of l.value.now) + 3

abbrev pub decreases-put_payload : goal.decreases-put_payload
decreases-put_payload l = 6 * depth_of_value (value_of l.value.now) + 2

abbrev pub decreases-put_braced : goal.decreases-put_braced
decreases-put_braced l = 6 * depth_of l.message.now + 1

abbrev pub decreases-put_message : goal.decreases-put_message
decreases-put_message l = 6 * depth_of l.message.now

abbrev pub invariant-put_message-loop-i : goal.invariant-put_message-loop-i
invariant-put_message-loop-i l =
    l.out ++ nested_fields_text (nested_fields (drop l.i l.message.fields)) ≡ l.fn.out ++ message_text l.message

abbrev pub invariant-put_values-loop-value : goal.invariant-put_values-loop-value
invariant-put_values-loop-value l =
    l.out ++ more_values_text (nested_values (map value_of (drop l.value-index l.rest)))
    ≡ l.fn.out ++ nested_values_text (nested_values (map value_of l.values))
