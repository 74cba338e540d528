-- A field is measured by its values, and a message by the messages in it.
use Rattle.std.proofs.Common.{◌≡◌, ◌+◌, ◌*◌, ◌^◌, ◌<◌, length, map, drop}
use Rattle.ak_message.specs.Message.{depth_of, depth_of_value, depth_of_nested_values, nested_values, nested_fields}
use Rattle.ak_message.specs.Seen.{value_of, field_ref_of}
use Rattle.ak_flatten.specs.Spelling.{spelling, values_bytes, fields_bytes, field_bytes}
use Rattle.ak_flatten.proofs.Lengths.{capped}
use Rattle.ak_flatten.proofs.length.+lengths.Given as goal

abbrev pub decreases-field_len : goal.decreases-field_len
decreases-field_len l = 3 * depth_of_nested_values (nested_values (map value_of l.field.now.values.now)) + 2

abbrev pub decreases-flat_len : goal.decreases-flat_len
decreases-flat_len l = 3 * depth_of l.message.now

abbrev pub decreases-value_len : goal.decreases-value_len
decreases-value_len l = 3 * depth_of_value (value_of l.value.now) + 1

abbrev pub invariant-field_len-loop-value : goal.invariant-field_len-loop-value
invariant-field_len-loop-value l =
    record {
      within : l.len < 2 ^ 64;
      so_far : capped (l.len + length (values_bytes (nested_values (map value_of (drop l.value-index l.value-items)))))
          ≡ capped (length (field_bytes (field_ref_of l.field)));
    }

abbrev pub invariant-flat_len-loop-i : goal.invariant-flat_len-loop-i
invariant-flat_len-loop-i l =
    record {
      within : l.len < 2 ^ 64;
      so_far : capped (l.len + length (fields_bytes (nested_fields (drop l.i l.message.fields))))
          ≡ capped (length (spelling l.message));
    }
