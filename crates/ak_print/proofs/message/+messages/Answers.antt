use Rattle.std.proofs.Common.{◌+◌, ◌++◌, List, ap, arith, drop, map}
use Rattle.ak_message.specs.declared.message.Value.{Value}
use Rattle.ak_message.specs.Message.{depth_of_nested_values, nested_values, nested_fields}
use Rattle.ak_input.specs.MessageText.{message_text, nested_fields_text}
use Rattle.ak_message.specs.Seen.{value_of, field_ref_of}
use Rattle.ak_print.specs.Fields.{field_text}
use Rattle.ak_message.proofs.Surface.{depth_in_values, depth_in_fields, no_field}
use Rattle.ak_print.proofs.Pieces.{goes_on, fields_split}
use Rattle.ak_print.proofs.message.+messages.Goals as goal
use Rattle.ak_print.proofs.message.+messages.Goals.{put_message-in-Some+in_ok-put_field, put_message-in_default}

pub put_message-put_field-requires : goal.put_message-put_field-requires
put_message-put_field-requires t c = (omega (arith, c.decreases, depth_in_fields c.args.message.now.fields c.loop-i.i _ c.in-Some.ensures), tt)

pub put_message-loop-i-preserved : goal.put_message-loop-i-preserved
put_message-loop-i-preserved t c =
    let fields = c.args.message.now.fields in
    elim c.match-field_at.branch [
      | put_message-in-Some+in_ok-put_field w ↦
          let f = field_ref_of w.in-Some.field in
          rw w.out-is (goes_on c.loop-i.out w.put_field.new.out (c.args.out.now ++ message_text c.args.message.now) (field_text f) (nested_fields_text (nested_fields (drop c.loop-i.i fields))) (nested_fields_text (nested_fields (drop (c.loop-i.i + 1) fields))) c.loop-i.invariant (fields_split fields c.loop-i.i f w.in-Some.ensures) w.in_ok-put_field.ensures)
      | put_message-in_default w ↦
          absurd (no_field fields c.loop-i.i c.field_at.result c.field_at.ensures w.in_default.is (omega (arith, c.loop-i-test.true, c.count_names-i-end.ensures)))
    ]

pub put_values-put_value-requires-in-loop-value : goal.put_values-put_value-requires-in-loop-value
put_values-put_value-requires-in-loop-value t c =
    let all = ap (λ (vs : List Value). depth_of_nested_values (nested_values (map value_of vs))) c.in-Some.ensures.cases.0 in
    (omega (arith, c.decreases, all, depth_in_values c.in-Some.rest.now c.loop-value.value-index c.value-item.result c.value-item.is c.loop-value-test.true), tt)
