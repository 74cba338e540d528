use Rattle.std.proofs.Common.{◌≡◌, ◌++◌, ap, sym, ◌∙◌, arith, length, map, drop, ◌+◌}
use Rattle.std.proofs.lemmas.List.{length-map}
use Rattle.ak_message.specs.Message.{nested_values, nested_fields}
use Rattle.ak_message.specs.Seen.{value_of, field_ref_of}
use Rattle.ak_flatten.specs.Spelling.{spelling, values_bytes, fields_bytes, field_bytes}
use Rattle.ak_message.proofs.Surface.{depth_in_values, depth_in_fields, no_field}
use Rattle.ak_flatten.proofs.Lengths.{field_short, value_short, fields_within, values_within, fields_split}
use Rattle.ak_flatten.proofs.Writings.{field_begins, message_begins, goes_on, is_field_at, name_short}
use Rattle.ak_flatten.proofs.writing.+messages.Goals as goal
use Rattle.ak_flatten.proofs.writing.+messages.Goals.{put_message-in-Some+in_ok-put_field, put_message-in_default}

pub put_field-loop-value-init : goal.put_field-loop-value-init
put_field-loop-value-init t c =
    field_begins c.args.out.now c.put_head.new.out (field_ref_of c.args.field.now) (length c.args.field.now.values.now) c.in_ok-put_head.ensures (sym (length-map c.args.field.now.values.now value_of))

pub put_field-put_value-requires : goal.put_field-put_value-requires
put_field-put_value-requires t c =
    let values = c.args.field.now.values.now in (
      omega (arith, c.decreases, depth_in_values values c.loop-value.value-index c.value-item.result c.value-item.is c.loop-value-test.true),
      omega (arith, c.requires.short, values_within (field_ref_of c.args.field.now), value_short values c.loop-value.value-index c.value-item.result c.value-item.is c.loop-value-test.true),
    )

pub put_message-loop-i-init : goal.put_message-loop-i-init
put_message-loop-i-init t c =
    message_begins c.args.out.now c.put_opening.new.out c.args.message.now _ _ c.in_ok-put_opening.ensures c.what.ensures.value c.count_names-count.ensures

pub put_message-put_field-requires : goal.put_message-put_field-requires
put_message-put_field-requires t c =
    let fields = c.args.message.now.fields in
    let f = field_ref_of c.in-Some.field in
    let field = is_field_at fields c.loop-i.i f c.what.ensures.is_message.every_field c.in-Some.ensures in (
      omega (arith, c.decreases, depth_in_fields fields c.loop-i.i f c.in-Some.ensures),
      (
        name_short f field,
        (
          omega (arith, field.limit, length-map c.in-Some.field.values.now value_of),
          omega (arith, c.requires, fields_within c.args.message.now, field_short fields c.loop-i.i f c.in-Some.ensures),
        ),
      ),
    )

pub put_message-loop-i-preserved : goal.put_message-loop-i-preserved
put_message-loop-i-preserved t c =
    let fields = c.args.message.now.fields in
    elim c.match-field_at.branch [
      | put_message-in-Some+in_ok-put_field w ↦
          let f = field_ref_of w.in-Some.field in
          rw w.out-is (goes_on c.loop-i.out w.put_field.new.out (c.args.out.now ++ spelling c.args.message.now) (field_bytes f) (fields_bytes (nested_fields (drop c.loop-i.i fields))) (fields_bytes (nested_fields (drop (c.loop-i.i + 1) fields))) c.loop-i.invariant (fields_split fields c.loop-i.i f w.in-Some.ensures) w.in_ok-put_field.ensures)
      | put_message-in_default w ↦
          absurd (no_field fields c.loop-i.i c.field_at.result c.field_at.ensures w.in_default.is (omega (arith, c.loop-i-test.true, c.count_names-count.ensures)))
    ]
