use Rattle.std.proofs.Common.{ap, length, arith}
use Rattle.ak_message.proofs.Surface.{depth_in_values, depth_in_fields, no_field}
use Rattle.ak_flatten.proofs.Lengths.{fields_more, fields_end, values_more, values_end}
use Rattle.ak_flatten.proofs.length.+lengths.Goals as goal
use Rattle.ak_flatten.proofs.length.+lengths.Goals.{flat_len-in-Some, flat_len-in_default}

pub field_len-value_len-requires : goal.field_len-value_len-requires
field_len-value_len-requires t c =
    (omega (arith, c.decreases, depth_in_values c.args.field.now.values.now c.loop-value.value-index c.value-item.result c.value-item.is c.loop-value-test.true), tt)

pub field_len-returns : goal.field_len-returns
field_len-returns t c = omega (arith, ap length (values_end c.args.field.now.values.now c.loop-value.value-index c.loop-value-test.false), c.loop-value.invariant.so_far)

pub flat_len-field_len-requires : goal.flat_len-field_len-requires
flat_len-field_len-requires t c = (omega (arith, c.decreases, depth_in_fields c.args.message.now.fields c.loop-i.i _ c.in-Some.ensures), tt)

pub flat_len-loop-i-preserved : goal.flat_len-loop-i-preserved
flat_len-loop-i-preserved t c =
    elim c.match-field_at.branch [
      | flat_len-in-Some w ↦
          let more = fields_more c.args.message.now.fields c.loop-i.i _ w.in-Some.ensures in
          record { within = omega arith; so_far = omega arith }
      | flat_len-in_default w ↦
          absurd (no_field c.args.message.now.fields c.loop-i.i c.field_at.result c.field_at.ensures w.in_default.is (omega (arith, c.loop-i-test.true, c.count_names-i-end.ensures)))
    ]

pub flat_len-returns : goal.flat_len-returns
flat_len-returns t c = omega (arith, ap length (fields_end c.args.message.now.fields c.loop-i.i (omega (arith, c.loop-i-test.false, c.count_names-i-end.ensures))), c.loop-i.invariant.so_far)
