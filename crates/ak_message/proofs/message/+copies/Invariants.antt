-- What is copied so far is seen as the front of the list.
use Rattle.std.proofs.Common.{◌≡◌, map, take}
use Rattle.ak_message.specs.Seen.{value_of, fields_of}
use Rattle.ak_message.proofs.message.+copies.Given as goal

abbrev pub invariant-copies::copied_fields-loop-field :
    goal.invariant-copies::copied_fields-loop-field
invariant-copies::copied_fields-loop-field l = fields_of l.copies.items ≡ fields_of (take l.field-index l.fields)

abbrev pub invariant-copies::copied_values-loop-value :
    goal.invariant-copies::copied_values-loop-value
invariant-copies::copied_values-loop-value l = map value_of l.copies.items ≡ map value_of (take l.value-index l.values)
