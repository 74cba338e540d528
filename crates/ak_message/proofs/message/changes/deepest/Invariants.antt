-- The deepest is found so far, or is among the fields that are left.
use Rattle.std.proofs.Common.{◌≡◌, max, drop}
use Rattle.ak_message.specs.Message.{nested_fields, depth_of_nested_fields}
use Rattle.ak_message.specs.Seen.{fields_of}
use Rattle.ak_message.proofs.message.changes.deepest.Given as goal

abbrev pub invariant-loop-field : goal.invariant-loop-field
invariant-loop-field l =
    max l.depth (depth_of_nested_fields (nested_fields (fields_of (drop l.field-index l.fields))))
    ≡ depth_of_nested_fields (nested_fields (fields_of l.fields))
