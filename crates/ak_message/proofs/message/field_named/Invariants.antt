-- The field of the name is the one among the fields that are left.
use Rattle.std.proofs.Common.{◌≡◌, drop}
use Rattle.ak_message.specs.Fields.{field_named}
use Rattle.ak_message.specs.Seen.{fields_of}
use Rattle.ak_message.proofs.message.field_named.Given as goal

abbrev pub invariant-loop-field : goal.invariant-loop-field
invariant-loop-field l =
    field_named (fields_of l.fields) l.name ≡ field_named (fields_of (drop l.field-index l.fields)) l.name
