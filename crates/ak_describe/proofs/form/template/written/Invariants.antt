-- The message has the fields so far.
use Rattle.std.proofs.Common.{◌≡◌, take}
use Rattle.ak_describe.specs.Actions.{written_fields}
use Rattle.ak_describe.proofs.form.template.written.Given as goal

abbrev pub invariant-loop-field : goal.invariant-loop-field
invariant-loop-field l = l.message ≡ record { what = l.fn.what.0; fields = written_fields (take l.field-index l.list); popped = 0 }
