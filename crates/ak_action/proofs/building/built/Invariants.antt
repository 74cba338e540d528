-- The message has the fields so far.
use Rattle.std.proofs.Common.{◌≡◌, take}
use Rattle.ak_action.specs.Building.{built_fields}
use Rattle.ak_action.proofs.building.built.Given as goal

abbrev pub invariant-loop-field : goal.invariant-loop-field
invariant-loop-field l =
    l.message ≡ record { what = l.template.what.0; fields = built_fields l.row l.m (take l.field-index l.fields); popped = 0 }
