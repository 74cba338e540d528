-- The field has the values so far that a message can hold.
use Rattle.std.proofs.Common.{◌≡◌, map, take}
use Rattle.std.specs.List.{filter}
use Rattle.ak_message.specs.Seen.{value_of}
use Rattle.ak_action.specs.Building.{with_new}
use Rattle.ak_action.specs.Values.{is_shallow}
use Rattle.ak_action.proofs.building.add_values.Given as goal

abbrev pub invariant-loop-value : goal.invariant-loop-value
invariant-loop-value l = l.message ≡ with_new l.fn.message l.name (filter is_shallow (take l.value-index (map value_of l.list)))
