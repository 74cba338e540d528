-- The deepest is found so far, or is among the values that are left.
use Rattle.std.proofs.Common.{◌≡◌, max, map, drop}
use Rattle.ak_message.specs.Message.{nested_values, depth_of_nested_values}
use Rattle.ak_message.specs.Seen.{value_of}
use Rattle.ak_message.proofs.message.changes.deepest_value.Given as goal

abbrev pub invariant-loop-value : goal.invariant-loop-value
invariant-loop-value l =
    max l.depth (depth_of_nested_values (nested_values (map value_of (drop l.value-index l.values))))
    ≡ depth_of_nested_values (nested_values (map value_of l.values))
