-- The values so far are copied.
use Rattle.std.proofs.Common.{◌≡◌, map, take}
use Rattle.ak_message.specs.Seen.{value_of}
use Rattle.ak_action.proofs.values.copied.Given as goal

abbrev pub invariant-loop-value : goal.invariant-loop-value
invariant-loop-value l = map value_of l.copies.items ≡ map value_of (take l.value-index l.values)
