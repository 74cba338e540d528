-- The values of those so far are copied.
use Rattle.std.proofs.Common.{◌≡◌, map, take}
use Rattle.ak_message.specs.Seen.{value_of}
use Rattle.ak_value.proofs.access.copied.Given as goal

abbrev pub invariant-loop-element : goal.invariant-loop-element
invariant-loop-element l = map value_of l.values.items ≡ map (λ e. value_of e.value) (take l.element-index l.elements)
