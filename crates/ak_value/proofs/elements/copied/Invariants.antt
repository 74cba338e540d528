-- What is copied so far is seen as the front of the list.
use Rattle.std.proofs.Common.{◌≡◌, take}
use Rattle.ak_value.specs.Seen.{elements_of_list}
use Rattle.ak_value.proofs.elements.copied.Given as goal

abbrev pub invariant-loop-element : goal.invariant-loop-element
invariant-loop-element l = elements_of_list l.copies.items ≡ elements_of_list (take l.element-index l.elements)
