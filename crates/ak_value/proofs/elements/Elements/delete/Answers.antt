-- What is always true of elements is true of fewer of them.
use Rattle.std.proofs.Common.{◌+◌, ◌≤◌, length, arith}
use Rattle.std.proofs.lemmas.Grind.{common_steps}
use Rattle.std.proofs.lemmas.List.{length-map}
use Rattle.ak_value.specs.Seen.{elements_of_list, elements_inside, part_seen}
use Rattle.ak_value.proofs.Keeping.{kept_by_delete}
use Rattle.ak_value.proofs.elements.Elements.delete.Goals as goal

pub invariant_of-self : goal.invariant_of-self
invariant_of-self c =
    let part = part_seen c.in_ok-part.part in
    let within : part.from + part.count ≤ length (elements_of_list c.self.inside.list.items) = grind (arith, common_steps, length-map) in
    rw c.remove_from.ensures (kept_by_delete (elements_inside c.self.inside) part within c.self.invariant)
