-- The value is of the elements' kind.
use Rattle.ak_value.specs.Seen.{elements_inside, part_seen}
use Rattle.ak_value.proofs.Keeping.{kept_by_set}
use Rattle.ak_value.proofs.elements.Elements.set.Goals as goal

pub invariant_of-self-2 : goal.invariant_of-self-2
invariant_of-self-2 c =
    rw c.in_ok-put_in.ensures.ok (kept_by_set (elements_inside c.self.inside) (part_seen c.in_ok-part.part) _ c.in_ok-value.ensures.same_kind c.self.invariant)
