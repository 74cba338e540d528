-- There is room, and the value is of the elements' kind.
use Rattle.std.proofs.Common.{◌≡◌, true, sym, subst}
use Rattle.ak_value.specs.Access.{has_room}
use Rattle.ak_value.specs.Seen.{elements_inside}
use Rattle.ak_value.proofs.Keeping.{kept_by_create}
use Rattle.ak_value.proofs.elements.Elements.create.Goals as goal

pub invariant_of-self-2 : goal.invariant_of-self-2
invariant_of-self-2 c =
    let before = elements_inside c.self.inside in
    let room : has_room before ≡ true = subst (λ x. has_room x ≡ true) (sym c.self.view_is) (sym c.if-not-has_room.ensures) in
    rw c.in_ok-push_copy.ensures.ok (kept_by_create before c.in_ok-name.name _ c.in_ok-value.ensures.same_kind room c.self.invariant)
