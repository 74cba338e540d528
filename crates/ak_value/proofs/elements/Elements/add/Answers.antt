-- The kinds are compared, then there is room or none; the value is of the elements' kind.
use Rattle.std.proofs.Common.{◌≡◌, true, false, refl, sym, subst}
use Rattle.ak_message.specs.Kind.{same_kind-is}
use Rattle.ak_message.specs.Message.{kind_of}
use Rattle.ak_message.specs.Seen.{value_of}
use Rattle.ak_value.specs.declared.fault.ElementFault.TheVariants as fault
use Rattle.ak_value.specs.Elements.{has_room}
use Rattle.ak_value.specs.Seen.{elements_inside, elements_of_list}
use Rattle.ak_value.proofs.Keeping.{kept_by_create}
use Rattle.ak_value.proofs.Refusing.{refused_as, not_refused, not_only, only_so, kinds_told, only_memory, on_err, not_ok, add-bad_type, add-full, add-none, after_err, last_added}
use Rattle.ak_value.proofs.elements.Elements.add.Goals as goal

pub returns-then-ne : goal.returns-then-ne
returns-then-ne c =
    let told = kinds_told c.self.inside.kind (kind_of (value_of c.args.value)) c.self.inside.kind c.kind.result true refl c.kind.ensures c.if-ne.ensures in
    let why = add-bad_type (elements_inside c.self.inside) c.args.self.now c.self.view_is (kind_of (value_of c.args.value)) told in
    record {
      refused = refused_as _ _ fault.BadType why refl;
      only = not_only _ _ fault.BadType why;
      ok = tt;
      err = refl;
    }

pub returns-then-not-has_room : goal.returns-then-not-has_room
returns-then-not-has_room c =
    let told = kinds_told c.self.inside.kind (kind_of (value_of c.args.value)) c.self.inside.kind c.kind.result false refl c.kind.ensures c.if-ne.ensures in
    let why = add-full (elements_inside c.self.inside) c.args.self.now c.self.view_is (kind_of (value_of c.args.value)) told c.if-not-has_room.ensures in
    record {
      refused = refused_as _ _ fault.ElementLimit why refl;
      only = not_only _ _ fault.ElementLimit why;
      ok = tt;
      err = refl;
    }

pub returns-in_err-push_element : goal.returns-in_err-push_element
returns-in_err-push_element c =
    let told = kinds_told c.self.inside.kind (kind_of (value_of c.args.value)) c.self.inside.kind c.kind.result false refl c.kind.ensures c.if-ne.ensures in
    let none = add-none (elements_inside c.self.inside) c.args.self.now c.self.view_is (kind_of (value_of c.args.value)) told c.if-not-has_room.ensures in
    record {
      refused = not_refused _ _ none;
      only = only_so _ _ none (only_memory _ c.from_residual.ensures);
      ok = not_ok _ _ c.from_residual.ensures.0;
      err = on_err _ _ (after_err c.self.inside.kind _ _ c.self.inside.next_id _ c.in_err-push_element.ensures.err c.self.view_is);
    }

pub returns : goal.returns
returns c =
    let told = kinds_told c.self.inside.kind (kind_of (value_of c.args.value)) c.self.inside.kind c.kind.result false refl c.kind.ensures c.if-ne.ensures in
    let none = add-none (elements_inside c.self.inside) c.args.self.now c.self.view_is (kind_of (value_of c.args.value)) told c.if-not-has_room.ensures in
    record {
      refused = not_refused _ _ none;
      only = only_so _ _ none tt;
      ok = last_added c.self.inside.kind (elements_of_list c.self.inside.list.items) _ c.self.inside.next_id _ c.args.name _ c.in_ok-push_element.ensures.ok c.self.view_is;
      err = tt;
    }

pub invariant_of-self : goal.invariant_of-self
invariant_of-self c = rw c.in_err-push_element.ensures.err c.self.invariant

pub invariant_of-self-2 : goal.invariant_of-self-2
invariant_of-self-2 c =
    let before = elements_inside c.self.inside in
    let told = kinds_told c.self.inside.kind (kind_of (value_of c.args.value)) c.self.inside.kind c.kind.result false refl c.kind.ensures c.if-ne.ensures in
    let room : has_room before ≡ true = subst (λ x. has_room x ≡ true) (sym c.self.view_is) (sym c.if-not-has_room.ensures) in
    rw c.in_ok-push_element.ensures.ok (kept_by_create before c.args.name _ (sym (same_kind-is _ _ told)) room c.self.invariant)
