-- The kinds are compared, then there is a first element or none; the new value is of the elements' kind.
use Rattle.std.proofs.Common.{◌<◌, ◌≤◌, true, false, length, refl, sym, subst, arith}
use Rattle.std.proofs.lemmas.List.{length-map}
use Rattle.ak_message.specs.Kind.{same_kind-is}
use Rattle.ak_message.specs.Message.{kind_of}
use Rattle.ak_message.specs.Seen.{value_of}
use Rattle.ak_value.specs.declared.fault.ElementFault.TheVariants as fault
use Rattle.ak_value.specs.Elements.{IsElements}
use Rattle.ak_value.specs.Seen.{element_of, elements_inside}
use Rattle.ak_value.proofs.Keeping.{kept_by_set_first}
use Rattle.ak_value.proofs.Refusing.{refused_as, not_refused, not_only, only_so, kinds_told, first-bad_type, first-bad_index, first-none, first_set}
use Rattle.ak_value.proofs.elements.Elements.set_first.Goals as goal

pub returns-then-ne : goal.returns-then-ne
returns-then-ne c =
    let told = kinds_told (kind_of (value_of c.args.value)) c.self.inside.kind c.kind.result c.self.inside.kind true c.kind.ensures refl c.if-ne.ensures in
    let why = first-bad_type (elements_inside c.self.inside) c.args.self.now c.self.view_is (kind_of (value_of c.args.value)) told in
    record {
      refused = refused_as _ _ fault.BadType why refl;
      only = not_only _ _ fault.BadType why;
      ok = tt;
      err = refl;
    }

pub returns-in_default : goal.returns-in_default
returns-in_default c =
    let told = kinds_told (kind_of (value_of c.args.value)) c.self.inside.kind c.kind.result c.self.inside.kind false c.kind.ensures refl c.if-ne.ensures in
    let items = c.self.inside.list.items in
    let empty : length (elements_inside c.self.inside).list ≤ 0 = grind (arith, length-map items element_of, c.in_default.ensures.variant.1) in
    let why = first-bad_index (elements_inside c.self.inside) c.args.self.now c.self.view_is (kind_of (value_of c.args.value)) told empty in
    record {
      refused = refused_as _ _ fault.BadIndex why refl;
      only = not_only _ _ fault.BadIndex why;
      ok = tt;
      err = c.self.view_is;
    }

pub returns : goal.returns
returns c =
    let told = kinds_told (kind_of (value_of c.args.value)) c.self.inside.kind c.kind.result c.self.inside.kind false c.kind.ensures refl c.if-ne.ensures in
    let items = c.self.inside.list.items in
    let some : 0 < length items = c.in-Some.ensures.item.3.0 in
    let none = first-none (elements_inside c.self.inside) c.args.self.now c.self.view_is (kind_of (value_of c.args.value)) told (omega (arith, length-map items element_of, some)) in
    record {
      refused = not_refused _ _ none;
      only = only_so _ _ none refl;
      ok = first_set c.self.inside.kind items c.self.inside.next_id c.args.self.now c.in-Some.element.now c.args.value some c.in-Some.ensures.value c.self.view_is;
      err = tt;
    }

pub invariant_of-self : goal.invariant_of-self
invariant_of-self c = c.self.invariant

pub invariant_of-self-2 : goal.invariant_of-self-2
invariant_of-self-2 c =
    let told = kinds_told (kind_of (value_of c.args.value)) c.self.inside.kind c.kind.result c.self.inside.kind false c.kind.ensures refl c.if-ne.ensures in
    let after = first_set c.self.inside.kind c.self.inside.list.items c.self.inside.next_id (elements_inside c.self.inside) c.in-Some.element.now c.args.value c.in-Some.ensures.item.3.0 c.in-Some.ensures.value refl in
    subst IsElements (sym after) (kept_by_set_first (elements_inside c.self.inside) (value_of c.args.value) (same_kind-is _ _ told) c.self.invariant)
