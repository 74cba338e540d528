-- The field of the name is at hand, and its kind is compared.
use Rattle.std.proofs.Common.{◌≡◌, None, refl, sym, ap, ◌∙◌, subst, true, false}
use Rattle.std.specs.Result.{result_ok}
use Rattle.ak_message.specs.Fields.{value_in}
use Rattle.ak_message.proofs.Refusing.{kinds_equal, named_in, find-same_kind, find-bad_type}
use Rattle.ak_message.proofs.message.Message.take_first.Goals as goal
use Rattle.ak_message.proofs.message.Message.take_first.Goals.{in_default-via-in-Some+else-eq, in_default-via-in_default}

pub returns-in-Some : goal.returns-in-Some
returns-in-Some c =
    record {
      value = c.take.ensures.value ∙ find-same_kind _ _ c.args.kind 0 (named_in c.args.self.now c.self.inside _ _ _ c.self.view_is c.deref.ensures.value c.in-Some.ensures) (kinds_equal _ _ true c.if-eq.ensures);
      some = c.take.ensures.some;
      none = c.take.ensures.none;
    }

pub returns-in_default : goal.returns-in_default
returns-in_default c =
    elim c.in_default.branch [
      | in_default-via-in-Some+else-eq w ↦
          record {
            value = sym (ap result_ok (find-bad_type _ _ c.args.kind 0 (named_in c.args.self.now c.self.inside _ _ _ c.self.view_is c.deref.ensures.value w.in-Some.ensures) (kinds_equal _ _ false w.if-eq.ensures)));
            some = tt;
            none = refl;
          }
      | in_default-via-in_default w ↦
          record {
            value = subst (λ o. None ≡ result_ok (value_in o c.args.kind 0)) (named_in c.args.self.now c.self.inside _ _ _ c.self.view_is c.deref.ensures.value w.in_default.ensures) refl;
            some = tt;
            none = refl;
          }
    ]
