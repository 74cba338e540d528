-- The field is there, and the value is taken from it or is not there.
use Rattle.std.proofs.Common.{◌≡◌, Option, Err, refl, sym, subst}
use Rattle.std.specs.Prelude.{IfSome, IfNone, IsOk}
use Rattle.ak_message.specs.declared.fault.RemoveFault.{RemoveFault}
use Rattle.ak_message.proofs.Refusing.{named_in, is_there, remove-none, remove-bad_index}
use Rattle.ak_message.proofs.message.Message.remove_data.Goals as goal
use Rattle.ak_message.proofs.message.Message.remove_data.Goals.{in-Some, in-None}

pub returns-clause-refused : goal.returns-clause-refused
returns-clause-refused c =
    let named = named_in c.args.self.now c.self.inside _ _ _ c.self.view_is c.deref.ensures.value c.field_named.ensures in
    let refused = λ (o : Option RemoveFault). IfSome o (λ f. c.match-take.result ≡ Err f) in
    elim c.match-take.branch [
      | in-Some w ↦ subst refused (sym (remove-none _ c.args.index c.take.result _ w.in-Some.is c.take.ensures.value)) tt
      | in-None w ↦ subst refused (sym (remove-bad_index _ c.args.index c.take.result w.in-None.is c.take.ensures.value (is_there _ _ _ named c.if-is_none.ensures))) w.result-is
    ]

pub returns-clause-only : goal.returns-clause-only
returns-clause-only c =
    let named = named_in c.args.self.now c.self.inside _ _ _ c.self.view_is c.deref.ensures.value c.field_named.ensures in
    let only = λ (o : Option RemoveFault). IfNone o (IsOk c.match-take.result) in
    elim c.match-take.branch [
      | in-Some w ↦ subst only (sym (remove-none _ c.args.index c.take.result _ w.in-Some.is c.take.ensures.value)) (rw w.result-is refl)
      | in-None w ↦ subst only (sym (remove-bad_index _ c.args.index c.take.result w.in-None.is c.take.ensures.value (is_there _ _ _ named c.if-is_none.ensures))) tt
    ]

pub returns-clause-ok : goal.returns-clause-ok
returns-clause-ok c =
    elim c.match-take.branch [
      | in-Some w ↦ rw w.result-is w.in-Some.ensures.some
      | in-None w ↦ rw w.result-is tt
    ]

pub returns-clause-err : goal.returns-clause-err
returns-clause-err c =
    elim c.match-take.branch [
      | in-Some w ↦ rw w.result-is tt
      | in-None w ↦ rw w.result-is w.in-None.ensures.none
    ]
