-- The values of a field are no deeper than the field.
use Rattle.std.proofs.Common.{◌+◌, ◌*◌, ◌≤◌, List, [], ◌∷◌, arith}
use Rattle.std.proofs.lemmas.Grind.{common_steps}
use denote.Param.Weighed.{most}
use Rattle.ak_message.specs.declared.message.Value.{Value}
use Rattle.ak_message.specs.declared.message.Message.TheDeep.{deep-Value, size-Value}
use Rattle.ak_message.proofs.message.+copies.Goals as goal

deepest-values : (xs : List Value) → most (λ x. size-Value x) xs ≤ 3 * most deep-Value xs + 1
deepest-values [] = omega arith
deepest-values (x ∷ xs) = omega (arith, deepest-values xs)

pub Field::try_clone-copied_values-requires : goal.Field::try_clone-copied_values-requires
Field::try_clone-copied_values-requires t c =
    (rw c.deref.ensures.value (omega (arith, c.decreases, deepest-values c.args.self.now.values.items)), tt)

pub copies::copied_fields-loop-field-preserved : goal.copies::copied_fields-loop-field-preserved
copies::copied_fields-loop-field-preserved t c = grind (arith, common_steps)

pub copies::copied_values-loop-value-preserved : goal.copies::copied_values-loop-value-preserved
copies::copied_values-loop-value-preserved t c = grind (arith, common_steps)
