-- How deep the parts of a message are, and what is there of its fields.
use Rattle.std.proofs.Common.{◌≡◌, ℕ, zero, suc, ◌<◌, ◌≤◌, List, [], ◌∷◌, length, get_or, map, Option, Some, None, ap, arith}
use Rattle.std.specs.List.{slice_get}
use Rattle.std.specs.Option.{option_map}
use Rattle.ak_message.specs.declared.message.Value.{Value}
use Rattle.ak_message.specs.declared.field_ref.FieldRef.{FieldRef}
use Rattle.ak_message.specs.Message.{FieldData, depth_of_value, depth_of_nested_values, depth_of_nested_fields, nested_values, nested_fields}
use Rattle.ak_message.specs.Seen.{value_of, field_ref_of}

-- a value is no deeper than all of them
pub depth_in_values : (vs : List Value) (i : ℕ) (v : Value) → v ≡ get_or vs i v → i < length vs → depth_of_value (value_of v) ≤ depth_of_nested_values (nested_values (map value_of vs))
depth_in_values [] i v is lt = absurd (omega arith)
depth_in_values (x ∷ vs) zero v is lt = omega (arith, ap (λ (y : Value). depth_of_value (value_of y)) is)
depth_in_values (x ∷ vs) (suc i) v is lt = omega (arith, depth_in_values vs i v is (omega arith))

-- nor are the values of a field
pub depth_in_fields : (fs : List FieldData) (i : ℕ) (f : FieldData) → Some f ≡ slice_get fs i → depth_of_nested_values (nested_values f.values) ≤ depth_of_nested_fields (nested_fields fs)
depth_in_fields [] i f is = absurd cc
depth_in_fields (g ∷ fs) zero f is =
    let same : f ≡ g = cc in omega (arith, ap (λ (h : FieldData). depth_of_nested_values (nested_values h.values)) same)
depth_in_fields (g ∷ fs) (suc i) f is = omega (arith, depth_in_fields fs i f is)

-- each field that is counted is there
pub no_field : (fs : List FieldData) (i : ℕ) (r : Option FieldRef) → option_map field_ref_of r ≡ slice_get fs i → r ≡ None → i < length fs → ⊥
no_field [] i r e none lt = omega arith
no_field (f ∷ fs) zero r e none lt = let gone : option_map field_ref_of r ≡ None = ap (λ (o : Option FieldRef). option_map field_ref_of o) none in absurd cc
no_field (f ∷ fs) (suc i) r e none lt = no_field fs i r e none (omega arith)
