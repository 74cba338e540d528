-- How long the parts of a flat text are.
use Rattle.std.proofs.Common.{◌≡◌, ℕ, zero, suc, ◌+◌, ◌-◌, ◌^◌, ◌<◌, ◌≤◌, min, max, List, [], ◌∷◌, ◌++◌, length, get_or, map, drop, Some, refl, ap, sym, ◌∙◌, subst, arith}
use Rattle.std.specs.List.{slice_get}
use Rattle.std.specs.Int.{w16, to_be_bytes}
use Rattle.std.proofs.lemmas.Option.{slice_get_within, get_or_from_slice_get}
use Rattle.std.proofs.lemmas.List.{drop_more, drop_all, length-append}
use Rattle.ak_message.specs.declared.message.Value.{Value}
use Rattle.ak_message.specs.Kind.{kind_letters}
use Rattle.ak_message.specs.Message.{ValueData, FieldData, MessageData, nested_values, nested_fields}
use Rattle.ak_message.specs.Seen.{value_of}
use Rattle.ak_flatten.specs.Spelling.{value_bytes, sized_bytes, values_bytes, fields_bytes, field_bytes, value_count, field_count, opening_bytes, spelling}

-- at most 2^64 - 1
abbrev pub capped : ℕ → ℕ
capped n = min n (2 ^ 64 - 1)

-- ---- what is left of a list, from the next one on
pub fields_split : (fs : List FieldData) (i : ℕ) (f : FieldData) → Some f ≡ slice_get fs i → fields_bytes (nested_fields (drop i fs)) ≡ field_bytes f ++ fields_bytes (nested_fields (drop (i + 1) fs))
fields_split fs i f is =
    let at_i = get_or_from_slice_get fs i f f (sym is) in
    let more : drop i fs ≡ f ∷ drop (i + 1) fs = drop_more fs i f (slice_get_within fs i f (sym is)) ∙ ap (λ (g : FieldData). g ∷ drop (i + 1) fs) at_i in
    ap (λ (gs : List FieldData). fields_bytes (nested_fields gs)) more

pub fields_end : (fs : List FieldData) (i : ℕ) → length fs ≤ i → fields_bytes (nested_fields (drop i fs)) ≡ []
fields_end fs i le = ap (λ (gs : List FieldData). fields_bytes (nested_fields gs)) (drop_all i fs le)

pub values_split : (vs : List Value) (i : ℕ) (v : Value) → v ≡ get_or vs i v → i < length vs → values_bytes (nested_values (map value_of (drop i vs))) ≡ sized_bytes (value_of v) ++ values_bytes (nested_values (map value_of (drop (i + 1) vs)))
values_split vs i v is lt =
    let more : drop i vs ≡ v ∷ drop (i + 1) vs = drop_more vs i v lt ∙ ap (λ (x : Value). x ∷ drop (i + 1) vs) (sym is) in
    ap (λ (xs : List Value). values_bytes (nested_values (map value_of xs))) more

pub values_end : (vs : List Value) (i : ℕ) → length vs ≤ i → values_bytes (nested_values (map value_of (drop i vs))) ≡ []
values_end vs i le = ap (λ (xs : List Value). values_bytes (nested_values (map value_of xs))) (drop_all i vs le)

-- ---- lengths
pub fields_more : (fs : List FieldData) (i : ℕ) (f : FieldData) → Some f ≡ slice_get fs i → length (fields_bytes (nested_fields (drop i fs))) ≡ length (field_bytes f) + length (fields_bytes (nested_fields (drop (i + 1) fs)))
fields_more fs i f is =
    ap (λ (t : List ℕ). length t) (fields_split fs i f is) ∙ length-append (field_bytes f) (fields_bytes (nested_fields (drop (i + 1) fs)))

length-sized : (v : ValueData) → length (sized_bytes v) ≡ 2 + length (value_bytes v)
length-sized v = omega (arith, length-append (to_be_bytes w16 (length (value_bytes v))) (value_bytes v))

pub values_more : (vs : List Value) (i : ℕ) (v : Value) → v ≡ get_or vs i v → i < length vs → length (values_bytes (nested_values (map value_of (drop i vs)))) ≡ 2 + length (value_bytes (value_of v)) + length (values_bytes (nested_values (map value_of (drop (i + 1) vs))))
values_more vs i v is lt =
    let rest : List ℕ = values_bytes (nested_values (map value_of (drop (i + 1) vs))) in
    ap (λ (t : List ℕ). length t) (values_split vs i v is lt) ∙ omega (arith, length-append (sized_bytes (value_of v)) rest, length-sized (value_of v))

-- a part is no longer than the whole
pub field_short : (fs : List FieldData) (i : ℕ) (f : FieldData) → Some f ≡ slice_get fs i → length (field_bytes f) ≤ length (fields_bytes (nested_fields fs))
field_short [] i f is = absurd cc
field_short (g ∷ fs) zero f is =
    let same : f ≡ g = cc in
    omega (arith, ap (λ (h : FieldData). length (field_bytes h)) same, length-append (field_bytes g) (fields_bytes (nested_fields fs)))
field_short (g ∷ fs) (suc i) f is = omega (arith, field_short fs i f is, length-append (field_bytes g) (fields_bytes (nested_fields fs)))

pub value_short : (vs : List Value) (i : ℕ) (v : Value) → v ≡ get_or vs i v → i < length vs → length (value_bytes (value_of v)) ≤ length (values_bytes (nested_values (map value_of vs)))
value_short [] i v is lt = absurd (omega arith)
value_short (x ∷ vs) zero v is lt =
    omega (arith, ap (λ (y : Value). length (value_bytes (value_of y))) is, length-append (sized_bytes (value_of x)) (values_bytes (nested_values (map value_of vs))), length-sized (value_of x))
value_short (x ∷ vs) (suc i) v is lt =
    omega (arith, value_short vs i v is (omega arith), length-append (sized_bytes (value_of x)) (values_bytes (nested_values (map value_of vs))))

-- the fields of a message, and the values of a field
pub fields_within : (m : MessageData) → length (fields_bytes (nested_fields m.fields)) ≤ length (spelling m)
fields_within m = omega (arith, length-append (opening_bytes m.what (field_count (nested_fields m.fields))) (fields_bytes (nested_fields m.fields)))

pub values_within : (f : FieldData) → length (values_bytes (nested_values f.values)) ≤ length (field_bytes f)
values_within f =
    omega (arith, length-append (kind_letters f.kind ++ length f.name ∷ f.name) (value_count (nested_values f.values) ∷ values_bytes (nested_values f.values)))
