-- What a change of one field makes of a list of fields.
use Rattle.std.proofs.Common.{◌≡◌, ℕ, zero, suc, ◌<◌, ◌≤◌, Bool, true, false, cond, ◌⊎◌, inl, inr, List, [], ◌∷◌, length, get_or, set, map, remove, Option, None, Some, slice_get, slice_set, refl, ap, sym, ◌∙◌, one-add, arith, tests}
use Rattle.std.specs.List.{position_or_len, position, cons_option}
use Rattle.std.proofs.lemmas.List.{map-set, length-map}
use Rattle.std.proofs.Math.ListN.{get_or-map}
use Rattle.ak_base.proofs.Surface.{map-remove}
use Rattle.ak_message.specs.declared.message.Value.{Value}
use Rattle.ak_message.specs.declared.message.Field.{Field}
use Rattle.ak_message.specs.Message.{ValueData, FieldData}
use Rattle.ak_message.specs.Fields.{is_named, field_named, changed, replaced, removed_data, removed_name, field_with, with_values}
use Rattle.ak_message.specs.Seen.{value_of, field_of, fields_of}
use Rattle.ak_message.proofs.Adding.{fields-unchanged}

-- ---- lists
pub remove-set : {A : Type 0} (xs : List A) (i : ℕ) (x : A) → remove (set xs i x) i ≡ remove xs i
remove-set [] zero x = refl
remove-set [] (suc i) x = refl
remove-set (y ∷ xs) zero x = refl
remove-set (y ∷ xs) (suc i) x = ap (λ t. y ∷ t) (remove-set xs i x)

module _ (change : FieldData → Option FieldData) (name : List ℕ) where
  -- no field has the name
  pub record IsAbsent (fs : List FieldData) : Type 0 where
    pub none : field_named fs name ≡ None
    pub place : position_or_len (is_named name) fs ≡ length fs
    pub after : changed change fs name ≡ fs

  -- a field of that name stands at a place, and is changed there
  pub record IsPlaced (fs : List FieldData) : Type 0 where
    pub field : FieldData
    pub some : field_named fs name ≡ Some field
    pub within : position_or_len (is_named name) fs < length fs
    pub at : (d : FieldData) → get_or fs (position_or_len (is_named name) fs) d ≡ field
    pub kept : (g : FieldData) → change field ≡ Some g → changed change fs name ≡ set fs (position_or_len (is_named name) fs) g
    pub gone : change field ≡ None → changed change fs name ≡ remove fs (position_or_len (is_named name) fs)

  behind : (f : FieldData) (fs : List FieldData) (b : Bool) → is_named name f ≡ b → IsAbsent fs ⊎ IsPlaced fs → IsAbsent (f ∷ fs) ⊎ IsPlaced (f ∷ fs)
  behind f fs true e _ =
      inr (record {
        field = f;
        some = rw e refl;
        within = rw e (omega arith);
        at = λ d. rw e refl;
        kept = λ g h. rw e (ap (λ o. cons_option o fs) h);
        gone = λ h. rw e (ap (λ o. cons_option o fs) h);
      })
  behind f fs false e (inl h) =
      inl (record { none = rw e h.none; place = rw e (omega (arith, h.place)); after = rw e (ap (λ t. f ∷ t) h.after) })
  behind f fs false e (inr h) =
      inr (record {
        field = h.field;
        some = rw e h.some;
        within = rw e (omega (arith, h.within));
        at = λ d. rw (e, one-add) (h.at d);
        kept = λ g k. rw (e, one-add) (ap (λ t. f ∷ t) (h.kept g k));
        gone = λ k. rw (e, one-add) (ap (λ t. f ∷ t) (h.gone k));
      })

  pub changed-cases : (fs : List FieldData) → IsAbsent fs ⊎ IsPlaced fs
  changed-cases [] = inl (record { none = refl; place = refl; after = refl })
  changed-cases (f ∷ fs) = behind f fs (is_named name f) refl (changed-cases fs)

-- ---- where a search has found the place, or none
place-is : (b : Bool) (n i : ℕ) → cond b (Some n) None ≡ Some i → (b ≡ true) × (n ≡ i)
place-is true n i e = (refl, cc)
place-is false n i e = absurd cc

no_place : (b : Bool) (n : ℕ) → cond b (Some n) None ≡ None → b ≡ false
no_place true n e = absurd cc
no_place false n e = refl

pub absent : (change : FieldData → Option FieldData) (name : List ℕ) (fs : List FieldData) → position (is_named name) fs ≡ None → IsAbsent change name fs
absent change name fs at =
    elim (changed-cases change name fs) [
      | inl w ↦ w
      | inr w ↦ absurd (grind (arith, tests, no_place _ _ at, w.within))
    ]

pub placed : (change : FieldData → Option FieldData) (name : List ℕ) (fs : List FieldData) (i : ℕ) → position (is_named name) fs ≡ Some i → IsPlaced change name fs
placed change name fs i at =
    elim (changed-cases change name fs) [
      | inl w ↦ absurd (grind (arith, tests, (place-is _ _ _ at).0, w.place))
      | inr w ↦ w
    ]

-- ---- the code's fields
at_place : (change : FieldData → Option FieldData) (name : List ℕ) (fs : List Field) (i : ℕ) (f : Field) (at : position (is_named name) (fields_of fs) ≡ Some i) → f ≡ get_or fs i f → (placed change name (fields_of fs) i at).field ≡ field_of f
at_place change name fs i f at e =
    sym ((placed change name (fields_of fs) i at).at (field_of f)) ∙ ap (λ k. get_or (fields_of fs) k (field_of f)) (place-is _ _ _ at).1 ∙ get_or-map field_of fs i f ∙ ap field_of (sym e)

pub found_at : (fs : List Field) (name : List ℕ) (i : ℕ) (f : Field) → position (is_named name) (fields_of fs) ≡ Some i → f ≡ get_or fs i f → field_named (fields_of fs) name ≡ Some (field_of f)
found_at fs name i f at e =
    (placed (λ _. None) name (fields_of fs) i at).some ∙ ap Some (at_place (λ _. None) name fs i f at e)

pub not_found : (fs : List Field) (name : List ℕ) → position (is_named name) (fields_of fs) ≡ None → field_named (fields_of fs) name ≡ None
not_found fs name at = (absent (λ _. None) name (fields_of fs) at).none

changed_at : (change : FieldData → Option FieldData) (name : List ℕ) (fs : List Field) (i : ℕ) (f g : Field) → position (is_named name) (fields_of fs) ≡ Some i → f ≡ get_or fs i f → change (field_of f) ≡ Some (field_of g) → fields_of (set fs i g) ≡ changed change (fields_of fs) name
changed_at change name fs i f g at e h =
    map-set field_of fs i g ∙ ap (λ k. set (fields_of fs) k (field_of g)) (sym (place-is _ _ _ at).1) ∙ sym ((placed change name (fields_of fs) i at).kept (field_of g) (ap change (at_place change name fs i f at e) ∙ h))

gone_at : (change : FieldData → Option FieldData) (name : List ℕ) (fs : List Field) (i : ℕ) (f : Field) → position (is_named name) (fields_of fs) ≡ Some i → f ≡ get_or fs i f → change (field_of f) ≡ None → fields_of (remove fs i) ≡ changed change (fields_of fs) name
gone_at change name fs i f at e h =
    map-remove field_of fs i ∙ ap (λ k. remove (fields_of fs) k) (sym (place-is _ _ _ at).1) ∙ sym ((placed change name (fields_of fs) i at).gone (ap change (at_place change name fs i f at e) ∙ h))

-- ---- a value put in place of another one
pub replaced_at : (fs : List Field) (name : List ℕ) (index : ℕ) (value : ValueData) (i : ℕ) (f g : Field) → position (is_named name) (fields_of fs) ≡ Some i → f ≡ get_or fs i f → field_of g ≡ with_values (field_of f) (slice_set (field_of f).values index value) → fields_of (set fs i g) ≡ replaced (fields_of fs) name index value
replaced_at fs name index value i f g at e h =
    changed_at (λ d. Some (with_values d (slice_set d.values index value))) name fs i f g at e (ap Some (sym h))

pub not_replaced : (fs : List Field) (name : List ℕ) (index : ℕ) (value : ValueData) → position (is_named name) (fields_of fs) ≡ None → fields_of fs ≡ replaced (fields_of fs) name index value
not_replaced fs name index value at =
    sym (absent (λ d. Some (with_values d (slice_set d.values index value))) name (fields_of fs) at).after

pub ruleset replacements = (replaced_at, not_replaced)

-- ---- a value removed
field_with-filled : (f : FieldData) (vs : List ValueData) → 0 < length vs → field_with f vs ≡ Some (with_values f vs)
field_with-filled f [] h = absurd (omega arith)
field_with-filled f (v ∷ vs) h = refl

field_with-empty : (f : FieldData) (vs : List ValueData) → length vs ≡ 0 → field_with f vs ≡ None
field_with-empty f [] h = refl
field_with-empty f (v ∷ vs) h = absurd (omega arith)

abbrev IsTakenFrom : ℕ → Field → Field → Type 0
IsTakenFrom index f g = field_of g ≡ with_values (field_of f) (remove (field_of f).values index)

left : (index : ℕ) (f g : Field) → IsTakenFrom index f g → length (remove (field_of f).values index) ≡ length g.values.items
left index f g h = ap (λ d. length d.values) (sym h) ∙ length-map g.values.items value_of

pub taken_kept : (fs : List Field) (name : List ℕ) (index : ℕ) (i : ℕ) (f g : Field) → position (is_named name) (fields_of fs) ≡ Some i → f ≡ get_or fs i f → IsTakenFrom index f g → 0 < length g.values.items → fields_of (set fs i g) ≡ removed_data (fields_of fs) name index
taken_kept fs name index i f g at e h filled =
    changed_at (λ d. field_with d (remove d.values index)) name fs i f g at e (field_with-filled (field_of f) _ (omega (arith, left index f g h)) ∙ ap Some (sym h))

pub taken_gone : (fs : List Field) (name : List ℕ) (index : ℕ) (i : ℕ) (f g : Field) → position (is_named name) (fields_of fs) ≡ Some i → f ≡ get_or fs i f → IsTakenFrom index f g → length g.values.items ≡ 0 → fields_of (remove (set fs i g) i) ≡ removed_data (fields_of fs) name index
taken_gone fs name index i f g at e h empty =
    ap fields_of (remove-set fs i g) ∙ gone_at (λ d. field_with d (remove d.values index)) name fs i f at e (field_with-empty (field_of f) _ (left index f g h ∙ empty))

pub removed_at : (fs : List Field) (name : List ℕ) (i : ℕ) → position (is_named name) (fields_of fs) ≡ Some i → fields_of (remove fs i) ≡ removed_name (fields_of fs) name
removed_at fs name i at =
    map-remove field_of fs i ∙ ap (λ k. remove (fields_of fs) k) (sym (place-is _ _ _ at).1) ∙ sym ((placed (λ _. None) name (fields_of fs) i at).gone refl)

pub ruleset removals = (found_at, not_found, fields-unchanged, taken_kept, taken_gone, removed_at)

-- ---- the values of one field
no_value_from : {A B : Type 0} (f : A → B) (xs : List A) (i : ℕ) → length xs ≤ i → slice_get (map f xs) i ≡ None
no_value_from f [] i h = refl
no_value_from f (x ∷ xs) zero h = absurd (omega arith)
no_value_from f (x ∷ xs) (suc i) h = no_value_from f xs i (omega arith)

pub no_value : (xs : List Value) (i : ℕ) → length xs ≤ i → slice_get (map value_of xs) i ≡ None
no_value xs i h = no_value_from value_of xs i h

pub ruleset edits = (map-set, map-remove, no_value)
