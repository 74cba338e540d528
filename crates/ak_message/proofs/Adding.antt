-- What an addition makes of a list of fields.
use Rattle.std.proofs.Common.{◌≡◌, ℕ, ◌<◌, Bool, true, false, cond, ◌⊎◌, inl, inr, List, [], ◌∷◌, ◌++◌, length, get_or, set, None, Some, refl, ap, sym, ◌∙◌, arith, tests}
use Rattle.std.specs.List.{position_or_len, position}
use Rattle.std.proofs.lemmas.List.{map-set, map-append}
use Rattle.std.proofs.Math.Seq.{map-set_same}
use Rattle.std.proofs.Math.ListN.{get_or-map}
use Rattle.ak_message.specs.declared.message.Field.{Field}
use Rattle.ak_message.specs.Message.{ValueData, FieldData}
use Rattle.ak_message.specs.Fields.{is_named, field_named, added, new_field, with_value}
use Rattle.ak_message.specs.Seen.{field_of, fields_of}

module _ (name : List ℕ) (value : ValueData) where
  -- the name is new, and a field comes in at the end
  pub record IsNew (fs : List FieldData) : Type 0 where
    pub none : field_named fs name ≡ None
    pub place : position_or_len (is_named name) fs ≡ length fs
    pub after : added fs name value ≡ fs ++ new_field name value ∷ []

  -- a field of that name stands at a place, and has one more value
  pub record IsThere (fs : List FieldData) : Type 0 where
    pub field : FieldData
    pub some : field_named fs name ≡ Some field
    pub named : is_named name field ≡ true
    pub within : position_or_len (is_named name) fs < length fs
    pub at : (d : FieldData) → get_or fs (position_or_len (is_named name) fs) d ≡ field
    pub after : added fs name value ≡ set fs (position_or_len (is_named name) fs) (with_value field value)

  behind : (f : FieldData) (fs : List FieldData) (b : Bool) → is_named name f ≡ b → IsNew fs ⊎ IsThere fs → IsNew (f ∷ fs) ⊎ IsThere (f ∷ fs)
  behind f fs true e _ =
      inr (record { field = f; some = rw e refl; named = e; within = rw e (omega arith); at = λ d. rw e refl; after = rw e refl })
  behind f fs false e (inl h) =
      inl (record { none = rw e h.none; place = rw e (omega (arith, h.place)); after = rw e (ap (λ t. f ∷ t) h.after) })
  behind f fs false e (inr h) =
      inr (record { field = h.field; some = rw e h.some; named = h.named; within = rw e (omega (arith, h.within)); at = λ d. rw e (grind (arith, h.at d)); after = rw e (grind (arith, h.after)) })

  pub added-cases : (fs : List FieldData) → IsNew fs ⊎ IsThere fs
  added-cases [] = inl (record { none = refl; place = refl; after = refl })
  added-cases (f ∷ fs) = behind f fs (is_named name f) refl (added-cases fs)

-- ---- the code's fields
place-is : (b : Bool) (n i : ℕ) → cond b (Some n) None ≡ Some i → n ≡ i
place-is true n i e = cc
place-is false n i e = absurd cc

no_place : (b : Bool) (n : ℕ) → cond b (Some n) None ≡ None → b ≡ false
no_place true n e = absurd cc
no_place false n e = refl

-- a field that is seen as before
pub fields-unchanged : (fs : List Field) (i : ℕ) (f g : Field) → f ≡ get_or fs i f → field_of g ≡ field_of f → fields_of (set fs i g) ≡ fields_of fs
fields-unchanged fs i f g e h = map-set_same field_of fs i g f (h ∙ ap field_of e)

place-within : (b : Bool) (n i : ℕ) → cond b (Some n) None ≡ Some i → b ≡ true
place-within true n i e = refl
place-within false n i e = absurd cc

at_place : (fs : List Field) (name : List ℕ) (value : ValueData) (i : ℕ) (f g : Field) → position_or_len (is_named name) (fields_of fs) ≡ i → f ≡ get_or fs i f → field_of g ≡ with_value (field_of f) value → IsThere name value (fields_of fs) → fields_of (set fs i g) ≡ added (fields_of fs) name value
at_place fs name value i f g p e h w =
    let at = w.at (field_of f) in
    let got = get_or-map field_of fs i f in
    let put = map-set field_of fs i g in
    let after = w.after in
    cc

pub fields-added_at : (fs : List Field) (name : List ℕ) (value : ValueData) (i : ℕ) (f g : Field) → position (is_named name) (fields_of fs) ≡ Some i → f ≡ get_or fs i f → field_of g ≡ with_value (field_of f) value → fields_of (set fs i g) ≡ added (fields_of fs) name value
fields-added_at fs name value i f g at e h =
    elim (added-cases name value (fields_of fs)) [
      | inl w ↦ absurd (grind (arith, tests, place-within _ _ _ at, w.place))
      | inr w ↦ at_place fs name value i f g (place-is _ _ _ at) e h w
    ]

pub fields-added_new : (fs : List Field) (name : List ℕ) (value : ValueData) (g : Field) → position (is_named name) (fields_of fs) ≡ None → field_of g ≡ new_field name value → fields_of (fs ++ g ∷ []) ≡ added (fields_of fs) name value
fields-added_new fs name value g at h =
    elim (added-cases name value (fields_of fs)) [
      | inl w ↦ map-append field_of fs (g ∷ []) ∙ ap (λ x. fields_of fs ++ x ∷ []) h ∙ sym w.after
      | inr w ↦ absurd (grind (arith, tests, no_place _ _ at, w.within))
    ]

pub ruleset additions = (fields-unchanged, fields-added_at, fields-added_new)
