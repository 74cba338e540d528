-- An addition that has no fault keeps what is true of every message.
use Rattle.std.proofs.Common.{◌≡◌, ◌≢◌, ℕ, zero, suc, ◌<◌, ◌≤◌, Bool, true, false, cond, ltb, inl, inr, List, [], ◌∷◌, ◌++◌, length, get_or, set, codes, AllPairs, Option, None, Some, refl, ap, sym, subst, ◌∙◌, arith, tests, max}
use Rattle.std.specs.List.{position_or_len}
use Rattle.std.proofs.lemmas.List.{length-set, length-append}
use Rattle.std.proofs.lemmas.List.Elements.{All-set, All-push, All-cons, All-nil}
use Rattle.std.proofs.lemmas.List.Sums.{fails_before_first}
use Rattle.std.proofs.lemmas.Bool.{false≢true}
use Rattle.std.proofs.lemmas.List.Quantifiers.{all_pairs_push}
use Rattle.std.proofs.lemmas.Slice.Eq.{bytes_eq-Decides}
use Rattle.ak_base.proofs.Surface.{passed}
use Rattle.ak_base.specs.Word.{is_word}
use Rattle.ak_message.specs.declared.kind.Kind.TheVariants as k
use Rattle.ak_message.specs.declared.fault.AddFault.{AddFault}
use Rattle.ak_message.specs.declared.fault.AddFault.TheVariants as add
use Rattle.ak_message.specs.Kind.{is_same_kind, same_kind-is}
use Rattle.ak_message.specs.Message.{ValueData, FieldData, MessageData, kind_of, depth_of, depth_of_value, depth_of_nested_values, depth_of_nested_fields, nested_values, nested_fields}
use Rattle.ak_message.specs.Fields.{is_named, field_named, added, new_field, with_value, add_fault, place_fault, depth_fault, or_fault, IsField, IsMessage, specifier_count_in}
use Rattle.ak_message.specs.Whole.{FitsValue, IsWhole}
use Rattle.ak_message.proofs.Adding.{added-cases}
use Rattle.ak_message.proofs.Fitting.{fits-added}

-- ---- depth
depth-push : (vs : List ValueData) (v : ValueData) → depth_of_nested_values (nested_values (vs ++ v ∷ [])) ≡ max (depth_of_nested_values (nested_values vs)) (depth_of_value v)
depth-push [] v = omega arith
depth-push (x ∷ vs) v = omega (arith, depth-push vs v)

depth-behind : (f : FieldData) (fs more : List FieldData) (v : ValueData) (b : Bool) → depth_of_nested_fields (nested_fields more) ≡ max (depth_of_nested_fields (nested_fields fs)) (depth_of_value v) → depth_of_nested_fields (nested_fields (cond b (with_value f v ∷ fs) (f ∷ more))) ≡ max (depth_of_nested_fields (nested_fields (f ∷ fs))) (depth_of_value v)
depth-behind f fs more v true e = omega (arith, depth-push f.values v)
depth-behind f fs more v false e = omega (arith, e)

pub depth-added : (fs : List FieldData) (name : List ℕ) (v : ValueData) → depth_of_nested_fields (nested_fields (added fs name v)) ≡ max (depth_of_nested_fields (nested_fields fs)) (depth_of_value v)
depth-added [] name v = omega arith
depth-added (f ∷ fs) name v = depth-behind f fs _ v (is_named name f) (depth-added fs name v)

-- ---- specifiers
abbrev counted : List FieldData → List ℕ → ℕ
counted fs name = specifier_count_in (field_named fs name)

more_by : (f : FieldData) (v : ValueData) (b : Bool) → cond b (length f.values) 0 ≤ cond b (length (f.values ++ v ∷ [])) 0
more_by f v true = omega (arith, length-append f.values (v ∷ []))
more_by f v false = omega arith

more_counted : (f : FieldData) (v : ValueData) → specifier_count_in (Some f) ≤ specifier_count_in (Some (with_value f v))
more_counted f v = more_by f v (is_same_kind f.kind k.Message)

counted-behind : (f : FieldData) (fs more : List FieldData) (other : List ℕ) (v : ValueData) (b c : Bool) → is_named other f ≡ c → counted fs other ≤ counted more other → specifier_count_in (cond c (Some f) (field_named fs other)) ≤ counted (cond b (with_value f v ∷ fs) (f ∷ more)) other
counted-behind f fs more other v true true e h = rw e (more_counted f v)
counted-behind f fs more other v true false e h = rw e (omega arith)
counted-behind f fs more other v false true e h = rw e (omega arith)
counted-behind f fs more other v false false e h = rw e h

counted-added : (fs : List FieldData) (name other : List ℕ) (v : ValueData) → counted fs other ≤ counted (added fs name v) other
counted-added [] name other v = omega arith
counted-added (f ∷ fs) name other v =
    counted-behind f fs _ other v (is_named name f) (is_named other f) refl (counted-added fs name other v)

-- ---- what the want of a fault says
pub neither : (a b : Option AddFault) → or_fault a b ≡ None → (a ≡ None) × (b ≡ None)
neither None b e = (refl, e)
neither (Some x) b e = absurd cc

-- ---- fields and names
name_at-set : (fs : List FieldData) (i k : ℕ) (x d : FieldData) → x.name ≡ (get_or fs i d).name → (get_or (set fs i x) k d).name ≡ (get_or fs k d).name
name_at-set [] i k x d e = refl
name_at-set (f ∷ fs) zero zero x d e = e
name_at-set (f ∷ fs) zero (suc k) x d e = refl
name_at-set (f ∷ fs) (suc i) zero x d e = refl
name_at-set (f ∷ fs) (suc i) (suc k) x d e = name_at-set fs i k x d e

names_differ-set : (fs : List FieldData) (p : ℕ) (x : FieldData) → ((k : ℕ) (d : FieldData) → (get_or (set fs p x) k d).name ≡ (get_or fs k d).name) → AllPairs (λ f g. f.name ≢ g.name) fs → AllPairs (λ f g. f.name ≢ g.name) (set fs p x)
names_differ-set fs p x names h i j d lt within same =
    h i j d lt (omega (arith, length-set fs p x)) (sym (names i d) ∙ same ∙ names j d)

module _ (m : MessageData) (name : List ℕ) (value : ValueData) (h : IsMessage m) where
  new-is_field : is_word name ≡ true → IsField (new_field name value)
  new-is_field e = record { word = e; filled = omega arith; limit = omega arith; same_kind = All-cons (λ v. kind_of v ≡ kind_of value) value [] refl (All-nil (λ v. kind_of v ≡ kind_of value)) }

  new_name : field_named m.fields name ≡ None → position_or_len (is_named name) m.fields ≡ length m.fields → (i : ℕ) (d : FieldData) → i < length m.fields → (get_or m.fields i d).name ≢ name
  new_name none e i d lt same = false≢true (sym (fails_before_first (is_named name) m.fields i d (omega (arith, e))) ∙ (bytes_eq-Decides _ name).1 same)

  grown-is_field : (f : FieldData) → IsField f → is_same_kind f.kind (kind_of value) ≡ true → ltb (length f.values) 255 ≡ true → IsField (with_value f value)
  grown-is_field f ok same room =
      let n = length-append f.values (value ∷ []) in
      record {
        word = ok.word;
        filled = omega (arith, n);
        limit = grind (arith, tests, n, room);
        same_kind = All-push (λ v. kind_of v ≡ f.kind) f.values value ok.same_kind (sym (same_kind-is _ _ same));
      }

pub sound_after : (m : MessageData) (name : List ℕ) (value : ValueData) → IsMessage m → add_fault m.fields name value ≡ None → IsMessage (record m { fields = added m.fields name value })
sound_after m name value h e =
    let places_fault = place_fault (length m.fields) (field_named m.fields name) (kind_of value) in
    let word = passed (is_word name) (or_fault places_fault (depth_fault value)) add.BadName e in
    let places = neither places_fault (depth_fault value) word.1 in
    let deep = passed (ltb (depth_of_value value) 16) None add.TooDeep places.1 in
    let depth = depth-added m.fields name value in
    let counts = counted-added m.fields name (codes "specifiers") value in
    let shallow : depth_of (record m { fields = added m.fields name value }) ≤ 16 = grind (arith, tests, depth, deep.0, h.depth_within) in
    elim (added-cases name value m.fields) [
      | inl w ↦
          let place : place_fault (length m.fields) None (kind_of value) ≡ None = subst (λ o. place_fault (length m.fields) o (kind_of value) ≡ None) w.none places.0 in
          let room = passed (ltb (length m.fields) 64) None add.FieldLimit place in
          record {
            code = h.code;
            every_field = rw w.after (All-push IsField m.fields _ h.every_field (new-is_field m name value h word.0));
            names_differ = rw w.after (all_pairs_push (λ f g. f.name ≢ g.name) m.fields _ h.names_differ (new_name m name value h w.none w.place));
            limit = rw w.after (grind (arith, tests, length-append m.fields (new_field name value ∷ []), room.0));
            popped_within = omega (arith, counts, h.popped_within);
            depth_within = shallow;
          }
      | inr w ↦
          let place : place_fault (length m.fields) (Some w.field) (kind_of value) ≡ None = subst (λ o. place_fault (length m.fields) o (kind_of value) ≡ None) w.some places.0 in
          let same = passed _ _ _ place in
          let room = passed _ _ _ same.1 in
          let old : IsField w.field = subst IsField (w.at w.field) (h.every_field _ w.field w.within) in
          let names : (k : ℕ) (d : FieldData) → (get_or (set m.fields (position_or_len (is_named name) m.fields) (with_value w.field value)) k d).name ≡ (get_or m.fields k d).name
          = λ k d. name_at-set m.fields _ k _ d (ap (λ f. f.name) (sym (w.at d))) in
          record {
            code = h.code;
            every_field = rw w.after (All-set IsField m.fields _ _ (grown-is_field m name value h w.field old same.0 room.0) h.every_field);
            names_differ = rw w.after (names_differ-set m.fields _ _ names h.names_differ);
            limit = rw w.after (omega (arith, length-set m.fields (position_or_len (is_named name) m.fields) (with_value w.field value), h.limit));
            popped_within = omega (arith, counts, h.popped_within);
            depth_within = shallow;
          }
    ]

pub whole_after : (m : MessageData) (name : List ℕ) (value : ValueData) → IsWhole m → FitsValue value → add_fault m.fields name value ≡ None → IsWhole (record m { fields = added m.fields name value })
whole_after m name value h fit e = (sound_after m name value h.0 e, fits-added m.fields name value h.1 fit)
