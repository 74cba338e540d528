-- What is found after an addition.
use Rattle.std.proofs.Common.{◌≡◌, ◌≢◌, ℕ, zero, suc, ◌<◌, Bool, true, false, cond, List, [], ◌∷◌, ◌++◌, length, Option, None, Some, Ok, Err, refl, sym, ◌∙◌, arith, tests}
use Rattle.std.specs.List.{slice_get}
use Rattle.std.specs.Str.{bytes_eq}
use Rattle.std.proofs.lemmas.Slice.Eq.{bytes_eq-Decides}
use Rattle.ak_base.specs.Word.{is_word}
use Rattle.ak_message.specs.declared.kind.Kind.{Kind}
use Rattle.ak_message.specs.declared.fault.AddFault.TheVariants as add
use Rattle.ak_message.specs.declared.fault.FindFault.TheVariants as missing
use Rattle.ak_message.specs.Kind.{is_same_kind, same_kind-is}
use Rattle.ak_message.specs.Message.{ValueData, FieldData, kind_of}
use Rattle.ak_message.specs.Fields.{is_named, field_named, added, new_field, with_value, place_fault, depth_fault, or_fault, value_in, value_count_in, AddedValuesAreFound}
use Rattle.ak_base.proofs.Surface.{passed}
use Rattle.ak_message.proofs.Keeping.{neither}

-- ---- names
is_named-refl : (name : List ℕ) → bytes_eq name name ≡ true
is_named-refl name = (bytes_eq-Decides name name).1 refl

differs : (a b : List ℕ) (t : Bool) → bytes_eq a b ≡ t → a ≢ b → t ≡ false
differs a b true e h = absurd (h ((bytes_eq-Decides a b).0 e))
differs a b false e h = refl

pub names_differ : (a b : List ℕ) → a ≢ b → bytes_eq a b ≡ false
names_differ a b h = differs a b (bytes_eq a b) refl h

-- ---- the field of a name after an addition
grown : Option FieldData → List ℕ → ValueData → FieldData
grown None name value = new_field name value
grown (Some f) name value = with_value f value

own-behind : (f : FieldData) (fs more : List FieldData) (name : List ℕ) (value : ValueData) (b : Bool) → is_named name f ≡ b → field_named more name ≡ Some (grown (field_named fs name) name value) → field_named (cond b (with_value f value ∷ fs) (f ∷ more)) name ≡ Some (grown (cond b (Some f) (field_named fs name)) name value)
unfolding grown
own-behind f fs more name value true e h = rw e refl
own-behind f fs more name value false e h = rw e h

field_named-added : (fs : List FieldData) (name : List ℕ) (value : ValueData) → field_named (added fs name value) name ≡ Some (grown (field_named fs name) name value)
unfolding grown
field_named-added [] name value = rw (is_named-refl name) refl
field_named-added (f ∷ fs) name value = own-behind f fs _ name value (is_named name f) refl (field_named-added fs name value)

-- ---- the field of another name
other-behind : (f : FieldData) (fs more : List FieldData) (name other : List ℕ) (value : ValueData) (b : Bool) → is_named name f ≡ b → other ≢ name → field_named more other ≡ field_named fs other → field_named (cond b (with_value f value ∷ fs) (f ∷ more)) other ≡ field_named (f ∷ fs) other
other-behind f fs more name other value true e h rest =
    let same = (bytes_eq-Decides f.name name).0 e in
    let no : bytes_eq f.name other ≡ false = names_differ f.name other (λ p. h (sym p ∙ same)) in
    rw no refl
other-behind f fs more name other value false e h rest = rw rest refl

field_named-others : (fs : List FieldData) (name other : List ℕ) (value : ValueData) → other ≢ name → field_named (added fs name value) other ≡ field_named fs other
field_named-others [] name other value h = rw (names_differ name other (λ p. h (sym p))) refl
field_named-others (f ∷ fs) name other value h =
    other-behind f fs _ name other value (is_named name f) refl h (field_named-others fs name other value h)

-- ---- its values
get_last : (vs : List ValueData) (v : ValueData) → slice_get (vs ++ v ∷ []) (length vs) ≡ Some v
get_last [] v = refl
get_last (x ∷ vs) v = grind (arith, get_last vs v)

get_earlier : (vs : List ValueData) (v : ValueData) (i : ℕ) → i < length vs → slice_get (vs ++ v ∷ []) i ≡ slice_get vs i
get_earlier [] v i h = absurd (omega (arith, h))
get_earlier (x ∷ vs) v zero h = refl
get_earlier (x ∷ vs) v (suc i) h = get_earlier vs v i (omega (arith, h))

-- ---- what is found
pub same_kind-refl : (kind : Kind) → is_same_kind kind kind ≡ true
same_kind-refl kind = grind (arith, tests)

last-grown : (count : ℕ) (o : Option FieldData) (name : List ℕ) (value : ValueData) → place_fault count o (kind_of value) ≡ None → value_in (Some (grown o name value)) (kind_of value) (value_count_in o) ≡ Ok value
unfolding grown
last-grown count None name value e = rw (same_kind-refl (kind_of value)) refl
last-grown count (Some f) name value e =
    let same = passed (is_same_kind f.kind (kind_of value)) _ add.BadType e in
    rw (same.0, get_last f.values value) refl

earlier-grown : (o : Option FieldData) (name : List ℕ) (value : ValueData) (kind : Kind) (index : ℕ) → index < value_count_in o → value_in (Some (grown o name value)) kind index ≡ value_in o kind index
unfolding grown
earlier-grown None name value kind index h = absurd (omega (arith, h))
earlier-grown (Some f) name value kind index h = rw (get_earlier f.values value index h) refl

kinds_differ : (a b : Kind) (t : Bool) → is_same_kind a b ≡ t → b ≢ a → t ≡ false
kinds_differ a b true e h = absurd (h (sym (same_kind-is a b e)))
kinds_differ a b false e h = refl

other_kind-grown : (count : ℕ) (o : Option FieldData) (name : List ℕ) (value : ValueData) (kind : Kind) (index : ℕ) → place_fault count o (kind_of value) ≡ None → kind ≢ kind_of value → value_in (Some (grown o name value)) kind index ≡ Err missing.BadType
unfolding grown
other_kind-grown count None name value kind index e h = rw (kinds_differ (kind_of value) kind _ refl h) refl
other_kind-grown count (Some f) name value kind index e h =
    let same = passed (is_same_kind f.kind (kind_of value)) _ add.BadType e in
    let is = same_kind-is f.kind (kind_of value) same.0 in
    let no : is_same_kind f.kind kind ≡ false = kinds_differ f.kind kind _ refl (λ p. h (p ∙ is)) in
    rw no refl

pub added_values_are_found-proof : AddedValuesAreFound
added_values_are_found-proof fields name value e =
    let place = place_fault (length fields) (field_named fields name) (kind_of value) in
    let word = passed (is_word name) (or_fault place (depth_fault value)) add.BadName e in
    let places = neither place (depth_fault value) word.1 in
    let own = field_named-added fields name value in
    record {
      last = rw own (last-grown (length fields) (field_named fields name) name value places.0);
      earlier = λ index h. rw own (earlier-grown (field_named fields name) name value (kind_of value) index h);
      other_kinds = λ kind index h. rw own (other_kind-grown (length fields) (field_named fields name) name value kind index places.0 h);
      others = λ other kind index h. rw (field_named-others fields name other value h) refl;
    }
