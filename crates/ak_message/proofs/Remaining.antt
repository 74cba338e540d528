-- A change of one field keeps what is true of every message.
use Rattle.std.proofs.Common.{◌≡◌, ◌≢◌, ℕ, zero, suc, ◌<◌, ◌≤◌, Bool, true, false, cond, ltb, List, [], ◌∷◌, length, get_or, set, take, drop, remove, max, codes, All, AllPairs, Option, None, Some, IfSome, slice_set, refl, ap, sym, ◌∙◌, subst, arith, tests}
use Rattle.std.specs.List.{cons_option}
use Rattle.std.proofs.lemmas.List.{length-set}
use Rattle.std.proofs.lemmas.List.Elements.{All-set, All-append, All-take, All-drop, All-cons, All-head, All-tail}
use Rattle.ak_base.proofs.Surface.{passed}
use Rattle.ak_message.specs.declared.kind.Kind.TheVariants as k
use Rattle.ak_message.specs.Kind.{is_same_kind, same_kind-is}
use Rattle.ak_message.specs.Message.{ValueData, FieldData, MessageData, kind_of, depth_of_value, depth_of_nested_values, depth_of_nested_fields, nested_values, nested_fields}
use Rattle.ak_message.specs.Fields.{is_named, field_named, changed, with_values, replaced, replace_fault, replace_fault_in, field_with, removed_data, removed_name, with_fields_left, IsField, specifier_count_in, specifier_count}
use Rattle.ak_message.specs.Whole.{FitsValue, FitsValues, FitsFields, IsWhole}

-- ---- names in pairs
abbrev Differ : FieldData → FieldData → Type 0
Differ f g = f.name ≢ g.name

head_differs : (f : FieldData) (fs : List FieldData) → AllPairs Differ (f ∷ fs) → All (Differ f) fs
head_differs f fs h = λ k d lt. h zero (suc k) d (omega arith) (omega arith)

tail_differs : (f : FieldData) (fs : List FieldData) → AllPairs Differ (f ∷ fs) → AllPairs Differ fs
tail_differs f fs h = λ i j d lt within. h (suc i) (suc j) d (omega arith) (omega arith)

pair_at : (f : FieldData) (fs : List FieldData) → All (Differ f) fs → AllPairs Differ fs → (i j : ℕ) (d : FieldData) → i < j → j < length (f ∷ fs) → Differ (get_or (f ∷ fs) i d) (get_or (f ∷ fs) j d)
pair_at f fs first rest i zero d lt within = absurd (omega arith)
pair_at f fs first rest zero (suc j) d lt within = first j d (omega arith)
pair_at f fs first rest (suc i) (suc j) d lt within = rest i j d (omega arith) (omega arith)

-- ---- what one field becomes
pub record IsFine (deep : ℕ) (f g : FieldData) : Type 0 where
  pub named : g.name ≡ f.name
  pub field : IsField g
  pub fits : FitsValues (nested_values g.values)
  pub depth : depth_of_nested_values (nested_values g.values) ≤ max (depth_of_nested_values (nested_values f.values)) deep

-- what is kept from one list of fields to the other
record IsKept (deep : ℕ) (fs gs : List FieldData) : Type 0 where
  fields : All IsField gs
  fits : FitsFields (nested_fields gs)
  others : (n : FieldData) → All (Differ n) fs → All (Differ n) gs
  differ : AllPairs Differ gs
  limit : length gs ≤ length fs
  depth : depth_of_nested_fields (nested_fields gs) ≤ max (depth_of_nested_fields (nested_fields fs)) deep

renamed : (n f g : FieldData) → g.name ≡ f.name → Differ n f → Differ n g
renamed n f g e h = λ same. h (same ∙ e)

first_renamed : (f g : FieldData) (fs : List FieldData) → g.name ≡ f.name → All (Differ f) fs → All (Differ g) fs
first_renamed f g fs e h = λ k d lt same. h k d lt (sym e ∙ same)

module _ (change : FieldData → Option FieldData) (name : List ℕ) (deep : ℕ) where
  abbrev pub Allows : List FieldData → Type 0
  Allows fs = (f : FieldData) → field_named fs name ≡ Some f → IsField f → FitsValues (nested_values f.values) → IfSome (change f) (IsFine deep f)

  kept-first : (f : FieldData) (fs : List FieldData) (o : Option FieldData) → All IsField (f ∷ fs) → FitsFields (nested_fields (f ∷ fs)) → AllPairs Differ (f ∷ fs) → IfSome o (IsFine deep f) → IsKept deep (f ∷ fs) (cons_option o fs)
  kept-first f fs None h fit differ fine =
      record {
        fields = All-tail IsField f fs h;
        fits = fit.1;
        others = λ n all. All-tail (Differ n) f fs all;
        differ = tail_differs f fs differ;
        limit = omega arith;
        depth = omega arith;
      }
  kept-first f fs (Some g) h fit differ fine =
      record {
        fields = All-cons IsField g fs fine.field (All-tail IsField f fs h);
        fits = (fine.fits, fit.1);
        others = λ n all. All-cons (Differ n) g fs (renamed n f g fine.named (All-head (Differ n) f fs all)) (All-tail (Differ n) f fs all);
        differ = pair_at g fs (first_renamed f g fs fine.named (head_differs f fs differ)) (tail_differs f fs differ);
        limit = omega arith;
        depth = omega (arith, fine.depth);
      }

  kept-behind : (f : FieldData) (fs more : List FieldData) (b : Bool) → is_named name f ≡ b → All IsField (f ∷ fs) → FitsFields (nested_fields (f ∷ fs)) → AllPairs Differ (f ∷ fs) → Allows (f ∷ fs) → (Allows fs → IsKept deep fs more) → IsKept deep (f ∷ fs) (cond b (cons_option (change f) fs) (f ∷ more))
  kept-behind f fs more true e h fit differ allows rest =
      kept-first f fs (change f) h fit differ (allows f (rw e refl) (All-head IsField f fs h) fit.0)
  kept-behind f fs more false e h fit differ allows rest =
      let r = rest (λ g some. allows g (rw e some)) in
      record {
        fields = All-cons IsField f more (All-head IsField f fs h) r.fields;
        fits = (fit.0, r.fits);
        others = λ n all. All-cons (Differ n) f more (All-head (Differ n) f fs all) (r.others n (All-tail (Differ n) f fs all));
        differ = pair_at f more (r.others f (head_differs f fs differ)) r.differ;
        limit = omega (arith, r.limit);
        depth = omega (arith, r.depth);
      }

  kept : (fs : List FieldData) → All IsField fs → FitsFields (nested_fields fs) → AllPairs Differ fs → Allows fs → IsKept deep fs (changed change fs name)
  kept [] h fit differ allows =
      record { fields = h; fits = tt; others = λ n all. all; differ = differ; limit = omega arith; depth = omega arith }
  kept (f ∷ fs) h fit differ allows =
      kept-behind f fs (changed change fs name) (is_named name f) refl h fit differ allows (kept fs (All-tail IsField f fs h) fit.1 (tail_differs f fs differ))

  -- no message is deeper than those there or the one that came in
  pub shallow_after : (m : MessageData) → IsWhole m → Allows m.fields → depth_of_nested_fields (nested_fields (changed change m.fields name)) ≤ max (depth_of_nested_fields (nested_fields m.fields)) deep
  shallow_after m h allows = (kept m.fields h.0.every_field h.1 h.0.names_differ allows).depth

  pub whole_changed : (m : MessageData) (popped : ℕ) → IsWhole m → Allows m.fields → deep < 16 → popped ≤ specifier_count (changed change m.fields name) → IsWhole (record m { fields = changed change m.fields name; popped = popped })
  whole_changed m popped h allows shallow within =
      let r = kept m.fields h.0.every_field h.1 h.0.names_differ allows in (
        record {
          code = h.0.code;
          every_field = r.fields;
          names_differ = r.differ;
          limit = omega (arith, r.limit, h.0.limit);
          popped_within = within;
          depth_within = omega (arith, r.depth, h.0.depth_within);
        },
        r.fits,
      )

-- ---- values put in place of others
fits-set : (vs : List ValueData) (i : ℕ) (v : ValueData) → FitsValues (nested_values vs) → FitsValue v → FitsValues (nested_values (set vs i v))
fits-set [] zero v h fit = tt
fits-set [] (suc i) v h fit = tt
fits-set (x ∷ vs) zero v h fit = (fit, h.1)
fits-set (x ∷ vs) (suc i) v h fit = (h.0, fits-set vs i v h.1 fit)

depth-set : (vs : List ValueData) (i : ℕ) (v : ValueData) → depth_of_nested_values (nested_values (set vs i v)) ≤ max (depth_of_nested_values (nested_values vs)) (depth_of_value v)
depth-set [] zero v = omega arith
depth-set [] (suc i) v = omega arith
depth-set (x ∷ vs) zero v = omega arith
depth-set (x ∷ vs) (suc i) v = omega (arith, depth-set vs i v)

shallow_value : (o : Option FieldData) (index : ℕ) (value : ValueData) → replace_fault_in o index value ≡ None → ltb (depth_of_value value) 16 ≡ true
shallow_value None index value e = absurd cc
shallow_value (Some f) index value e = (passed _ _ _ (passed _ _ _ (passed _ _ _ e).1).1).0

module _ (name : List ℕ) (index : ℕ) (value : ValueData) where
  abbrev put : FieldData → Option FieldData
  put f = Some (with_values f (slice_set f.values index value))

  pub allows_put : (fs : List FieldData) → FitsValue value → replace_fault fs name index value ≡ None → Allows put name (depth_of_value value) fs
  allows_put fs fit e f some field fits =
      let here : replace_fault_in (Some f) index value ≡ None = subst (λ o. replace_fault_in o index value ≡ None) some e in
      let same = same_kind-is f.kind (kind_of value) (passed _ _ _ here).0 in
      let n = length-set f.values index value in
      record {
        named = refl;
        field = record {
          word = field.word;
          filled = omega (arith, n, field.filled);
          limit = omega (arith, n, field.limit);
          same_kind = All-set (λ v. kind_of v ≡ f.kind) f.values index value (sym same) field.same_kind;
        };
        fits = fits-set f.values index value fits fit;
        depth = depth-set f.values index value;
      }

  count_if : (f : FieldData) (b : Bool) → cond b (length (set f.values index value)) 0 ≡ cond b (length f.values) 0
  count_if f b = ap (λ n. cond b n 0) (length-set f.values index value)

  count-behind : (f : FieldData) (fs more : List FieldData) (other : List ℕ) (b c : Bool) → is_named other f ≡ c → specifier_count_in (field_named more other) ≡ specifier_count_in (field_named fs other) → specifier_count_in (field_named (cond b (cons_option (put f) fs) (f ∷ more)) other) ≡ specifier_count_in (cond c (Some f) (field_named fs other))
  count-behind f fs more other true true e h = rw e (count_if f (is_same_kind f.kind k.Message))
  count-behind f fs more other true false e h = rw e refl
  count-behind f fs more other false true e h = rw e refl
  count-behind f fs more other false false e h = rw e h

  count-replaced : (fs : List FieldData) (other : List ℕ) → specifier_count_in (field_named (replaced fs name index value) other) ≡ specifier_count_in (field_named fs other)
  count-replaced [] other = refl
  count-replaced (f ∷ fs) other =
      count-behind f fs (replaced fs name index value) other (is_named name f) (is_named other f) refl (count-replaced fs other)

  pub shallow_replaced : (m : MessageData) → IsWhole m → FitsValue value → replace_fault m.fields name index value ≡ None → depth_of_nested_fields (nested_fields (replaced m.fields name index value)) < 16
  shallow_replaced m h fit e =
      let deep = shallow_value (field_named m.fields name) index value e in
      let r = shallow_after put name (depth_of_value value) m h (allows_put m.fields fit e) in
      grind (arith, tests, r, deep, h.0.depth_within)

  pub whole_replaced : (m : MessageData) → IsWhole m → FitsValue value → replace_fault m.fields name index value ≡ None → IsWhole (record m { fields = replaced m.fields name index value })
  whole_replaced m h fit e =
      let deep = shallow_value (field_named m.fields name) index value e in
      let count = count-replaced m.fields (codes "specifiers") in
      whole_changed put name (depth_of_value value) m m.popped h (allows_put m.fields fit e) (grind (arith, tests, deep)) (omega (arith, count, h.0.popped_within))

-- ---- values removed
fits-remove : (vs : List ValueData) (i : ℕ) → FitsValues (nested_values vs) → FitsValues (nested_values (remove vs i))
fits-remove [] zero h = tt
fits-remove [] (suc i) h = tt
fits-remove (x ∷ vs) zero h = h.1
fits-remove (x ∷ vs) (suc i) h = (h.0, fits-remove vs i h.1)

depth-remove : (vs : List ValueData) (i : ℕ) → depth_of_nested_values (nested_values (remove vs i)) ≤ depth_of_nested_values (nested_values vs)
depth-remove [] zero = omega arith
depth-remove [] (suc i) = omega arith
depth-remove (x ∷ vs) zero = omega arith
depth-remove (x ∷ vs) (suc i) = omega (arith, depth-remove vs i)

length-remove : (vs : List ValueData) (i : ℕ) → length (remove vs i) ≤ length vs
length-remove [] zero = omega arith
length-remove [] (suc i) = omega arith
length-remove (x ∷ vs) zero = omega arith
length-remove (x ∷ vs) (suc i) = omega (arith, length-remove vs i)

fine_with : (f : FieldData) (vs : List ValueData) → IsField f → All (λ v. kind_of v ≡ f.kind) vs → length vs ≤ 255 → FitsValues (nested_values vs) → depth_of_nested_values (nested_values vs) ≤ depth_of_nested_values (nested_values f.values) → IfSome (field_with f vs) (IsFine 0 f)
fine_with f [] field same limit fits depth = tt
fine_with f (v ∷ vs) field same limit fits depth =
    record {
      named = refl;
      field = record { word = field.word; filled = omega arith; limit = limit; same_kind = same };
      fits = fits;
      depth = omega (arith, depth);
    }

allows_removed_data : (name : List ℕ) (index : ℕ) (fs : List FieldData) → Allows (λ f. field_with f (remove f.values index)) name 0 fs
allows_removed_data name index fs f some field fits =
    let same = All-append (λ v. kind_of v ≡ f.kind) (take index f.values) (drop (suc index) f.values) (All-take (λ v. kind_of v ≡ f.kind) index f.values field.same_kind) (All-drop (λ v. kind_of v ≡ f.kind) (suc index) f.values field.same_kind) in
    fine_with f (remove f.values index) field same (omega (arith, length-remove f.values index, field.limit)) (fits-remove f.values index fits) (depth-remove f.values index)

allows_removed_name : (name : List ℕ) (fs : List FieldData) → Allows (λ _. None) name 0 fs
allows_removed_name name fs f some field fits = tt

pub shallow_without_data : (m : MessageData) (name : List ℕ) (index : ℕ) → IsWhole m → depth_of_nested_fields (nested_fields (removed_data m.fields name index)) < 16
shallow_without_data m name index h =
    omega (arith, shallow_after _ name 0 m h (allows_removed_data name index m.fields), h.0.depth_within)

pub whole_without_data : (m : MessageData) (name : List ℕ) (index : ℕ) → IsWhole m → IsWhole (with_fields_left m (removed_data m.fields name index))
whole_without_data m name index h =
    whole_changed _ name 0 m _ h (allows_removed_data name index m.fields) (omega arith) (omega arith)

pub shallow_without_name : (m : MessageData) (name : List ℕ) → IsWhole m → depth_of_nested_fields (nested_fields (removed_name m.fields name)) < 16
shallow_without_name m name h =
    omega (arith, shallow_after (λ _. None) name 0 m h (allows_removed_name name m.fields), h.0.depth_within)

pub whole_without_name : (m : MessageData) (name : List ℕ) → IsWhole m → IsWhole (with_fields_left m (removed_name m.fields name))
whole_without_name m name h =
    whole_changed (λ _. None) name 0 m _ h (allows_removed_name name m.fields) (omega arith) (omega arith)
