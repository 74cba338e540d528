-- Why a value is not added, found or replaced, by the field that the code has at hand.
use Rattle.std.proofs.Common.{◌≡◌, ℕ, zero, suc, ◌<◌, ◌≤◌, Bool, true, false, not, ltb, length, Option, None, Some, Ok, Err, refl, ap, sym, ◌∙◌, subst, vec_len, List, [], ◌∷◌, map, get_or, arith}
use Rattle.std.specs.List.{slice_get}
use Rattle.std.specs.Prelude.{◌==◌, ok_or, is_some, option_map}
use Rattle.std.specs.Result.{result_ok}
use Rattle.std.proofs.lemmas.Bool.Decides.{nat_tests}
use Rattle.std.proofs.lemmas.List.{length-map}
use Rattle.std.proofs.lemmas.Option.{slice_get_read, slice_get_within}
use Rattle.std.proofs.Math.ListN.{get_or-map}
use denote.Enum.Bare.{sameb, same_true, same_false}
use Rattle.ak_message.specs.contracts.kind.Kind.{the_type}
use Rattle.ak_message.specs.declared.kind.Kind.{Kind}
use Rattle.ak_message.specs.declared.message.Field.{Field}
use Rattle.ak_message.specs.declared.message.Value.{Value}
use Rattle.ak_message.specs.declared.message.Message.TheInside.{Inside}
use Rattle.ak_message.specs.declared.fault.AddFault.TheVariants as add
use Rattle.ak_message.specs.declared.fault.FindFault.TheVariants as missing
use Rattle.ak_message.specs.declared.fault.RemoveFault.TheVariants as removal
use Rattle.ak_message.specs.declared.fault.ReplaceFault.TheVariants as replace
use Rattle.ak_message.specs.Kind.{is_same_kind, same_kind-is, code_of_kind}
use Rattle.ak_message.specs.Message.{ValueData, FieldData, MessageData, kind_of, depth_of_value}
use Rattle.ak_message.specs.Fields.{field_named, place_fault, value_in, value_at, replace_fault_in, remove_fault_in}
use Rattle.ak_message.specs.Inside.{message_in}
use Rattle.ak_message.specs.Seen.{value_of, field_of, fields_of}
use Rattle.ak_message.proofs.Changing.{no_value}

-- ---- tests of numbers
itself : (n : ℕ) → (n == n) ≡ true
itself n = grind (arith, nat_tests)

below : (i n : ℕ) → i < n → ltb i n ≡ true
below i n h = grind (arith, nat_tests)

past : (i n : ℕ) → n ≤ i → ltb i n ≡ false
past i n h = grind (arith, nat_tests)

is_below : (i n : ℕ) → true ≡ ltb i n → i < n
is_below i n h = grind (arith, nat_tests)

is_past : (i n : ℕ) → false ≡ ltb i n → n ≤ i
is_past i n h = grind (arith, nat_tests)

-- ---- kinds that the code has compared
not_same : (a b : Kind) (s : Bool) → is_same_kind a b ≡ s → (a ≡ b → ⊥) → s ≡ false
not_same a b true e apart = absurd (apart (same_kind-is a b e))
not_same a b false e apart = refl

flagged : (a b : Kind) (t : Bool) → sameb the_type a b ≡ t → is_same_kind a b ≡ t
flagged a b true e =
    let same : a ≡ b = same_true the_type tt a b e in
    subst (λ x. is_same_kind a x ≡ true) same (itself (code_of_kind a))
flagged a b false e = not_same a b (is_same_kind a b) refl (same_false the_type a b e)

not_flag : (t u : Bool) → u ≡ not t → t ≡ not u
not_flag true u e = rw e refl
not_flag false u e = rw e refl

pub kinds_told : (a b k : Kind) (u : Bool) → k ≡ b → u ≡ not (sameb the_type a k) → is_same_kind a b ≡ not u
kinds_told a b k u same e =
    subst (λ x. is_same_kind a x ≡ not u) same (flagged a k (not u) (not_flag (sameb the_type a k) u e))

pub kinds_equal : (a b : Kind) (u : Bool) → u ≡ sameb the_type a b → is_same_kind a b ≡ u
kinds_equal a b u e = flagged a b u (sym e)

-- ---- the field of a name, in the message
pub named_in : (m : MessageData) (i : Inside) (fs : List Field) (name : List ℕ) (o : Option FieldData) → message_in i ≡ m → fs ≡ i.fields.items → o ≡ field_named (fields_of fs) name → o ≡ field_named m.fields name
named_in m i fs name o e d h = h ∙ ap (λ x. field_named (fields_of x) name) d ∙ ap (λ (x : MessageData). field_named x.fields name) e

-- ---- adding
pub place-bad_type : (n : ℕ) (o : Option FieldData) (f : FieldData) (kind : Kind) → Some f ≡ o → is_same_kind f.kind kind ≡ false → Some add.BadType ≡ place_fault n o kind
place-bad_type n o f kind e k = subst (λ x. Some add.BadType ≡ place_fault n x kind) e (rw k refl)

pub place-full : (n : ℕ) (o : Option FieldData) (f : Field) (len : ℕ) (kind : Kind) → Some (field_of f) ≡ o → is_same_kind f.kind kind ≡ true → len ≡ vec_len f.values → 255 ≤ len → Some add.FieldLimit ≡ place_fault n o kind
place-full n o f len kind e k count h =
    let full = past (length (field_of f).values) 255 (omega (arith, length-map f.values.items value_of)) in
    subst (λ x. Some add.FieldLimit ≡ place_fault n x kind) e (rw (k, full) refl)

pub place-none : (n : ℕ) (o : Option FieldData) (f : Field) (len : ℕ) (kind : Kind) → Some (field_of f) ≡ o → is_same_kind f.kind kind ≡ true → len ≡ vec_len f.values → len < 255 → None ≡ place_fault n o kind
place-none n o f len kind e k count h =
    let room = below (length (field_of f).values) 255 (omega (arith, length-map f.values.items value_of)) in
    subst (λ x. None ≡ place_fault n x kind) e (rw (k, room) refl)

-- ---- finding
ok_of_found : (o : Option ValueData) → o ≡ result_ok (ok_or o missing.BadIndex)
ok_of_found None = refl
ok_of_found (Some v) = refl

pub find-bad_type : (o : Option FieldData) (f : FieldData) (kind : Kind) (index : ℕ) → Some f ≡ o → is_same_kind f.kind kind ≡ false → value_in o kind index ≡ Err missing.BadType
find-bad_type o f kind index e k = subst (λ x. value_in x kind index ≡ Err missing.BadType) e (rw k refl)

pub find-past : (o : Option FieldData) (f : Field) (xs : List Value) (kind : Kind) (index : ℕ) → Some (field_of f) ≡ o → is_same_kind f.kind kind ≡ true → xs ≡ f.values.items → false ≡ ltb index (length xs) → value_in o kind index ≡ Err missing.BadIndex
find-past o f xs kind index e k same out =
    let far : length xs ≤ index = is_past index (length xs) out in
    let at : slice_get (map value_of f.values.items) index ≡ None = subst (λ ys. slice_get (map value_of ys) index ≡ None) same (no_value xs index far) in
    subst (λ x. value_in x kind index ≡ Err missing.BadIndex) e (rw (k, at) refl)

pub find-at : (o : Option FieldData) (f : Field) (xs : List Value) (kind : Kind) (index : ℕ) (x : Value) → Some (field_of f) ≡ o → is_same_kind f.kind kind ≡ true → xs ≡ f.values.items → true ≡ ltb index (length xs) → x ≡ get_or xs index x → value_in o kind index ≡ Ok (value_of x)
find-at o f xs kind index x e k same within read =
    let near : index < length xs = is_below index (length xs) within in
    let seen = slice_get_read (map value_of xs) (length xs) index (value_of x) (sym (length-map xs value_of)) near (ap value_of read ∙ sym (get_or-map value_of xs index x)) in
    let at : slice_get (map value_of f.values.items) index ≡ Some (value_of x) = subst (λ ys. slice_get (map value_of ys) index ≡ Some (value_of x)) same seen in
    subst (λ y. value_in y kind index ≡ Ok (value_of x)) e (rw (k, at) refl)

pub find-same_kind : (o : Option FieldData) (f : FieldData) (kind : Kind) (index : ℕ) → Some f ≡ o → is_same_kind f.kind kind ≡ true → value_at o index ≡ result_ok (value_in o kind index)
find-same_kind o f kind index e k =
    subst (λ x. value_at x index ≡ result_ok (value_in x kind index)) e (rw k (ok_of_found (slice_get f.values index)))

-- ---- replacing
module _ (o : Option FieldData) (f : Field) (index : ℕ) (v : ValueData) where
  pub replace-bad_type : Some (field_of f) ≡ o → is_same_kind f.kind (kind_of v) ≡ false → Some replace.BadType ≡ replace_fault_in o index v
  replace-bad_type e k = subst (λ x. Some replace.BadType ≡ replace_fault_in x index v) e (rw k refl)

  pub replace-bad_index : (n : ℕ) → Some (field_of f) ≡ o → is_same_kind f.kind (kind_of v) ≡ true → n ≡ vec_len f.values → n ≤ index → Some replace.BadIndex ≡ replace_fault_in o index v
  replace-bad_index n e k len h =
      let out = past index (length (field_of f).values) (omega (arith, length-map f.values.items value_of)) in
      subst (λ x. Some replace.BadIndex ≡ replace_fault_in x index v) e (rw (k, out) refl)

  pub replace-depth : (n d : ℕ) → Some (field_of f) ≡ o → is_same_kind f.kind (kind_of v) ≡ true → n ≡ vec_len f.values → index < n → d ≡ depth_of_value v → 16 ≤ d → Some replace.TooDeep ≡ replace_fault_in o index v
  replace-depth n d e k len h deep most =
      let in_list = below index (length (field_of f).values) (omega (arith, length-map f.values.items value_of)) in
      let out = past (depth_of_value v) 16 (omega arith) in
      subst (λ x. Some replace.TooDeep ≡ replace_fault_in x index v) e (rw (k, in_list, out) refl)

  pub replace-none : (n d : ℕ) → Some (field_of f) ≡ o → is_same_kind f.kind (kind_of v) ≡ true → n ≡ vec_len f.values → index < n → d ≡ depth_of_value v → d < 16 → None ≡ replace_fault_in o index v
  replace-none n d e k len h deep most =
      let in_list = below index (length (field_of f).values) (omega (arith, length-map f.values.items value_of)) in
      let fits = below (depth_of_value v) 16 (omega arith) in
      subst (λ x. None ≡ replace_fault_in x index v) e (rw (k, in_list, fits) refl)

-- ---- removing
module _ {A : Type 0} (see : A → FieldData) where
  pub is_there : (q : Option A) (o : Option FieldData) → option_map see q ≡ o → is_some q ≡ true → is_some o ≡ true
  is_there None o e h = absurd cc
  is_there (Some x) o e h = subst (λ y. is_some y ≡ true) e refl

far : (xs : List ValueData) (i : ℕ) → None ≡ slice_get xs i → length xs ≤ i
far [] i e = omega arith
far (x ∷ xs) zero e = absurd cc
far (x ∷ xs) (suc i) e = omega (arith, far xs i e)

pub remove-none : (o : Option FieldData) (index : ℕ) (r : Option Value) (x : Value) → r ≡ Some x → option_map value_of r ≡ value_at o index → remove_fault_in o index ≡ None
remove-none None index r x is e = absurd (cc (subst (λ y. option_map value_of y ≡ None) is e))
remove-none (Some f) index r x is e =
    let at : Some (value_of x) ≡ slice_get f.values index = subst (λ y. option_map value_of y ≡ slice_get f.values index) is e in
    rw (below index (length f.values) (slice_get_within f.values index (value_of x) (sym at))) refl

pub remove-bad_index : (o : Option FieldData) (index : ℕ) (r : Option Value) → r ≡ None → option_map value_of r ≡ value_at o index → is_some o ≡ true → remove_fault_in o index ≡ Some removal.BadIndex
remove-bad_index None index r is e there = absurd cc
remove-bad_index (Some f) index r is e there =
    let at : None ≡ slice_get f.values index = subst (λ y. option_map value_of y ≡ slice_get f.values index) is e in
    rw (past index (length f.values) (far f.values index at)) refl
