-- Why a value is not taken, and what stays or changes, over plain variables.
use Rattle.std.proofs.Common.{◌≡◌, ℕ, ◌+◌, ◌<◌, ◌≤◌, Bool, true, false, not, ltb, List, [], ◌∷◌, ◌++◌, length, get_or, set, Option, None, Some, Result, Ok, Err, refl, ap, sym, subst, ◌∙◌, arith}
use Rattle.std.specs.Prelude.{IfOk, IfErr, IfSome, IfNone, IsErr, OnOk, OnErr, IsOkUnless, ◌==◌}
use Rattle.std.specs.Result.{IsErrAnd}
use Rattle.std.proofs.lemmas.Bool.Decides.{nat_tests}
use denote.Enum.Bare.{sameb, same_true, same_false}
use Rattle.ak_message.specs.contracts.kind.Kind.{the_type}
use Rattle.ak_message.specs.declared.kind.Kind.{Kind}
use Rattle.ak_message.specs.declared.message.Value.{Value}
use Rattle.ak_message.specs.Kind.{is_same_kind, same_kind-is, code_of_kind}
use Rattle.ak_message.specs.declared.specifier.At.{At}
use Rattle.ak_message.specs.Message.{ValueData, MessageData}
use Rattle.ak_message.specs.Seen.{value_of}
use Rattle.ak_value.specs.declared.elements.Element.{Element}
use Rattle.ak_value.specs.declared.fault.ElementFault.{ElementFault}
use Rattle.ak_value.specs.declared.fault.ElementFault.TheVariants as fault
use Rattle.ak_value.specs.Elements.{ElementData, ElementsData, has_room, add_fault, with_last, set_first_fault, with_first}
use Rattle.ak_value.specs.Access.{Accessed, access_of, has_form, on_chosen, set_chosen, create_last, get, count}
use Rattle.ak_value.specs.Seen.{elements_of_list}

-- ---- an answer by the fault that there is
module _ {A : Type 0} (r : Result A ElementFault) (o : Option ElementFault) where
  pub refused_as : (f : ElementFault) → o ≡ Some f → r ≡ Err f → IfSome o (λ g. r ≡ Err g)
  refused_as f e h = subst (λ x. IfSome x (λ g. r ≡ Err g)) (sym e) h

  pub not_refused : o ≡ None → IfSome o (λ g. r ≡ Err g)
  not_refused e = subst (λ x. IfSome x (λ g. r ≡ Err g)) (sym e) tt

module _ (P : Type 0) (o : Option ElementFault) where
  pub not_only : (f : ElementFault) → o ≡ Some f → IfNone o P
  not_only f e = subst (λ x. IfNone x P) (sym e) tt

  pub only_so : o ≡ None → P → IfNone o P
  only_so e h = subst (λ x. IfNone x P) (sym e) h

-- ---- kinds that the code has compared
itself : (n : ℕ) → (n == n) ≡ true
itself n = grind (arith, nat_tests)

not_same : (a b : Kind) (s : Bool) → is_same_kind a b ≡ s → (a ≡ b → ⊥) → s ≡ false
not_same a b true e apart = absurd (apart (same_kind-is a b e))
not_same a b false e apart = refl

flagged : (a b : Kind) (t : Bool) → sameb the_type a b ≡ t → is_same_kind a b ≡ t
flagged a b true e =
    let same : a ≡ b = same_true the_type tt a b e in
    subst (λ x. is_same_kind a x ≡ true) same (itself (code_of_kind a))
flagged a b false e = not_same a b (is_same_kind a b) refl (same_false the_type a b e)

not_flag : (t u : Bool) → u ≡ not t → t ≡ not u
not_flag true u e = rw e refl
not_flag false u e = rw e refl

pub kinds_told : (a b i j : Kind) (u : Bool) → i ≡ a → j ≡ b → u ≡ not (sameb the_type i j) → is_same_kind a b ≡ not u
kinds_told a b i j u d e h =
    let told : is_same_kind i j ≡ not u = flagged i j (not u) (not_flag (sameb the_type i j) u h) in
    ap (λ x. is_same_kind x b) (sym d) ∙ ap (λ x. is_same_kind i x) (sym e) ∙ told

-- ---- after a call that ran out of memory
module _ {A : Type 0} where
  pub only_memory : (r : Result A ElementFault) → IsErr r × IsErrAnd r (λ e. e ≡ fault.NoMemory) → IsOkUnless r fault.NoMemory
  only_memory (Ok x) h = tt
  only_memory (Err f) h = h.1

  pub on_err : (P : Type 0) (r : Result A ElementFault) → P → OnErr r P
  on_err P (Ok x) h = tt
  on_err P (Err f) h = h

  pub not_ok : (P : Type 0) (r : Result A ElementFault) → IsErr r → OnOk r P
  not_ok P (Ok x) h = absurd cc
  not_ok P (Err f) h = tt

-- ---- one more element
-- of the elements as the code holds them, i, which are seen as e
module _ (i e : ElementsData) (same : i ≡ e) (kind : Kind) where
  pub add-bad_type : is_same_kind i.kind kind ≡ false → add_fault e kind ≡ Some fault.BadType
  add-bad_type k = subst (λ x. add_fault x kind ≡ Some fault.BadType) same (rw k refl)

  pub add-full : is_same_kind i.kind kind ≡ true → false ≡ has_room e → add_fault e kind ≡ Some fault.ElementLimit
  add-full k full =
      let there : is_same_kind e.kind kind ≡ true = subst (λ x. is_same_kind x.kind kind ≡ true) same k in
      rw (there, sym full) refl

  pub add-none : is_same_kind i.kind kind ≡ true → true ≡ has_room e → add_fault e kind ≡ None
  add-none k room =
      let there : is_same_kind e.kind kind ≡ true = subst (λ x. is_same_kind x.kind kind ≡ true) same k in
      rw (there, sym room) refl

pub after_err : (kind : Kind) (old new : List ElementData) (id : ℕ) (now : ElementsData) → new ≡ old → record { kind = kind; list = old; next_id = id } ≡ now → record { kind = kind; list = new; next_id = id } ≡ now
after_err kind old new id now e h = rw e h

pub last_added : (kind : Kind) (old new : List ElementData) (id : ℕ) (now : ElementsData) (name : List ℕ) (v : ValueData) → new ≡ old ++ (record { name = name; id = id; value = v }) ∷ [] → record { kind = kind; list = old; next_id = id } ≡ now → record { kind = kind; list = new; next_id = id + 1 } ≡ with_last now name v
last_added kind old new id now name v e h = rw e (ap (λ (x : ElementsData). with_last x name v) h)

-- ---- the first element
below : (i n : ℕ) → i < n → ltb i n ≡ true
below i n h = grind (arith, nat_tests)

past : (i n : ℕ) → n ≤ i → ltb i n ≡ false
past i n h = grind (arith, nat_tests)

module _ (i e : ElementsData) (same : i ≡ e) (kind : Kind) where
  pub first-bad_type : is_same_kind kind i.kind ≡ false → set_first_fault e kind ≡ Some fault.BadType
  first-bad_type k = subst (λ x. set_first_fault x kind ≡ Some fault.BadType) same (rw k refl)

  pub first-bad_index : is_same_kind kind i.kind ≡ true → length i.list ≤ 0 → set_first_fault e kind ≡ Some fault.BadIndex
  first-bad_index k none =
      subst (λ x. set_first_fault x kind ≡ Some fault.BadIndex) same (rw (k, past 0 (length i.list) none) refl)

  pub first-none : is_same_kind kind i.kind ≡ true → 0 < length i.list → set_first_fault e kind ≡ None
  first-none k some = subst (λ x. set_first_fault x kind ≡ None) same (rw (k, below 0 (length i.list) some) refl)

pub first_set : (kind : Kind) (list : List Element) (id : ℕ) (now : ElementsData) (x : Element) (v : Value) → 0 < length list → x ≡ get_or list 0 x → record { kind = kind; list = elements_of_list list; next_id = id } ≡ now → record { kind = kind; list = elements_of_list (set list 0 (record { name = x.name; id = x.id; value = v })); next_id = id } ≡ with_first now (value_of v)
first_set kind [] id now x v h e same = absurd (omega arith)
first_set kind (y ∷ ys) id now x v h e same =
    ap (λ (z : Element). record { kind = kind; list = (record { name = z.name; id = z.id; value = value_of v }) ∷ elements_of_list ys; next_id = id }) e
    ∙ ap (λ (n : ElementsData). with_first n (value_of v)) same

-- ---- a command that is carried out
module _ {A : Type 0} (r s : Result Accessed ElementFault) (same : r ≡ s) (answer : Result A ElementFault) where
  pub refused_by : IfErr s (λ f. answer ≡ Err f) → IfErr r (λ f. answer ≡ Err f)
  refused_by h = subst (λ x. IfErr x (λ f. answer ≡ Err f)) (sym same) h

  pub only_by : (P : Type 0) → IfOk s (λ _. P) → IfOk r (λ _. P)
  only_by P h = subst (λ x. IfOk x (λ _. P)) (sym same) h

  pub ok_by : (F : A → Accessed) → IfOk answer (λ v. s ≡ Ok (F v)) → IfOk answer (λ v. r ≡ Ok (F v))
  ok_by F h = subst (λ x. IfOk answer (λ v. x ≡ Ok (F v))) (sym same) h

abbrev done : Accessed → Result Accessed ElementFault
done a = Ok a

pub ok_of : {A : Type 0} (a : Accessed) (answer : Result A ElementFault) (F : A → Accessed) → IfOk answer (λ v. a ≡ F v) → IfOk answer (λ v. done a ≡ done (F v))
ok_of a (Ok v) F h = ap done h
ok_of a (Err f) F h = tt

module _ (e : ElementsData) (what : ℕ) (at : At) (m : MessageData) where
  pub get_at : what ≡ 0x50474554 → access_of e what at m ≡ on_chosen e at (get e)
  get_at code = ap (λ w. access_of e w at m) code

  pub set_at : what ≡ 0x50534554 → access_of e what at m ≡ set_chosen e at m
  set_at code = ap (λ w. access_of e w at m) code

  at_form : (code : ℕ) (r : Result Accessed ElementFault) → what ≡ code → true ≡ has_form what at → (has_form code at ≡ true → access_of e code at m ≡ r) → access_of e what at m ≡ r
  at_form code r is form h =
      ap (λ w. access_of e w at m) is ∙ h (ap (λ w. has_form w at) (sym is) ∙ sym form)

  pub count_at : what ≡ 0x50434e54 → true ≡ has_form what at → access_of e what at m ≡ Ok (count e)
  count_at is form = at_form 0x50434e54 (Ok (count e)) is form (λ h. rw h refl)

  pub create_at : what ≡ 0x50435254 → true ≡ has_form what at → access_of e what at m ≡ create_last e at m
  create_at is form = at_form 0x50435254 (create_last e at m) is form (λ h. rw h refl)

  pub no_form_at : false ≡ has_form what at → access_of e what at m ≡ Err fault.BadScript
  no_form_at other = rw (sym other) refl

pub never_ok : (r : Result Accessed ElementFault) (f : ElementFault) (P : Type 0) → r ≡ Err f → IfOk r (λ _. P)
never_ok r f P e = subst (λ x. IfOk x (λ _. P)) (sym e) tt
