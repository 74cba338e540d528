-- The last one of a list: what becomes of it, and what is put behind it.
use Rattle.std.proofs.Common.{◌≡◌, ◌≢◌, ◌⊎◌, ℕ, zero, suc, ◌+◌, ◌-◌, ◌<◌, ◌≤◌, List, [], ◌∷◌, ◌++◌, length, Option, Some, None, option_map, slice_get, slice_set, refl, sym, ap, subst, ◌∙◌, inl, inr, arith}
use Rattle.std.proofs.lemmas.Bool.{cases_eq}
use Rattle.std.proofs.lemmas.List.{length-set, length_push}
use Rattle.std.proofs.lemmas.Option.{slice_get-get_or}
use Rattle.ak_describe.specs.Pass.{last_item}
use Rattle.ak_describe.specs.Says.{changed, with_changed}

further : {P Q : Type 0} (i n : ℕ) → P ⊎ ((i ≡ n) × Q) → P ⊎ ((suc i ≡ suc n) × Q)
further i n (inl p) = inl p
further i n (inr (e, q)) = inr (ap suc e, q)

module _ {A : Type 0} where
  -- ---- whether there is one
  pub last_none : (xs : List A) → last_item xs ≡ None → xs ≡ []
  last_none [] e = refl
  last_none (x ∷ xs) e =
      let within : length (x ∷ xs) - 1 < length (x ∷ xs) = omega arith in
      cc (e, slice_get-get_or (x ∷ xs) (length (x ∷ xs) - 1) x within)

  pub last_within : (xs : List A) (x : A) → last_item xs ≡ Some x → 1 ≤ length xs
  last_within [] x e = cc
  last_within (y ∷ xs) x e = omega arith

  pub some_there : (xs : List A) → xs ≢ [] → 1 ≤ length xs
  some_there [] other = absurd (other refl)
  some_there (x ∷ xs) other = omega arith

  pub last_there : (xs : List A) → 1 ≤ length xs → (x : A) × (last_item xs ≡ Some x)
  last_there [] lt = absurd (omega arith)
  last_there (x ∷ xs) lt =
      let within : length (x ∷ xs) - 1 < length (x ∷ xs) = omega arith in
      (_, slice_get-get_or (x ∷ xs) (length (x ∷ xs) - 1) x within)

  pub one_some : (o : Option A) (x y : A) → o ≡ Some x → o ≡ Some y → x ≡ y
  one_some o x y e f = cc

  -- ---- another one in its place
  pub get_set_same : (xs : List A) (i : ℕ) (y : A) → i < length xs → slice_get (slice_set xs i y) i ≡ Some y
  get_set_same [] i y lt = absurd (omega arith)
  get_set_same (x ∷ xs) zero y lt = refl
  get_set_same (x ∷ xs) (suc i) y lt = get_set_same xs i y (omega arith)

  pub get_set_other : (xs : List A) (i j : ℕ) (y : A) → j ≢ i → slice_get (slice_set xs i y) j ≡ slice_get xs j
  get_set_other [] i j y other = refl
  get_set_other (x ∷ xs) zero zero y other = absurd (other refl)
  get_set_other (x ∷ xs) zero (suc j) y other = refl
  get_set_other (x ∷ xs) (suc i) zero y other = refl
  get_set_other (x ∷ xs) (suc i) (suc j) y other = get_set_other xs i j y (λ e. other (ap suc e))

  pub last_set : (xs : List A) (y : A) → 1 ≤ length xs → last_item (slice_set xs (length xs - 1) y) ≡ Some y
  last_set xs y least =
      ap (λ (n : ℕ). slice_get (slice_set xs (length xs - 1) y) (n - 1)) (length-set xs (length xs - 1) y) ∙ get_set_same xs (length xs - 1) y (omega arith)

  last_changed_by : (change : A → A) (xs : List A) (o : Option A) → last_item xs ≡ o → last_item (changed change xs o) ≡ option_map change o
  last_changed_by change xs None e = e
  last_changed_by change xs (Some x) e = last_set xs (change x) (last_within xs x e)

  pub last_changed : (change : A → A) (xs : List A) → last_item (with_changed change xs) ≡ option_map change (last_item xs)
  last_changed change xs = last_changed_by change xs (last_item xs) refl

  length_changed_by : (change : A → A) (xs : List A) (o : Option A) → length (changed change xs o) ≡ length xs
  length_changed_by change xs None = refl
  length_changed_by change xs (Some x) = length-set xs (length xs - 1) (change x)

  pub length_changed : (change : A → A) (xs : List A) → length (with_changed change xs) ≡ length xs
  length_changed change xs = length_changed_by change xs (last_item xs)

  pub changed_is : (change : A → A) (xs : List A) (x : A) → last_item xs ≡ Some x → with_changed change xs ≡ slice_set xs (length xs - 1) (change x)
  changed_is change xs x e = ap (changed change xs) e

  -- what stands at a place stood there before, or is what the last one became
  changed_get_set : (change : A → A) (xs : List A) (x : A) (i : ℕ) (y : A) → last_item xs ≡ Some x → slice_get (slice_set xs (length xs - 1) (change x)) i ≡ Some y
      → (i ≡ length xs - 1) ⊎ (i ≡ length xs - 1 → ⊥) → (slice_get xs i ≡ Some y) ⊎ ((x : A) × (i + 1 ≡ length xs) × (slice_get xs i ≡ Some x) × (y ≡ change x))
  changed_get_set change xs x i y is e (inl same) =
      let least = last_within xs x is in
      let here = subst (λ (k : ℕ). slice_get (slice_set xs (length xs - 1) (change x)) k ≡ Some (change x)) (sym same) (get_set_same xs (length xs - 1) (change x) (omega arith)) in
      inr (x, omega arith, ap (slice_get xs) same ∙ is, one_some _ y (change x) e here)
  changed_get_set change xs x i y is e (inr other) = inl (sym (get_set_other xs (length xs - 1) i (change x) other) ∙ e)

  changed_get_by : (change : A → A) (xs : List A) (o : Option A) (i : ℕ) (y : A) → last_item xs ≡ o → slice_get (changed change xs o) i ≡ Some y
      → (slice_get xs i ≡ Some y) ⊎ ((x : A) × (i + 1 ≡ length xs) × (slice_get xs i ≡ Some x) × (y ≡ change x))
  changed_get_by change xs None i y is e = inl e
  changed_get_by change xs (Some x) i y is e = changed_get_set change xs x i y is e (cases_eq i (length xs - 1))

  pub changed_get : (change : A → A) (xs : List A) (i : ℕ) (y : A) → slice_get (with_changed change xs) i ≡ Some y
      → (slice_get xs i ≡ Some y) ⊎ ((x : A) × (i + 1 ≡ length xs) × (slice_get xs i ≡ Some x) × (y ≡ change x))
  changed_get change xs i y e = changed_get_by change xs (last_item xs) i y refl e

  -- ---- one more
  pub get_push : (xs : List A) (y : A) → slice_get (xs ++ y ∷ []) (length xs) ≡ Some y
  get_push [] y = refl
  get_push (x ∷ xs) y = get_push xs y

  pub get_before : (xs : List A) (y : A) (i : ℕ) (x : A) → slice_get xs i ≡ Some x → slice_get (xs ++ y ∷ []) i ≡ Some x
  get_before [] y i x e = cc
  get_before (z ∷ xs) y zero x e = e
  get_before (z ∷ xs) y (suc i) x e = get_before xs y i x e

  pub last_push : (xs : List A) (y : A) → last_item (xs ++ y ∷ []) ≡ Some y
  last_push xs y =
      let e : length (xs ++ y ∷ []) - 1 ≡ length xs = omega (arith, length_push xs y) in
      ap (slice_get (xs ++ y ∷ [])) e ∙ get_push xs y

  pub push_cases : (xs : List A) (y : A) (i : ℕ) (x : A) → slice_get (xs ++ y ∷ []) i ≡ Some x → (slice_get xs i ≡ Some x) ⊎ ((i ≡ length xs) × (y ≡ x))
  push_cases [] y zero x e = inr (refl, one_some (Some y) y x refl e)
  push_cases [] y (suc i) x e = cc
  push_cases (z ∷ xs) y zero x e = inl e
  push_cases (z ∷ xs) y (suc i) x e = further i (length xs) (push_cases xs y i x e)
