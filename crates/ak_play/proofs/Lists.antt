-- Things in lists: in a list that is gathered from others, and the one that meets a test.
use Rattle.std.proofs.Common.{◌≡◌, ℕ, zero, suc, ◌<◌, Bool, true, false, cond, List, [], ◌∷◌, ◌++◌, length, length-append, filter, get_or, All, Contains, Some, slice_get, refl, sym, ap, ◌∙◌, subst, append_assoc, append-nil, arith}
use Rattle.std.specs.List.{flat_map}
use Rattle.std.proofs.lemmas.List.{get_or_append_left}
use Rattle.std.proofs.lemmas.List.Concat.{flat_map-append}
use Rattle.std.proofs.lemmas.List.Elements.{Contains-append_right}

module _ {X : Type 0} where
  pub first_in : (x : X) (xs : List X) → Contains (x ∷ xs) x
  first_in x xs = (zero, omega arith, refl)

  later_in : (x y : X) (xs : List X) → Contains xs y → Contains (x ∷ xs) y
  later_in x y xs there = (suc there.0, omega (arith, there.1), there.2)

  kept_if : (b : Bool) (x y : X) (xs : List X) → b ≡ true → x ≡ y → Contains (cond b (x ∷ xs) xs) y
  kept_if true x y xs is same = subst (λ (z : X). Contains (x ∷ xs) z) same (first_in x xs)
  kept_if false x y xs is same = absurd (cc is)

  still_if : (b : Bool) (x y : X) (xs : List X) → Contains xs y → Contains (cond b (x ∷ xs) xs) y
  still_if true x y xs there = later_in x y xs there
  still_if false x y xs there = there

  in_filter : (test : X → Bool) (xs : List X) (y : X) → Contains xs y → test y ≡ true → Contains (filter test xs) y
  in_filter test [] y there is = absurd (omega (arith, there.1))
  in_filter test (x ∷ xs) y (zero, lt, at) is = kept_if (test x) x y (filter test xs) (ap test at ∙ is) at
  in_filter test (x ∷ xs) y (suc i, lt, at) is = still_if (test x) x y (filter test xs) (in_filter test xs y (i, omega (arith, lt), at) is)

  in_one : (x y : X) → Contains (x ∷ []) y → y ≡ x
  in_one x y (zero, lt, at) = sym at
  in_one x y (suc i, lt, at) = absurd (omega (arith, lt))

  -- where one thing alone meets a test, what meets it is that
  pub the_one : (test : X → Bool) (xs : List X) (x y : X) → filter test xs ≡ x ∷ [] → Contains xs y → test y ≡ true → y ≡ x
  the_one test xs x y one there is = in_one x y (subst (λ l. Contains l y) one (in_filter test xs y there is))

-- what stands at a place
pub at_index : {X : Type 0} (xs : List X) (i : ℕ) (x : X) → i < length xs → x ≡ get_or xs i x → slice_get xs i ≡ Some x
at_index [] i x lt is = absurd (omega (arith, lt))
at_index (y ∷ xs) zero x lt is = ap (λ z. Some z) (sym is)
at_index (y ∷ xs) (suc i) x lt is = at_index xs i x (omega (arith, lt)) is

-- what one of them gives is among all that they give
pub in_gathered : {X Y : Type 0} (f : X → List Y) (xs before after : List X) (x : X) (y : Y) → xs ≡ before ++ x ∷ after → f x ≡ y ∷ [] → Contains (flat_map f xs) y
in_gathered f xs before after x y is one =
    let gathered : flat_map f xs ≡ flat_map f before ++ (f x ++ flat_map f after) = ap (flat_map f) is ∙ flat_map-append f before (x ∷ after) in
    let there : Contains (f x ++ flat_map f after) y = subst (λ l. Contains (l ++ flat_map f after) y) (sym one) (first_in y (flat_map f after)) in
    subst (λ l. Contains l y) (sym gathered) (Contains-append_right (flat_map f before) (f x ++ flat_map f after) y there)

-- one list of lists more
pub gathered_push : {X Y : Type 0} (f : X → List Y) (xs : List X) (x : X) → flat_map f (xs ++ x ∷ []) ≡ flat_map f xs ++ f x
gathered_push f xs x = flat_map-append f xs (x ∷ []) ∙ ap (λ l. flat_map f xs ++ l) (append-nil (f x))

module _ {X : Type 0} where
  -- a part of a part of a list
  pub within_parts : (xs a b c d e f : List X) → xs ≡ a ++ (b ++ c) → b ≡ d ++ e → e ≡ f → xs ≡ (a ++ d) ++ (f ++ c)
  within_parts xs a b c d e f whole part is =
      whole ∙ ap (λ l. a ++ (l ++ c)) (part ∙ ap (λ l. d ++ l) is) ∙ ap (λ l. a ++ l) (append_assoc d f c) ∙ sym (append_assoc a d (f ++ c))

-- what holds of each thing of a list holds of each in its front
pub all_front : {X : Type 0} (P : X → Type 0) (xs ys : List X) → All P (xs ++ ys) → All P xs
all_front P xs ys all = λ i d lt. subst P (get_or_append_left xs ys d i lt) (all i d (omega (arith, lt, length-append xs ys)))
