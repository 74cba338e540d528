-- Each list can be put in order, such that of each rank it has the same things in the same order.
use Rattle.std.proofs.Common.{◌≡◌, ◌∙◌, ℕ, zero, suc, ◌+◌, ◌<◌, Bool, true, false, not, ◌&&◌, cond, List, [], ◌∷◌, length, get_or, filter, IsSortedBy, refl, ap, ⊎_elim, arith}
use Rattle.std.specs.Cmp.{IsStrictWeakOrder}
use Rattle.std.specs.List.Sorted.{IsStableBy, ties}
use Rattle.std.proofs.lemmas.Bool.{cases_Bool}
use Rattle.ak_sequence.proofs.OneOrder.{Above, Up}

-- not both of two things are kept, so it is the same which of them comes first
swapped : {X : Type 0} (a b : Bool) (x y : X) (xs : List X) → (a ≡ true → b ≡ true → ⊥) → cond b (y ∷ cond a (x ∷ xs) xs) (cond a (x ∷ xs) xs) ≡ cond a (x ∷ cond b (y ∷ xs) xs) (cond b (y ∷ xs) xs)
swapped true true x y xs never = absurd (never refl refl)
swapped true false x y xs never = refl
swapped false b x y xs never = refl

first_not : (a b : Bool) → not a && not b ≡ true → a ≡ false
first_not true b e = absurd (cc e)
first_not false b e = refl

second_not : (a b : Bool) → not a && not b ≡ true → b ≡ false
second_not true b e = absurd (cc e)
second_not false true e = absurd (cc e)
second_not false false e = refl

module _ {X : Type 0} (lt : X → X → Bool) (o : IsStrictWeakOrder lt) where
  -- a thing is put before the first that is not less than it
  abbrev put_in : X → List X → List X
  put_in x [] = x ∷ []
  put_in x (y ∷ ys) = cond (lt y x) (y ∷ put_in x ys) (x ∷ y ∷ ys)

  abbrev in_order : List X → List X
  in_order [] = []
  in_order (x ∷ xs) = put_in x (in_order xs)

  -- ---- of each rank there are the same
  module _ (z : X) where
    abbrev Same : List X → List X → Type 0
    Same xs ys = filter (ties lt z) xs ≡ filter (ties lt z) ys

    not_less : (x y : X) → lt y x ≡ true → ties lt z x ≡ true → ties lt z y ≡ true → ⊥
    not_less x y less at_x at_y =
        let no : lt y x ≡ false = o.chain y z x (second_not (lt z y) (lt y z) at_y) (first_not (lt z x) (lt x z) at_x) in
        absurd (cc (no, less))

    put_same : (x : X) (ys : List X) → Same (put_in x ys) (x ∷ ys)
    put_same x [] = refl
    put_same x (y ∷ ys) =
        ⊎_elim
        (λ (less : lt y x ≡ true).
        ap (λ b. filter (ties lt z) (cond b (y ∷ put_in x ys) (x ∷ y ∷ ys))) less
        ∙ ap (λ (l : List X). cond (ties lt z y) (y ∷ l) l) (put_same x ys)
        ∙ swapped (ties lt z x) (ties lt z y) x y (filter (ties lt z) ys) (not_less x y less))
        (λ (not_so : lt y x ≡ false). ap (λ b. filter (ties lt z) (cond b (y ∷ put_in x ys) (x ∷ y ∷ ys))) not_so)
        (cases_Bool (lt y x))

    all_same : (xs : List X) → Same (in_order xs) xs
    all_same [] = refl
    all_same (x ∷ xs) = put_same x (in_order xs) ∙ ap (λ (l : List X). cond (ties lt z x) (x ∷ l) l) (all_same xs)

  -- ---- none is before one that stands ahead of it
  above_from : (x y : X) (ys : List X) → lt y x ≡ false → Above lt y ys → Above lt x ys
  above_from x y [] not_so above = tt
  above_from x y (z ∷ zs) not_so above = (o.chain z y x above.0 not_so, above_from x y zs not_so above.1)

  above_either : (b : Bool) (w : X) (xs ys : List X) → Above lt w xs → Above lt w ys → Above lt w (cond b xs ys)
  above_either true w xs ys p q = p
  above_either false w xs ys p q = q

  above_put : (w x : X) (ys : List X) → lt x w ≡ false → Above lt w ys → Above lt w (put_in x ys)
  above_put w x [] not_so above = (not_so, tt)
  above_put w x (y ∷ ys) not_so above = above_either (lt y x) w (y ∷ put_in x ys) (x ∷ y ∷ ys) (above.0, above_put w x ys not_so above.1) (not_so, above)

  up_either : (b : Bool) (xs ys : List X) → (b ≡ true → Up lt xs) → (b ≡ false → Up lt ys) → Up lt (cond b xs ys)
  up_either true xs ys p q = p refl
  up_either false xs ys p q = q refl

  up_put : (x : X) (ys : List X) → Up lt ys → Up lt (put_in x ys)
  up_put x [] up = (tt, tt)
  up_put x (y ∷ ys) up =
      up_either (lt y x) (y ∷ put_in x ys) (x ∷ y ∷ ys)
      (λ (less : lt y x ≡ true). (above_put y x ys (o.one_way y x less) up.0, up_put x ys up.1))
      (λ (not_so : lt y x ≡ false). ((not_so, above_from x y ys not_so up.0), up))

  up_all : (xs : List X) → Up lt (in_order xs)
  up_all [] = tt
  up_all (x ∷ xs) = up_put x (in_order xs) (up_all xs)

  -- so none is before its neighbour
  up_is_sorted : (xs : List X) → Up lt xs → (k j : ℕ) (d : X) → j ≡ k + 1 → j < length xs → lt (get_or xs j d) (get_or xs k d) ≡ false
  up_is_sorted [] up k j d next less = absurd (omega arith)
  up_is_sorted (x ∷ []) up k j d next less = absurd (omega arith)
  up_is_sorted (x ∷ y ∷ ys) up zero zero d next less = absurd (omega arith)
  up_is_sorted (x ∷ y ∷ ys) up zero (suc zero) d next less = up.0.0
  up_is_sorted (x ∷ y ∷ ys) up zero (suc (suc j)) d next less = absurd (omega arith)
  up_is_sorted (x ∷ y ∷ ys) up (suc k) zero d next less = absurd (omega arith)
  up_is_sorted (x ∷ y ∷ ys) up (suc k) (suc j) d next less = up_is_sorted (y ∷ ys) up.1 k j d (omega arith) (omega arith)

  pub one_in_order : (xs : List X) → (ys : List X) × IsSortedBy lt ys × IsStableBy lt xs ys
  one_in_order xs = (in_order xs, λ k d low less. up_is_sorted (in_order xs) (up_all xs) k (k + 1) d refl less, λ z. all_same z xs)
