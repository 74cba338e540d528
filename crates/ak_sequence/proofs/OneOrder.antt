-- Lists in one order, and with the same things of each rank: they are one list.
use Rattle.std.proofs.Common.{◌≡◌, ◌∙◌, ℕ, suc, ◌<◌, ◌≤◌, Bool, true, false, not, ◌&&◌, cond, List, [], ◌∷◌, length, get_or, filter, IsSortedBy, refl, sym, ap, ⊎_elim, arith}
use Rattle.std.specs.Cmp.{IsStrictWeakOrder}
use Rattle.std.specs.List.Sorted.{ties}
use Rattle.std.proofs.lemmas.Bool.{cases_Bool}
use Rattle.std.proofs.lemmas.List.Sorted.{sorted_far}

module _ {X : Type 0} where
  -- what stands behind one thing, whether it was left out of both lists or of none
  pub same_rest : (b : Bool) (x : X) (xs ys : List X) → cond b (x ∷ xs) xs ≡ cond b (x ∷ ys) ys → xs ≡ ys
  same_rest true x xs ys e = cc
  same_rest false x xs ys e = e

not_both : (b : Bool) → (b ≡ true → b ≡ false) → not b && not b ≡ true
not_both true h = sym (h refl)
not_both false h = refl

not_tied : (a b : Bool) → (a ≡ false → ⊥) → not a && not b ≡ false
not_tied true b h = refl
not_tied false b h = absurd (h refl)

not_tied_back : (a b : Bool) → (b ≡ false → ⊥) → not a && not b ≡ false
not_tied_back true b h = refl
not_tied_back false true h = refl
not_tied_back false false h = absurd (h refl)

tied : (a b : Bool) → a ≡ false → b ≡ false → not a && not b ≡ true
tied a b p q = ap (λ c. not c && not b) p ∙ ap not q

module _ {X : Type 0} (lt : X → X → Bool) where
  -- none of those is before that one
  abbrev pub Above : X → List X → Type 0
  Above x [] = Unit {0}
  Above x (y ∷ ys) = (lt y x ≡ false) × Above x ys

  -- none is before one that stands ahead of it
  abbrev pub Up : List X → Type 0
  Up [] = Unit {0}
  Up (x ∷ xs) = Above x xs × Up xs

  above_of : (x : X) (xs : List X) → ((k : ℕ) → k < length xs → lt (get_or xs k x) x ≡ false) → Above x xs
  above_of x [] h = tt
  above_of x (y ∷ ys) h = (h 0 (omega arith), above_of x ys (λ k p. h (suc k) (omega arith)))

  up_of : (xs : List X) → ((i j : ℕ) (d : X) → i ≤ j → j < length xs → lt (get_or xs j d) (get_or xs i d) ≡ false) → Up xs
  up_of [] h = tt
  up_of (x ∷ xs) h = (above_of x xs (λ k p. h 0 (suc k) x (omega arith) (omega arith)), up_of xs (λ i j d p q. h (suc i) (suc j) d (omega arith) (omega arith)))

  above_if : (x y : X) (ys : List X) (b : Bool) → lt y x ≡ false → Above x ys → Above x (cond b (y ∷ ys) ys)
  above_if x y ys true p q = (p, q)
  above_if x y ys false p q = q

  pub above_kept : (t : X → Bool) (x : X) (xs : List X) → Above x xs → Above x (filter t xs)
  above_kept t x [] h = tt
  above_kept t x (y ∷ ys) h = above_if x y (filter t ys) (t y) h.0 (above_kept t x ys h.1)

  up_if : (x : X) (xs : List X) (b : Bool) → Above x xs → Up xs → Up (cond b (x ∷ xs) xs)
  up_if x xs true p q = (p, q)
  up_if x xs false p q = q

  pub up_kept : (t : X → Bool) (xs : List X) → Up xs → Up (filter t xs)
  up_kept t [] h = tt
  up_kept t (x ∷ xs) h = up_if x (filter t xs) (t x) (above_kept t x xs h.0) (up_kept t xs h.1)

  module _ (o : IsStrictWeakOrder lt) where
    pub up_sorted : (xs : List X) → IsSortedBy lt xs → Up xs
    up_sorted xs sorted = up_of xs (sorted_far lt o xs sorted)

    -- of each rank the two lists have the same
    abbrev pub SameTies : List X → List X → Type 0
    SameTies xs ys = (x : X) → filter (ties lt x) xs ≡ filter (ties lt x) ys

    first_ties : (x : X) (xs : List X) → filter (ties lt x) (x ∷ xs) ≡ x ∷ filter (ties lt x) xs
    first_ties x xs = ap (λ b. cond b (x ∷ filter (ties lt x) xs) (filter (ties lt x) xs)) (not_both (lt x x) (o.one_way x x))

    none_ties : (x y : X) (ys : List X) → lt x y ≡ true → Above y ys → filter (ties lt x) ys ≡ []
    none_ties x y [] before above = refl
    none_ties x y (z ∷ ys) before above =
        ap (λ b. cond b (z ∷ filter (ties lt x) ys) (filter (ties lt x) ys))
        (not_tied (lt x z) (lt z x) (λ e. let no : lt x y ≡ false = o.chain x z y e above.0 in absurd (cc (no, before))))
        ∙ none_ties x y ys before above.1

    -- so has one that is before the first of the other list
    nothing : (x y : X) (xs ys : List X) → lt x y ≡ true → Above y ys → SameTies (x ∷ xs) (y ∷ ys) → ⊥
    nothing x y xs ys before above same =
        let self : lt y y ≡ false = irreflexive (lt y y) (o.one_way y y) in
        let none : filter (ties lt x) (y ∷ ys) ≡ [] = none_ties x y (y ∷ ys) before (self, above) in
        let clash : x ∷ filter (ties lt x) xs ≡ [] = sym (first_ties x xs) ∙ same x ∙ none in
        absurd (cc clash)
      where
        irreflexive : (b : Bool) → (b ≡ true → b ≡ false) → b ≡ false
        irreflexive true h = h refl
        irreflexive false h = refl

    same_first : (x y : X) (xs ys : List X) → lt x y ≡ false → lt y x ≡ false → SameTies (x ∷ xs) (y ∷ ys) → x ≡ y
    same_first x y xs ys p q same =
        let at_y : filter (ties lt x) (y ∷ ys) ≡ y ∷ filter (ties lt x) ys = ap (λ b. cond b (y ∷ filter (ties lt x) ys) (filter (ties lt x) ys)) (tied (lt x y) (lt y x) p q) in
        let both : x ∷ filter (ties lt x) xs ≡ y ∷ filter (ties lt x) ys = sym (first_ties x xs) ∙ same x ∙ at_y in
        cc both

    first : (x y : X) (xs ys : List X) → Above x xs → Above y ys → SameTies (x ∷ xs) (y ∷ ys) → x ≡ y
    first x y xs ys above_x above_y same =
        ⊎_elim
        (λ (e : lt x y ≡ true). absurd (nothing x y xs ys e above_y same))
        (λ (p : lt x y ≡ false).
        ⊎_elim
        (λ (e : lt y x ≡ true). absurd (nothing y x ys xs e above_x (λ z. sym (same z))))
        (λ (q : lt y x ≡ false). same_first x y xs ys p q same)
        (cases_Bool (lt y x)))
        (cases_Bool (lt x y))

    pub one_list : (xs ys : List X) → Up xs → Up ys → SameTies xs ys → xs ≡ ys
    one_list [] [] up_x up_y same = refl
    one_list [] (y ∷ ys) up_x up_y same = let clash : [] ≡ y ∷ filter (ties lt y) ys = same y ∙ first_ties y ys in absurd (cc clash)
    one_list (x ∷ xs) [] up_x up_y same = let clash : x ∷ filter (ties lt x) xs ≡ [] = sym (first_ties x xs) ∙ same x in absurd (cc clash)
    one_list (x ∷ xs) (y ∷ ys) up_x up_y same =
        let e : x ≡ y = first x y xs ys up_x.0 up_y.0 same in
        let rest : SameTies xs ys = λ z. same_rest (ties lt z x) x (filter (ties lt z) xs) (filter (ties lt z) ys)
        (same z ∙ ap (λ (w : X). cond (ties lt z w) (w ∷ filter (ties lt z) ys) (filter (ties lt z) ys)) (sym e)) in
        ap (λ (w : X). w ∷ xs) e ∙ ap (λ (l : List X). y ∷ l) (one_list xs ys up_x.1 up_y.1 rest)
