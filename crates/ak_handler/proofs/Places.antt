-- A list of which at most one element passes a test: the place of that one, and the list with it changed or without it.
use Rattle.std.proofs.Common.{◌≡◌, ℕ, zero, suc, ◌<◌, Bool, true, false, cond, not, ◌⊎◌, inl, inr, ⊎_elim, List, [], ◌∷◌, length, map, filter, find, remove, position, All, AllPairs, None, Some, refl, sym, ap, subst, one-add, arith, tests}
use Rattle.std.specs.List.{position_or_len, slice_get}
use Rattle.std.proofs.lemmas.List.Elements.{All-head, All-tail}
use Rattle.ak_handler.specs.Rows.{changed_at}

module _ {X : Type 0} (p : X → Bool) where
  -- no two elements pass
  abbrev pub IsAlone : List X → Type 0
  IsAlone xs = AllPairs (λ a b. p a ≡ true → p b ≡ false) xs

  -- the one element that passes stands at that place
  pub record IsAt (xs : List X) (place : ℕ) : Type 0 where
    pub within : place < length xs
    pub found : find p xs ≡ slice_get xs place
    pub changed : (f : X → X) → changed_at xs place f ≡ map (λ x. cond (p x) (f x) x) xs
    pub removed : remove xs place ≡ filter (λ x. not (p x)) xs

  -- no element passes
  pub record IsNowhere (xs : List X) : Type 0 where
    pub place : position_or_len p xs ≡ length xs
    pub none : find p xs ≡ None

  -- ---- where none passes
  kept : (x : X) (b : Bool) (xs ys : List X) → b ≡ false → ys ≡ xs → cond (not b) (x ∷ ys) ys ≡ x ∷ xs
  kept x true xs ys e h = absurd cc
  kept x false xs ys e h = ap (λ l. x ∷ l) h

  filter_none : (xs : List X) → All (λ x. p x ≡ false) xs → filter (λ x. not (p x)) xs ≡ xs
  filter_none [] h = refl
  filter_none (x ∷ xs) h =
      kept x (p x) xs (filter (λ x. not (p x)) xs) (All-head (λ x. p x ≡ false) x xs h) (filter_none xs (All-tail (λ x. p x ≡ false) x xs h))

  map_none : (f : X → X) (xs : List X) → All (λ x. p x ≡ false) xs → map (λ x. cond (p x) (f x) x) xs ≡ xs
  map_none f [] h = refl
  map_none f (x ∷ xs) h =
      let e : p x ≡ false = All-head (λ x. p x ≡ false) x xs h in
      rw e (ap (λ l. x ∷ l) (map_none f xs (All-tail (λ x. p x ≡ false) x xs h)))

  -- ---- the place
  behind : (x : X) (xs : List X) (b : Bool) → p x ≡ b → (b ≡ true → All (λ x. p x ≡ false) xs) → IsNowhere xs ⊎ IsAt xs (position_or_len p xs) → IsNowhere (x ∷ xs) ⊎ IsAt (x ∷ xs) (position_or_len p (x ∷ xs))
  behind x xs true e alone _ =
      inr (record {
        within = rw e (omega arith);
        found = rw e refl;
        changed = λ f. rw e (ap (λ l. f x ∷ l) (sym (map_none f xs (alone refl))));
        removed = rw e (sym (filter_none xs (alone refl)));
      })
  behind x xs false e alone (inl h) =
      inl (record { place = rw e (omega (arith, h.place)); none = rw e h.none })
  behind x xs false e alone (inr h) =
      inr (record {
        within = rw e (omega (arith, h.within));
        found = rw (e, one-add) h.found;
        changed = λ f. rw (e, one-add) (ap (λ l. x ∷ l) (h.changed f));
        removed = rw (e, one-add) (ap (λ l. x ∷ l) h.removed);
      })

  pub places : (xs : List X) → IsAlone xs → IsNowhere xs ⊎ IsAt xs (position_or_len p xs)
  places [] alone = inl (record { place = refl; none = refl })
  places (x ∷ xs) alone =
      behind x xs (p x) refl
      (λ e k d lt. alone zero (suc k) d (omega arith) (omega arith) e)
      (places xs (λ i j d lt within. alone (suc i) (suc j) d (omega arith) (omega arith)))

  place_is : (b : Bool) (n i : ℕ) → cond b (Some n) None ≡ Some i → (b ≡ true) × (n ≡ i)
  place_is true n i e = (refl, cc)
  place_is false n i e = absurd cc

  no_place : (b : Bool) (n : ℕ) → cond b (Some n) None ≡ None → b ≡ false
  no_place true n e = absurd cc
  no_place false n e = refl

  pub at_place : (xs : List X) (i : ℕ) → IsAlone xs → position p xs ≡ Some i → IsAt xs i
  at_place xs i alone e =
      let is = place_is _ _ _ e in
      ⊎_elim
      (λ none. absurd (grind (arith, tests, is.0, none.place)))
      (λ at. subst (IsAt xs) is.1 at)
      (places xs alone)

  pub nowhere : (xs : List X) → IsAlone xs → position p xs ≡ None → IsNowhere xs
  nowhere xs alone e =
      ⊎_elim
      (λ none. none)
      (λ at. absurd (grind (arith, tests, no_place _ _ e, at.within)))
      (places xs alone)
