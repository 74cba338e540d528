-- Lists of which some things are kept.
use Rattle.std.proofs.Common.{◌≡◌, ◌∙◌, Bool, true, false, ◌&&◌, cond, List, [], ◌∷◌, map, filter, refl, sym, ap}

module _ {X : Type 0} where
  pub first_kept : (p : X → Bool) (x : X) (xs : List X) → p x ≡ true → filter p (x ∷ xs) ≡ x ∷ filter p xs
  first_kept p x xs e = ap (λ b. cond b (x ∷ filter p xs) (filter p xs)) e

  pub first_left : (p : X → Bool) (x : X) (xs : List X) → p x ≡ false → filter p (x ∷ xs) ≡ filter p xs
  first_left p x xs e = ap (λ b. cond b (x ∷ filter p xs) (filter p xs)) e

  kept_of_kept : (p : X → Bool) (b : Bool) (x : X) (xs : List X) → filter p (cond b (x ∷ xs) xs) ≡ cond b (cond (p x) (x ∷ filter p xs) (filter p xs)) (filter p xs)
  kept_of_kept p true x xs = refl
  kept_of_kept p false x xs = refl

  either_first : (a b : Bool) (x : X) (xs : List X) → cond b (cond a (x ∷ xs) xs) xs ≡ cond a (cond b (x ∷ xs) xs) xs
  either_first true true x xs = refl
  either_first true false x xs = refl
  either_first false true x xs = refl
  either_first false false x xs = refl

  -- in either order
  pub filter_swap : (p q : X → Bool) (xs : List X) → filter p (filter q xs) ≡ filter q (filter p xs)
  filter_swap p q [] = refl
  filter_swap p q (x ∷ xs) =
      kept_of_kept p (q x) x (filter q xs)
      ∙ ap (λ (l : List X). cond (q x) (cond (p x) (x ∷ l) l) l) (filter_swap p q xs)
      ∙ either_first (p x) (q x) x (filter q (filter p xs))
      ∙ sym (kept_of_kept q (p x) x (filter p xs))

  both_at_once : (a b : Bool) (x : X) (xs : List X) → cond (a && b) (x ∷ xs) xs ≡ cond a (cond b (x ∷ xs) xs) xs
  both_at_once true b x xs = refl
  both_at_once false b x xs = refl

  -- by two tests at once
  pub filter_both : (p q : X → Bool) (xs : List X) → filter (λ (x : X). p x && q x) xs ≡ filter q (filter p xs)
  filter_both p q [] = refl
  filter_both p q (x ∷ xs) =
      ap (λ (l : List X). cond (p x && q x) (x ∷ l) l) (filter_both p q xs)
      ∙ both_at_once (p x) (q x) x (filter q (filter p xs))
      ∙ sym (kept_of_kept q (p x) x (filter p xs))

module _ {X Y : Type 0} (p : Y → Bool) (f : X → Y) where
  map_if : (b : Bool) (x : X) (xs : List X) → cond b (f x ∷ map f xs) (map f xs) ≡ map f (cond b (x ∷ xs) xs)
  map_if true x xs = refl
  map_if false x xs = refl

  pub filter_map_swap : (xs : List X) → filter p (map f xs) ≡ map f (filter (λ (x : X). p (f x)) xs)
  filter_map_swap [] = refl
  filter_map_swap (x ∷ xs) = ap (λ (l : List Y). cond (p (f x)) (f x ∷ l) l) (filter_map_swap xs) ∙ map_if (p (f x)) x (filter (λ (y : X). p (f y)) xs)

  pub all_kept : ((x : X) → p (f x) ≡ true) → (xs : List X) → filter p (map f xs) ≡ map f xs
  all_kept h [] = refl
  all_kept h (x ∷ xs) = first_kept p (f x) (map f xs) (h x) ∙ ap (λ (l : List Y). f x ∷ l) (all_kept h xs)

  pub none_kept : ((x : X) → p (f x) ≡ false) → (xs : List X) → filter p (map f xs) ≡ []
  none_kept h [] = refl
  none_kept h (x ∷ xs) = first_left p (f x) (map f xs) (h x) ∙ none_kept h xs
