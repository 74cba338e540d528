-- Fewer teams run once one is gone.
use Rattle.std.proofs.Common.{◌<◌, ◌≤◌, ℕ, suc, ◌⊎◌, inl, inr, Bool, true, false, cond, List, [], ◌∷◌, length, refl, arith}
use Rattle.std.specs.Prelude.{IsTrue, filter, not, ◌||◌}
use Rattle.std.specs.List.{list_any}
use Rattle.std.proofs.lemmas.Bool.{false≢true}

module _ {A : Type 0} (test : A → Bool) where
  step : (b : Bool) (x : A) (kept : List A) (n : ℕ) → length kept ≤ n → (IsTrue b ⊎ (length kept < n)) → length (cond (not b) (x ∷ kept) kept) < suc n
  step true x kept n most h = omega arith
  step false x kept n most (inr h) = omega arith
  step false x kept n most (inl h) = absurd (false≢true h)

  not_more : (b : Bool) (x : A) (kept : List A) (n : ℕ) → length kept ≤ n → length (cond (not b) (x ∷ kept) kept) ≤ suc n
  not_more true x kept n most = omega arith
  not_more false x kept n most = omega arith

  at_most : (xs : List A) → length (filter (λ x. not (test x)) xs) ≤ length xs
  at_most [] = omega arith
  at_most (x ∷ xs) = not_more (test x) x (filter (λ y. not (test y)) xs) (length xs) (at_most xs)

  either : (a b : Bool) → IsTrue (a || b) → IsTrue a ⊎ IsTrue b
  either true b h = inl refl
  either false b h = inr h

  pub fewer : (xs : List A) → IsTrue (list_any test xs) → length (filter (λ x. not (test x)) xs) < length xs
  fewer [] h = absurd (false≢true h)
  fewer (x ∷ xs) h =
      step (test x) x (filter (λ y. not (test y)) xs) (length xs) (at_most xs)
      (elim (either (test x) (list_any test xs) h) [ inl a ↦ inl a | inr b ↦ inr (fewer xs b) ])
