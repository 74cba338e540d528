-- A list that is changed place by place from the front.
use Rattle.std.proofs.Common.{◌≡◌, ℕ, zero, suc, ◌+◌, List, [], ◌∷◌, ◌++◌, map, take, drop, refl, ap, ◌∙◌, arith}
use Rattle.ak_handler.specs.Rows.{changed_at}

module _ {X : Type 0} (f : X → X) where
  -- the first so many are changed, and the others are as they were
  abbrev pub so_far : List X → ℕ → List X
  so_far xs count = map f (take count xs) ++ drop count xs

  one_more : (xs : List X) (count : ℕ) → changed_at (so_far xs count) count f ≡ so_far xs (suc count)
  one_more [] zero = refl
  one_more [] (suc count) = refl
  one_more (x ∷ xs) zero = refl
  one_more (x ∷ xs) (suc count) = ap (λ l. f x ∷ l) (one_more xs count)

  pub so_far_more : (xs : List X) (count : ℕ) → changed_at (so_far xs count) count f ≡ so_far xs (count + 1)
  so_far_more xs count = let e : suc count ≡ count + 1 = omega arith in one_more xs count ∙ ap (so_far xs) e
