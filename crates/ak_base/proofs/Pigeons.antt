-- Where things that all differ are each among some others, there are no more of them than of those; and numbers that all differ and are below another one are no more than that.
use Rattle.std.proofs.Common.{◌≡◌, ◌≢◌, ℕ, zero, suc, ◌<◌, ◌≤◌, List, [], ◌∷◌, length, get_or, remove, All, AllPairs, Contains, refl, sym, ap, ⊎_elim, arith}
use Rattle.std.proofs.lemmas.Bool.{cases_eq}
use Rattle.std.proofs.lemmas.List.Edits.{length-remove}
use Rattle.std.proofs.lemmas.List.Elements.{All-head, All-weaker}
use Rattle.std.proofs.lemmas.List.Sorted.{IsPermutation-remove, Contains-permutation}

module _ {X : Type 0} where
  behind : (x y : X) (ys : List X) (k : ℕ) → k < length (x ∷ ys) → get_or (x ∷ ys) k y ≡ y → x ≢ y → Contains ys y
  behind x y ys zero lt e other = absurd (other e)
  behind x y ys (suc k) lt e other = (k, omega arith, e)

  -- what is there, and is not x, is there without x
  pub Contains-remove : (xs : List X) (x y : X) → (at : Contains xs x) → Contains xs y → x ≢ y → Contains (remove xs at.0) y
  Contains-remove xs x y at there other =
      let moved = Contains-permutation xs (x ∷ remove xs at.0) y (IsPermutation-remove xs at.0 x at.1 (sym at.2)) there in
      behind x y (remove xs at.0) moved.0 moved.1 moved.2 other

  pub pigeons : (xs ys : List X) → AllPairs (λ a b. a ≢ b) xs → All (λ x. Contains ys x) xs → length xs ≤ length ys
  pigeons [] ys differ there = omega arith
  pigeons (x ∷ xs) ys differ there =
      let at = All-head (λ x. Contains ys x) x xs there in
      let rest = pigeons xs (remove ys at.0)
      (λ i j d lt within. differ (suc i) (suc j) d (omega arith) (omega arith))
      (λ k d lt. Contains-remove ys x (get_or xs k d) at (there (suc k) d (omega arith)) (differ zero (suc k) d (omega arith) (omega arith))) in
      omega (arith, rest, length-remove ys at.0 at.1)

-- the numbers below another one
abbrev upto : ℕ → List ℕ
upto zero = []
upto (suc n) = n ∷ upto n

length-upto : (n : ℕ) → length (upto n) ≡ n
length-upto zero = refl
length-upto (suc n) = ap suc (length-upto n)

in_upto : (n p : ℕ) → p < n → Contains (upto n) p
in_upto zero p lt = absurd (omega arith)
in_upto (suc n) p lt =
    ⊎_elim
    (λ same. (zero, omega arith, sym same))
    (λ other. let there : p < n = omega (arith, other) in let r = in_upto n p there in (suc r.0, omega (arith, r.1), r.2))
    (cases_eq p n)

pub few_below : (n : ℕ) (xs : List ℕ) → AllPairs (λ a b. a ≢ b) xs → All (λ x. x < n) xs → length xs ≤ n
few_below n xs differ below =
    omega (arith, pigeons xs (upto n) differ (All-weaker (λ x. x < n) (λ x. Contains (upto n) x) (λ x lt. in_upto n x lt) xs below), length-upto n)
