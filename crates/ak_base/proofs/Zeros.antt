-- Bytes without a zero byte.
use Rattle.std.proofs.Common.{◌≡◌, ℕ, zero, suc, false, eqb, List, [], ◌∷◌, Contains, refl, arith}
use Rattle.std.specs.List.{list_any}
use Rattle.std.proofs.lemmas.Bool.{eq-eqb, ne_eqb, or_from, or_parts}

pub no_zero : (bytes : List ℕ) → list_any (λ b. eqb b 0) bytes ≡ false → Contains bytes 0 → ⊥
no_zero [] none c = omega (arith, c.1)
no_zero (b ∷ bytes) none (zero, lt, is) = let e = eq-eqb b 0 is in let n = (or_parts (eqb b 0) (list_any (λ x. eqb x 0) bytes) none).0 in absurd cc
no_zero (b ∷ bytes) none (suc i, lt, is) = no_zero bytes (or_parts (eqb b 0) (list_any (λ x. eqb x 0) bytes) none).1 (i, omega arith, is)

pub zero_in : (bytes : List ℕ) → (Contains bytes 0 → ⊥) → list_any (λ b. eqb b 0) bytes ≡ false
zero_in [] none = refl
zero_in (b ∷ bytes) none =
    or_from _ _ (ne_eqb b 0 (λ e. none (0, omega arith, e))) (zero_in bytes (λ c. none (suc c.0, omega (arith, c.1), c.2)))
