-- A search in the code's elements is the search in what contracts see of them, and no element has a number below zero as its id.
use Rattle.std.proofs.Common.{◌≡◌, ℕ, ℤ, pos, negsuc, List, [], ◌∷◌, length, None, refl, arith, tests}
use Rattle.std.specs.List.{position_or_len, position}
use Rattle.ak_value.specs.Elements.{ElementData}
use Rattle.ak_value.specs.Choice.{has_id, whole_of}
use Rattle.ak_value.specs.Laws.{NoneBelowZero}

passes_none : (n : ℕ) (xs : List ElementData) → position_or_len (has_id (negsuc n)) xs ≡ length xs
passes_none n [] = refl
passes_none n (x ∷ xs) = omega (arith, passes_none n xs)

pub no_such_id : (id : ℤ) (xs : List ElementData) → whole_of id ≡ None → position (has_id id) xs ≡ None
no_such_id (pos n) xs e = absurd cc
no_such_id (negsuc n) xs e = rw (passes_none n xs) (grind (arith, tests))

pub none_below_zero : NoneBelowZero
none_below_zero list i (pos n) = grind (arith, no_such_id (negsuc i) list refl)
none_below_zero list i (negsuc n) = grind (arith, no_such_id (negsuc i) list refl)
