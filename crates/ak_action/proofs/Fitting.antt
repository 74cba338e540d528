-- What is tested of a looper's place among the loopers of its application.
use Rattle.std.proofs.Common.{◌≡◌, ◌≢◌, ℕ, suc, ◌+◌, ◌-◌, ◌≤◌, Bool, true, false, ◌||◌, List, [], ◌∷◌, length, take, drop, get_or, All, AllPairs, Some, bytes_eq, slice_get, refl, sym, ap, subst, ◌∙◌, arith}
use Rattle.std.proofs.lemmas.List.{take_rest}
use Rattle.std.proofs.lemmas.List.Elements.{All-nil, All-cons, All-head, All-tail}
use Rattle.std.proofs.lemmas.List.Kept.{AllPairs-cons}
use Rattle.std.proofs.lemmas.Slice.Eq.{bytes_eq-Decides}
use Rattle.ak_action.specs.declared.plan.PlanParts.{PlanParts}
use Rattle.ak_action.specs.Opening.{FitsPlace, contains, knows_loopers}

-- ---- names that differ
other_than : (name other : List ℕ) → bytes_eq other name ≡ false → name ≢ other
other_than name other e same = let yes = (bytes_eq-Decides other name).1 (sym same) in absurd cc

neither : (a b : Bool) → (a || b) ≡ false → (a ≡ false) × (b ≡ false)
neither true b e = absurd cc
neither false b e = (refl, e)

others_differ : (name : List ℕ) (names : List (List ℕ)) → contains names name ≡ false → All (λ (other : List ℕ). name ≢ other) names
others_differ name [] e = All-nil (λ (other : List ℕ). name ≢ other)
others_differ name (other ∷ names) e =
    let both = neither (bytes_eq other name) (contains names name) e in
    All-cons (λ (x : List ℕ). name ≢ x) other names (other_than name other both.0) (others_differ name names both.1)

one_apart : (name : List ℕ) (names : List (List ℕ)) → contains names name ≡ false → AllPairs (λ (a b : List ℕ). a ≢ b) names → AllPairs (λ (a b : List ℕ). a ≢ b) (name ∷ names)
one_apart name names e apart = AllPairs-cons (λ (a b : List ℕ). a ≢ b) name names (others_differ name names e) apart

pub first_apart : (names : List (List ℕ)) (name word : List ℕ) (found : Bool) → 1 ≤ length names → name ≡ get_or names 0 name → word ≡ name → found ≡ contains (take (length names - 1) (drop 1 names)) word → found ≡ false → AllPairs (λ (a b : List ℕ). a ≢ b) (take (length names - 1) (drop 1 names)) → AllPairs (λ (a b : List ℕ). a ≢ b) names
first_apart [] name word found le is same finds none apart = absurd (omega (arith, le))
first_apart (n ∷ names) name word found le is same finds none apart =
    let rest : take (length (n ∷ names) - 1) (drop 1 (n ∷ names)) ≡ names = take_rest (n ∷ names) 1 in
    let free : contains names n ≡ false = ap (λ (l : List (List ℕ)). contains l n) (sym rest) ∙ ap (λ (w : List ℕ). contains (take (length (n ∷ names) - 1) (drop 1 (n ∷ names))) w) (sym (same ∙ is)) ∙ sym finds ∙ none in
    one_apart n names free (subst (λ (l : List (List ℕ)). AllPairs (λ (a b : List ℕ). a ≢ b) l) rest apart)

-- ---- the other way: among names that differ the first one is not among the others
not_so : (b : Bool) → (b ≡ true → ⊥) → b ≡ false
not_so true h = absurd (h refl)
not_so false h = refl

none_of : (a b : Bool) → a ≡ false → b ≡ false → (a || b) ≡ false
none_of true b e f = absurd cc
none_of false b e f = f

is_not : (name other : List ℕ) → name ≢ other → bytes_eq other name ≡ false
is_not name other ne = not_so (bytes_eq other name) (λ e. ne (sym ((bytes_eq-Decides other name).0 e)))

not_there : (name : List ℕ) (names : List (List ℕ)) → All (λ (other : List ℕ). name ≢ other) names → contains names name ≡ false
not_there name [] h = refl
not_there name (other ∷ names) h =
    none_of (bytes_eq other name) (contains names name) (is_not name other (All-head (λ (x : List ℕ). name ≢ x) other names h)) (not_there name names (All-tail (λ (x : List ℕ). name ≢ x) other names h))

others_apart : (name : List ℕ) (names : List (List ℕ)) → AllPairs (λ (a b : List ℕ). a ≢ b) (name ∷ names) → AllPairs (λ (a b : List ℕ). a ≢ b) names
others_apart name names h i j d before within = h (suc i) (suc j) d (omega (arith, before)) (omega (arith, within))

first_other : (name : List ℕ) (names : List (List ℕ)) → AllPairs (λ (a b : List ℕ). a ≢ b) (name ∷ names) → All (λ (other : List ℕ). name ≢ other) names
first_other name names h k d within = h 0 (suc k) d (omega arith) (omega (arith, within))

pub rest_apart : (names : List (List ℕ)) (name word : List ℕ) (found : Bool) → 1 ≤ length names → name ≡ get_or names 0 name → word ≡ name → found ≡ contains (take (length names - 1) (drop 1 names)) word → AllPairs (λ (a b : List ℕ). a ≢ b) names → (found ≡ false) × AllPairs (λ (a b : List ℕ). a ≢ b) (take (length names - 1) (drop 1 names))
rest_apart [] name word found le is same finds apart = absurd (omega (arith, le))
rest_apart (n ∷ names) name word found le is same finds apart =
    let rest : take (length (n ∷ names) - 1) (drop 1 (n ∷ names)) ≡ names = take_rest (n ∷ names) 1 in
    let seen : contains (take (length (n ∷ names) - 1) (drop 1 (n ∷ names))) word ≡ contains names n = ap (λ (l : List (List ℕ)). contains l word) rest ∙ ap (λ (w : List ℕ). contains names w) (same ∙ is) in
    (finds ∙ seen ∙ not_there n names (first_other n names apart), subst (λ (l : List (List ℕ)). AllPairs (λ (a b : List ℕ). a ≢ b) l) (sym rest) (others_apart n names apart))

-- ---- names that are the same
pub same_bytes : (a b : List ℕ) → bytes_eq a b ≡ true → a ≡ b
same_bytes a b e = (bytes_eq-Decides a b).0 e

pub bytes_same : (a b : List ℕ) → a ≡ b → bytes_eq a b ≡ true
bytes_same a b e = (bytes_eq-Decides a b).1 e

pub ruleset sameness = (same_bytes, bytes_same)

-- ---- the whole
pub fits_place : (parts : PlanParts) (first at : ℕ) (names : List (List ℕ)) → length names ≤ 8 → first + length names ≤ 32 → slice_get names at ≡ Some parts.name → AllPairs (λ (a b : List ℕ). a ≢ b) names → knows_loopers names parts.rows ≡ true → FitsPlace parts (first + at) first names
fits_place parts first at names some numbers named differ known =
    let place : at ≡ first + at - first = omega arith in
    record {
      some = some;
      differ = differ;
      numbers = numbers;
      at = omega arith;
      named = subst (λ (n : ℕ). slice_get names n ≡ Some parts.name) place named;
      known = known;
    }

pub fits_some : (parts : PlanParts) (first at : ℕ) (names : List (List ℕ)) → FitsPlace parts (first + at) first names → length names ≤ 8
fits_some parts first at names h = h.some

pub fits_numbers : (parts : PlanParts) (first at : ℕ) (names : List (List ℕ)) → FitsPlace parts (first + at) first names → first + length names ≤ 32
fits_numbers parts first at names h = h.numbers

pub fits_named : (parts : PlanParts) (first at : ℕ) (names : List (List ℕ)) → FitsPlace parts (first + at) first names → slice_get names at ≡ Some parts.name
fits_named parts first at names h =
    let place : first + at - first ≡ at = omega arith in
    subst (λ (n : ℕ). slice_get names n ≡ Some parts.name) place h.named

pub ruleset fitting = (fits_place, fits_some, fits_numbers, fits_named)
