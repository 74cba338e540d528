-- The first line of a file, and those behind it.
use Rattle.std.proofs.Common.{◌≡◌, ℕ, suc, ◌+◌, ◌<◌, ◌≤◌, ◌==◌, Bool, true, false, nat_lt, cond, if◌then◌else◌, List, [], ◌∷◌, None, Some, length, take, drop, position, refl, sym, ap, subst, ◌∙◌, arith}
use Rattle.std.specs.List.{position_or_len}
use Rattle.std.proofs.lemmas.List.{take_rest}
use Rattle.std.proofs.lemmas.List.Recursion.{is_position_or_len}
use Rattle.std.proofs.Math.Seq.{take-length}
use Rattle.std.proofs.Math.ListN.{drop_of_length-le}
use Rattle.rows.specs.Lines.{lines_of, with_byte}

abbrev ends_line : ℕ → Bool
ends_line b = b == 10

abbrev line_len : List ℕ → ℕ
line_len [] = 0
line_len (b ∷ rest) = cond (ends_line b) 0 (suc (line_len rest))

-- ---- it is where the first LF stands
one_more : (b : Bool) (n : ℕ) → cond b 0 (suc n) ≡ cond b 0 (1 + n)
one_more b n = ap (λ (k : ℕ). cond b 0 k) (omega arith)

is_line_len : (xs : List ℕ) → line_len xs ≡ position_or_len ends_line xs
is_line_len xs = is_position_or_len line_len ends_line refl (λ y ys. one_more (ends_line y) (line_len ys)) xs

within_by : (b : Bool) (n m : ℕ) → n ≤ m → cond b 0 (suc n) ≤ suc m
within_by true n m le = omega arith
within_by false n m le = omega (arith, le)

within : (xs : List ℕ) → line_len xs ≤ length xs
within [] = omega arith
within (x ∷ xs) = within_by (ends_line x) (line_len xs) (length xs) (within xs)

found_by : (n m end : ℕ) (b : Bool) → cond b (Some n) None ≡ Some end → n ≡ end
found_by n m end true e = cc
found_by n m end false e = absurd cc

none_by : (n m : ℕ) (b : Bool) → b ≡ nat_lt n m → cond b (Some n) None ≡ None → n ≤ m → n ≡ m
none_by n m true is e le = absurd cc
none_by n m false is e le = grind (arith, is, le)

-- ---- the lines behind it
by_byte : (b : Bool) (x : ℕ) (xs : List ℕ) (n : ℕ) → with_byte x (lines_of xs) ≡ (x ∷ take n xs) ∷ lines_of (drop (suc n) xs) → (if b then [] ∷ lines_of xs else with_byte x (lines_of xs)) ≡ take (cond b 0 (suc n)) (x ∷ xs) ∷ lines_of (drop (suc (cond b 0 (suc n))) (x ∷ xs))
by_byte true x xs n h = refl
by_byte false x xs n h = h

parts : (x : ℕ) (xs : List ℕ) → lines_of (x ∷ xs) ≡ take (line_len (x ∷ xs)) (x ∷ xs) ∷ lines_of (drop (suc (line_len (x ∷ xs))) (x ∷ xs))
parts x [] = by_byte (ends_line x) x [] 0 refl
parts x (y ∷ ys) = by_byte (ends_line x) x (y ∷ ys) (line_len (y ∷ ys)) (ap (with_byte x) (parts y ys))

pub parted_at : (text : List ℕ) (end : ℕ) → 0 < length text → position ends_line text ≡ Some end → lines_of text ≡ take end text ∷ lines_of (drop (end + 1) text)
parted_at [] end lt e = absurd (omega (arith, lt))
parted_at (x ∷ xs) end lt e =
    let n : line_len (x ∷ xs) ≡ end = is_line_len (x ∷ xs) ∙ found_by _ (length (x ∷ xs)) end _ e in
    let more : suc end ≡ end + 1 = omega arith in
    subst (λ (k : ℕ). lines_of (x ∷ xs) ≡ take end (x ∷ xs) ∷ lines_of (drop k (x ∷ xs))) more (subst (λ (k : ℕ). lines_of (x ∷ xs) ≡ take k (x ∷ xs) ∷ lines_of (drop (suc k) (x ∷ xs))) n (parts x xs))

pub whole : (text : List ℕ) → 0 < length text → position ends_line text ≡ None → lines_of text ≡ text ∷ []
whole [] lt e = absurd (omega (arith, lt))
whole (x ∷ xs) lt e =
    let n : line_len (x ∷ xs) ≡ length (x ∷ xs) = none_by _ (length (x ∷ xs)) _ refl (subst (λ (k : ℕ). cond (nat_lt k (length (x ∷ xs))) (Some k) None ≡ None) (sym (is_line_len (x ∷ xs))) e) (within (x ∷ xs)) in
    let long : length (x ∷ xs) ≤ suc (length (x ∷ xs)) = omega arith in
    let over : drop (suc (length (x ∷ xs))) (x ∷ xs) ≡ [] = drop_of_length-le (x ∷ xs) long in
    parts x xs
    ∙ ap (λ (k : ℕ). take k (x ∷ xs) ∷ lines_of (drop (suc k) (x ∷ xs))) n
    ∙ ap (λ (l : List ℕ). l ∷ lines_of (drop (suc (length (x ∷ xs))) (x ∷ xs))) (take-length (x ∷ xs))
    ∙ ap (λ (l : List ℕ). (x ∷ xs) ∷ lines_of l) over

pub ruleset parted = (parted_at, whole, take_rest)
