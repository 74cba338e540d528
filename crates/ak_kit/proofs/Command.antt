-- The number of a command.
use Rattle.std.proofs.Common.{◌≡◌, ◌≢◌, ℕ, ◌≤◌, ℤ, pos, List, length, Option, Some, None, sym, ap, ◌∙◌, subst, arith}
use Rattle.std.specs.Prelude.{IfSome, IfNone}
use Rattle.std.specs.Fmt.{decimal}
use Rattle.ak_base.specs.Number.{IsIntText, OneIntText, PrintedIntsAreRead}

-- a small number in decimal is the text of it
small_text : PrintedIntsAreRead → (digits : List ℕ) (n : ℕ) → n ≤ 500 → digits ≡ decimal n → IsIntText digits (pos n)
small_text law digits n few is = subst (λ (d : List ℕ). IsIntText d (pos n)) (sym is) (law (pos n) (omega arith))

-- what is the text of no number is no small number in decimal
pub no_number : PrintedIntsAreRead → (digits : List ℕ) → ((z : ℤ) → IsIntText digits z → ⊥) → (n : ℕ) → n ≤ 500 → digits ≡ decimal n → ⊥
no_number law digits none n few is = none (pos n) (small_text law digits n few is)

-- the text of a number is no other number in decimal
same_number : OneIntText → (digits : List ℕ) (z : ℤ) → IsIntText digits z → (n : ℕ) → z ≡ pos n → (m : ℕ) → digits ≡ decimal m → m ≡ n
same_number one digits z text n number m is =
    let of_n : IsIntText digits (pos n) = subst (IsIntText digits) number text in
    let short : length (decimal m) ≤ 20 = omega (arith, ap length (sym is ∙ of_n.printed), of_n.short) in
    let same : pos m ≡ pos n = one digits (pos m) (pos n) (record { printed = is; short = short }) of_n in
    cc

-- a number that was read and taken, if it was, is the only one
pub only_number : OneIntText → (digits : List ℕ) (z : ℤ) → IsIntText digits z → (taken : Option ℕ) → IfSome taken (λ n. z ≡ pos n) → IfSome taken (λ n. (m : ℕ) → digits ≡ decimal m → m ≡ n)
only_number one digits z text (Some n) same = same_number one digits z text n same
only_number one digits z text None same = tt

-- and if it was not, no small one was to be taken
pub none_taken
    : OneIntText → PrintedIntsAreRead → (digits : List ℕ) (z : ℤ) → IsIntText digits z → (taken : Option ℕ) → IfNone taken ((n : ℕ) → 1 ≤ n → n ≤ 500 → z ≢ pos n)
    → IfNone taken ((n : ℕ) → 1 ≤ n → n ≤ 500 → digits ≡ decimal n → ⊥)
none_taken one law digits z text (Some n) other = tt
none_taken one law digits z text None other = λ n from few is. other n from few (one digits z (pos n) text (small_text law digits n few is))
