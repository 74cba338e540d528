-- Digits of up to 64 places, and the number that they write.
use Rattle.std.proofs.Common.{◌≡◌, ◌≢◌, ℕ, zero, suc, ◌+◌, ◌-◌, ◌*◌, ◌/◌, ◌%◌, ◌^◌, ◌<◌, ◌≤◌, List, [], ◌∷◌, ◌++◌, length, get_or, cond, false, sym, ap, ◌∙◌, subst, ⊎_elim, arith, append_assoc, length-append, take, length-take}
use Rattle.std.specs.Char.{digit_value, IsNotAsciiDigit}
use Rattle.std.specs.Fmt.{digits, digits_onto, digit_glyph, decimal}
use Rattle.std.specs.Str.Parse.{AllDigits, digits_value, digits_value_after}
use Rattle.std.proofs.Math.ListN.{get_or-append}
use Rattle.std.proofs.lemmas.List.{append-nil}
use Rattle.std.proofs.Math.Nat.{pow-suc, one-le-pow, pow-le-pow_right}
use Rattle.std.proofs.lemmas.Bool.{cases_lt, ne_eqb}
use Rattle.std.proofs.lemmas.Fmt.{decimal_digit, decimal_step_wide, decimal_by_steps_wide, decimal_is_IsNumeral_wide, length-decimal-le_wide}
use Rattle.std.proofs.lemmas.Int.Digits.{digits_value-lt, digits_value_more}
use Rattle.std.proofs.lemmas.Str.{digit_value_digit}
use Rattle.std.proofs.lemmas.Str.Parse.{digit_from_value, digit_at}

-- a number of k digits or more has k of them written, if there is room for them
length_onto : (k n : ℕ) (acc : List ℕ) → 10 ^ k ≤ n → k + length acc ≤ length (digits_onto k 10 false n acc)
length_onto zero n acc large = omega arith
length_onto (suc k) n acc large =
    let d = digit_glyph false (n % 10) in
    let more : 10 ^ k ≤ n / 10 = omega (arith, pow-suc 10 k) in
    let some : n / 10 ≢ 0 = λ e. omega (arith, one-le-pow k 10 (omega arith)) in
    subst (λ t. suc k + length acc ≤ length (cond t (d ∷ acc) (digits_onto k 10 false (n / 10) (d ∷ acc)))) (sym (ne_eqb (n / 10) 0 some)) (omega (arith, length_onto k (n / 10) (d ∷ acc) more))

length-decimal_large : (n : ℕ) → 10 ^ 64 ≤ n → 64 ≤ length (decimal n)
unfolding digits
length-decimal_large n large = omega (arith, length_onto 64 n [] large)

-- a number that is written in 20 digits is below 10 ^ 20
pub below_from_short : (n : ℕ) → length (decimal n) ≤ 20 → n < 10 ^ 20
below_from_short n short = ⊎_elim
    (λ small. let r = decimal_is_IsNumeral_wide n small in omega (arith, r.1, digits_value-lt 10 (decimal n) r.0.1, pow-le-pow_right {n = 10} (omega arith) {i = length (decimal n)} {j = 20} short))
    (λ large. omega (arith, length-decimal_large n large))
    (cases_lt n (10 ^ 64))

pub short_from_below : (n : ℕ) → n < 10 ^ 20 → length (decimal n) ≤ 20
short_from_below n below = length-decimal-le_wide 20 n (omega arith) below (omega arith)

le_value_after : (n : ℕ) (ds : List ℕ) → n ≤ digits_value_after 10 n ds
le_value_after n [] = omega arith
le_value_after n (c ∷ cs) = omega (arith, le_value_after (n * 10 + digit_value c) cs)

decimal_value_after : (n : ℕ) (ds : List ℕ) → 0 < n → AllDigits 10 ds → digits_value_after 10 n ds < 10 ^ 64 → decimal (digits_value_after 10 n ds) ≡ decimal n ++ ds
decimal_value_after n [] some d small = sym (append-nil (decimal n))
decimal_value_after n (c ∷ cs) some d small =
    let m : ℕ = n * 10 + digit_value c in
    let k = digit_value_digit c (digit_from_value c d.0) in
    let front : m / 10 ≡ n = omega (arith, d.0) in
    let end : 48 + m % 10 ≡ c = omega (arith, d.0) in
    decimal_value_after m cs (omega arith) d.1 small
    ∙ ap (λ x. x ++ cs) (decimal_step_wide m (omega arith) (omega (arith, le_value_after m cs)) ∙ (λ i. decimal (front i) ++ (end i ∷ [])))
    ∙ append_assoc (decimal n) (c ∷ []) cs

-- digits with no leading zero, or just `0`, are what `decimal` writes of their value
decimal-digits_value_wide : (ds : List ℕ) → AllDigits 10 ds → 0 < length ds → (get_or ds 0 0 ≡ 48 → length ds ≡ 1) → digits_value 10 ds < 10 ^ 64 → decimal (digits_value 10 ds) ≡ ds
decimal-digits_value_wide [] d some lead small = absurd (omega arith)
decimal-digits_value_wide (c ∷ []) d some lead small =
    let k = digit_value_digit c (digit_from_value c d.0) in
    decimal_digit (0 * 10 + digit_value c) (omega (arith, d.0)) ∙ ap (λ x. x ∷ []) (omega arith)
decimal-digits_value_wide (c ∷ e ∷ cs) d some lead small =
    let k = digit_value_digit c (digit_from_value c d.0) in
    let no : c ≢ 48 = λ z. omega (arith, lead z) in
    let is : 48 + (0 * 10 + digit_value c) ≡ c = omega arith in
    decimal_value_after (0 * 10 + digit_value c) (e ∷ cs) (omega arith) d.1 small
    ∙ ap (λ x. x ++ (e ∷ cs)) (decimal_digit (0 * 10 + digit_value c) (omega (arith, d.0)) ∙ ap (λ x. x ∷ []) is)

-- at most 20 digits write a number below 10 ^ 20
pub value_below : (ds : List ℕ) → AllDigits 10 ds → length ds ≤ 20 → digits_value 10 ds < 10 ^ 20
value_below ds d short = omega (arith, digits_value-lt 10 ds d, pow-le-pow_right {n = 10} (omega arith) {i = length ds} {j = 20} short)

pub decimal_from_digits : (ds : List ℕ) → AllDigits 10 ds → 0 < length ds → length ds ≤ 20 → (get_or ds 0 0 ≡ 48 → length ds ≡ 1) → ds ≡ decimal (digits_value 10 ds)
decimal_from_digits ds d some short lead = sym (decimal-digits_value_wide ds d some lead (omega (arith, value_below ds d short)))

-- what is written of a number: digits, with no leading zero
pub record IsForm (ds : List ℕ) : Type 0 where
  pub digits : AllDigits 10 ds
  pub some : 0 < length ds
  pub lead : get_or ds 0 0 ≡ 48 → length ds ≡ 1

first_of_decimal : (n : ℕ) → n < 10 ^ 64 → (0 < length (decimal n)) × (0 < n → 48 < get_or (decimal n) 0 0)
first_of_decimal = decimal_by_steps_wide (λ m ds. (0 < length ds) × (0 < m → 48 < get_or ds 0 0)) (λ m l. (omega arith, λ a. omega arith))
    (λ m ds l h. (omega (arith, length-append ds ((48 + m % 10) ∷ [])), λ a. omega (arith, get_or-append ds ((48 + m % 10) ∷ []) 0 0 h.0, h.1 (omega arith))))

lead_of_decimal : (n : ℕ) → n < 10 ^ 64 → get_or (decimal n) 0 0 ≡ 48 → length (decimal n) ≡ 1
lead_of_decimal zero small e = ap length (decimal_digit 0 (omega arith))
lead_of_decimal (suc n) small e = absurd (omega (arith, (first_of_decimal (suc n) small).1 (omega arith)))

pub IsForm-decimal : (n : ℕ) → length (decimal n) ≤ 20 → IsForm (decimal n)
IsForm-decimal n short =
    let small : n < 10 ^ 64 = omega (arith, below_from_short n short) in
    let r = decimal_is_IsNumeral_wide n small in
    record { digits = r.0.1; some = r.0.0; lead = lead_of_decimal n small }

pub decimal_injective_short : (m n : ℕ) → length (decimal m) ≤ 20 → length (decimal n) ≤ 20 → decimal m ≡ decimal n → m ≡ n
decimal_injective_short m n p q e =
    sym (decimal_is_IsNumeral_wide m (omega (arith, below_from_short m p))).1 ∙ ap (digits_value 10) e
    ∙ (decimal_is_IsNumeral_wide n (omega (arith, below_from_short n q))).1

pub decimal-ne_minus : (n : ℕ) (ds : List ℕ) → length (decimal n) ≤ 20 → decimal n ≢ 45 ∷ ds
decimal-ne_minus n ds short e = omega (arith, digit_from_value 45 (subst (AllDigits 10) e (IsForm-decimal n short).digits).0)

-- the digits so far, and one more, which fits 128 bits
pub taken_below : (bs : List ℕ) (i : ℕ) → AllDigits 10 (take i bs) → i < length bs → length bs ≤ 20 → digits_value 10 (take i bs) < 10 ^ 19
taken_below bs i d within short =
    omega (arith, digits_value-lt 10 (take i bs) d, pow-le-pow_right {n = 10} (omega arith) {i = length (take i bs)} {j = 19} (omega (arith, length-take i bs)))

pub not_all_digits : (bs : List ℕ) (i : ℕ) → i < length bs → IsNotAsciiDigit (get_or bs i 0) → AllDigits 10 bs → ⊥
not_all_digits bs i within other d = let yes = digit_at bs i d within in grind arith

pub form_of : (ds : List ℕ) (n : ℕ) → ds ≡ decimal n → length ds ≤ 20 → IsForm ds
form_of ds n e short = subst IsForm (sym e) (IsForm-decimal n (omega (arith, ap length e)))

pub value_more : (bs : List ℕ) (i n d : ℕ) → i < length bs → n ≡ digits_value 10 (take i bs) → digit_value (get_or bs i 0) < 10 → d ≡ get_or bs i 0 - 48 → n * 10 + d ≡ digits_value 10 (take (i + 1) bs)
value_more bs i n d within so_far small is =
    omega (arith, digits_value_more 10 bs i within, digit_value_digit (get_or bs i 0) (digit_from_value (get_or bs i 0) small))

pub value_all : (bs : List ℕ) (i n : ℕ) → length bs ≤ i → length bs ≤ 20 → AllDigits 10 (take i bs) → n ≡ digits_value 10 (take i bs) → n < 10 ^ 20
value_all bs i n end short d is = omega (arith, value_below (take i bs) d (omega (arith, length-take i bs)))
