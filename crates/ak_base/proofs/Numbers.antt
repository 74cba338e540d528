-- What the texts of whole numbers have in common, and that a text has one number.
use Rattle.std.proofs.Common.{◌≡◌, ◌≢◌, ℕ, zero, suc, ◌<◌, ◌≤◌, ◌∷◌, List, length, sym, ap, ◌∙◌, arith, pos, negsuc, neg_ℤ, ℤ, drop, get_or, refl}
use Rattle.std.specs.Prelude.{unsigned_abs, Option, Some, None, IfNone}
use Rattle.std.specs.Fmt.{decimal}
use Rattle.ak_base.specs.Number.{IsIntText, OneIntText, PrintedIntsAreRead}
use Rattle.ak_base.proofs.Digits.{decimal_injective_short, decimal-ne_minus, short_from_below, IsForm-decimal}

pub one_int_text : OneIntText
one_int_text text (pos m) (pos n) p q = ap pos (decimal_injective_short m n p.short q.short (sym p.printed ∙ q.printed))
one_int_text text (pos m) (negsuc n) p q = absurd (decimal-ne_minus m _ p.short (sym p.printed ∙ q.printed))
one_int_text text (negsuc m) (pos n) p q = absurd (decimal-ne_minus n _ q.short (sym q.printed ∙ p.printed))
one_int_text text (negsuc m) (negsuc n) p q = ap negsuc (omega (arith, decimal_injective_short (suc m) (suc n) p.short q.short (ap (drop 1) (sym p.printed ∙ q.printed))))

pub printed_ints_are_read : PrintedIntsAreRead
printed_ints_are_read z below = record { printed = refl; short = short_from_below (unsigned_abs z) below }

-- the number below 0 with the digits of n
pub text_below_zero : (ds : List ℕ) (n : ℕ) → ds ≡ decimal n → length ds ≤ 20 → 0 < n → IsIntText (45 ∷ ds) (neg_ℤ (pos n))
text_below_zero ds zero e short some = absurd (omega arith)
text_below_zero ds (suc n) e short some = record { printed = ap (λ x. 45 ∷ x) e; short = omega (arith, ap length e) }

-- the text of a number below 0 has the digits of a number that is not 0
pub minus_text : (ds : List ℕ) (z : ℤ) → IsIntText (45 ∷ ds) z → (n : ℕ) × (0 < n) × (ds ≡ decimal n) × (length ds ≤ 20)
minus_text ds (pos n) t = absurd (decimal-ne_minus n ds t.short (sym t.printed))
minus_text ds (negsuc n) t = let e = ap (drop 1) t.printed in (suc n, omega arith, e, omega (arith, t.short, ap length e))

-- a text that does not begin with a `-` is the text of no number below 0
pub plain_text : (text : List ℕ) (z : ℤ) → get_or text 0 0 ≢ 45 → IsIntText text z → (n : ℕ) × (z ≡ pos n)
plain_text text (pos n) plain t = (n, refl)
plain_text text (negsuc n) plain t = absurd (plain (ap (λ x. get_or x 0 0) t.printed))

pub text_nonempty : (text : List ℕ) (z : ℤ) → IsIntText text z → 0 < length text
text_nonempty text (pos n) t = omega (arith, ap length t.printed, (IsForm-decimal n t.short).some)
text_nonempty text (negsuc n) t = omega (arith, ap length t.printed)

-- what follows where there is nothing
pub IfNone_then : {X : Type 0} (r : Option X) (P Q : Type 0) → IfNone r P → (P → Q) → IfNone r Q
IfNone_then None P Q h f = f h
IfNone_then (Some x) P Q h f = h

pub no_minus_zero : (ds : List ℕ) (n : ℕ) (z : ℤ) → ds ≡ decimal n → length ds ≤ 20 → n ≡ 0 → IsIntText (45 ∷ ds) z → ⊥
no_minus_zero ds n z e short zero_is t =
    let m = minus_text ds z t in
    omega (arith, m.1, decimal_injective_short n m.0 (omega (arith, ap length e)) (omega (arith, ap length m.2)) (sym e ∙ m.2))
