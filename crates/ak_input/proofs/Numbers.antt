-- The text of a number in a range is read as that number.
use Rattle.std.proofs.Common.{◌≡◌, ℕ, suc, ◌^◌, ◌<◌, ◌≤◌, Bool, true, false, ◌&&◌, List, ◌++◌, length, ℤ, pos, negsuc, neg_ℤ, Option, Some, None, refl, sym, ap, ◌∙◌, arith, rules}
use Rattle.std.specs.Prelude.{◌==◌, int_le, unsigned_abs, codes}
use Rattle.std.specs.List.{starts_with}
use Rattle.std.specs.Str.{bytes_eq}
use Rattle.std.specs.Str.Parse.{digits_value}
use Rattle.std.specs.Fmt.{decimal, signed_decimal}
use Rattle.std.proofs.lemmas.Bool.Decides.{Decides-eqb}
use Rattle.std.proofs.lemmas.Fmt.{decimal_is_IsNumeral_wide}
use Rattle.std.proofs.lemmas.Slice.Eq.{bytes_eq-Decides, starts_is}
use Rattle.ak_base.specs.Number.{IsIntText}
use Rattle.ak_base.proofs.Surface.{below_from_short, short_from_below, decimal-ne_minus}
use Rattle.ak_input.specs.InputText.{IntsAreRead}
use Rattle.ak_base.specs.Option.{where_true}
use Rattle.ak_input.specs.Payload.{int_value, int_within}

digits_value-decimal : (n : ℕ) → length (decimal n) ≤ 20 → digits_value 10 (decimal n) ≡ n
digits_value-decimal n short = let below = below_from_short n short in (decimal_is_IsNumeral_wide n (omega arith)).1

not_minus : (text : List ℕ) → ((rest : List ℕ) → text ≡ codes "-" ++ rest → ⊥) → starts_with ◌==◌ text (codes "-") ≡ false
not_minus text none = by_test (starts_with ◌==◌ text (codes "-")) refl where
  by_test : (b : Bool) → starts_with ◌==◌ text (codes "-") ≡ b → starts_with ◌==◌ text (codes "-") ≡ false
  by_test true e = absurd (none _ ((starts_is Decides-eqb text (codes "-") (starts_with ◌==◌ text (codes "-")) refl).0 e))
  by_test false e = e

int_value-decimal : (n : ℕ) → length (decimal n) ≤ 20 → int_value (decimal n) ≡ pos n
int_value-decimal n short =
    rw (not_minus (decimal n) (λ rest. decimal-ne_minus n rest short)) (ap (λ (k : ℕ). pos k) (digits_value-decimal n short))

pub int_value-text : (text : List ℕ) (z : ℤ) → IsIntText text z → int_value text ≡ z
int_value-text text (pos n) is = ap int_value is.printed ∙ int_value-decimal n is.short
int_value-text text (negsuc n) is = ap int_value is.printed ∙ ap (λ (k : ℕ). neg_ℤ (pos k)) (digits_value-decimal (suc n) is.short)

-- a text that a number has
pub int_found : (low high : ℤ) (text : List ℕ) (z : ℤ) → IsIntText text z → int_within low high text ≡ where_true (int_le low z && int_le z high) z
unfolding int_within
int_found low high text z is =
    let same : bytes_eq (signed_decimal z) text ≡ true = (bytes_eq-Decides (signed_decimal z) text).1 (sym is.printed) in
    rw (int_value-text text z is, same) refl

short_within : (low high z : ℤ) → unsigned_abs low < 10 ^ 20 → unsigned_abs high < 10 ^ 20 → int_le low z ≡ true → int_le z high ≡ true → length (decimal (unsigned_abs z)) ≤ 20
short_within low (pos h) (pos n) small_low small_high over under = short_from_below n (grind (arith, rules))
short_within low (negsuc h) (pos n) small_low small_high over under = absurd cc
short_within (pos l) high (negsuc n) small_low small_high over under = absurd cc
short_within (negsuc l) high (negsuc n) small_low small_high over under = short_from_below (suc n) (grind (arith, rules))

-- a text that no number has
pub int_none : (low high : ℤ) (text : List ℕ) → unsigned_abs low < 10 ^ 20 → unsigned_abs high < 10 ^ 20 → ((z : ℤ) → IsIntText text z → ⊥) → int_within low high text ≡ None
unfolding int_within
int_none low high text small_low small_high none =
    by_test (bytes_eq (signed_decimal (int_value text)) text) (int_le low (int_value text)) (int_le (int_value text) high) refl refl refl where
      by_test : (same over under : Bool) → bytes_eq (signed_decimal (int_value text)) text ≡ same → int_le low (int_value text) ≡ over → int_le (int_value text) high ≡ under
          → where_true (bytes_eq (signed_decimal (int_value text)) text && int_le low (int_value text) && int_le (int_value text) high) (int_value text) ≡ None
      by_test true true true e f g =
          absurd (none (int_value text) (record {
            printed = sym ((bytes_eq-Decides (signed_decimal (int_value text)) text).0 e);
            short = short_within low high (int_value text) small_low small_high f g;
          }))
      by_test true true false e f g = rw (e, f, g) refl
      by_test true false under e f g = rw (e, f) refl
      by_test false over under e f g = rw e refl

-- and what is read is the text of the number
int_takes : (low high : ℤ) (text : List ℕ) (z : ℤ) → int_within low high text ≡ Some z → (text ≡ signed_decimal z) × (int_le low z ≡ true) × (int_le z high ≡ true)
unfolding int_within
int_takes low high text z h =
    by_test (bytes_eq (signed_decimal (int_value text)) text) (int_le low (int_value text)) (int_le (int_value text) high) refl refl refl h where
      by_test : (same over under : Bool) → bytes_eq (signed_decimal (int_value text)) text ≡ same → int_le low (int_value text) ≡ over → int_le (int_value text) high ≡ under
          → where_true (bytes_eq (signed_decimal (int_value text)) text && int_le low (int_value text) && int_le (int_value text) high) (int_value text) ≡ Some z
          → (text ≡ signed_decimal z) × (int_le low z ≡ true) × (int_le z high ≡ true)
      by_test true true true e f g h =
          let given : Some (int_value text) ≡ Some z = rw (e, f, g) at h in
          let is : int_value text ≡ z = cc in
          (rw (← is) (sym ((bytes_eq-Decides (signed_decimal (int_value text)) text).0 e)), rw (← is) f, rw (← is) g)
      by_test true true false e f g h = let given : ◌≡◌ {A = Option ℤ} None (Some z) = rw (e, f, g) at h in absurd cc
      by_test true false under e f g h = let given : ◌≡◌ {A = Option ℤ} None (Some z) = rw (e, f) at h in absurd cc
      by_test false over under e f g h = let given : ◌≡◌ {A = Option ℤ} None (Some z) = rw e at h in absurd cc

int_all : (low high : ℤ) (text : List ℕ) (z : ℤ) → unsigned_abs low < 10 ^ 20 → unsigned_abs high < 10 ^ 20 → text ≡ signed_decimal z → int_le low z ≡ true → int_le z high ≡ true → int_within low high text ≡ Some z
int_all low high text z small_low small_high is over under =
    int_found low high text z (record { printed = is; short = short_within low high z small_low small_high over under }) ∙ rw (over, under) refl

pub ints_read : IntsAreRead
ints_read low high text z small_low small_high =
    record {
      found = λ e. int_takes low high text z e;
      all = λ is over under. int_all low high text z small_low small_high is over under;
    }
