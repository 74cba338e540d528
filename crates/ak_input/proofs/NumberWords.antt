-- The number that a word writes is read of it, and what is read of it is the number that it writes.
use Rattle.std.proofs.Common.{◌≡◌, ℕ, ◌^◌, ◌<◌, ◌≤◌, true, leb, Bool, List, ◌∷◌, length, ℤ, pos, negsuc, Option, Some, None, refl, sym, ap, subst, ◌∙◌, arith}
use Rattle.std.specs.Prelude.{int_le, unsigned_abs, option_map}
use Rattle.std.specs.Fmt.{decimal, signed_decimal}
use Rattle.std.specs.Str.Parse.{AllDigits}
use Rattle.std.proofs.lemmas.Bool.{leb-true, le-leb}
use Rattle.std.proofs.lemmas.Str.Parse.{digit_from_value}
use Rattle.ak_base.proofs.Surface.{IsForm-decimal, bind_some, cond_some, short_from_below, some_is}
use Rattle.ak_base.specs.Option.{where_true, ◌>>=◌}
use Rattle.ak_input.specs.Payload.{int_within, uint_within}
use Rattle.ak_input.specs.Written.{number_within, WritesNumber}
use Rattle.ak_input.proofs.Numbers.{ints_read}

-- what something was made of
pub mapped_some : {A B : Type 0} (f : A → B) (o : Option A) (y : B) → option_map f o ≡ Some y → (x : A) × (o ≡ Some x) × (f x ≡ y)
mapped_some f (Some x) y e = (x, refl, some_is (f x) y e)
mapped_some f None y e = absurd cc

plain_number : (least most : ℕ) (word : List ℕ) (m : ℕ) (z : ℤ) → word ≡ signed_decimal z → int_le (pos 0) z ≡ true → int_le z (pos most) ≡ true → unsigned_abs z ≡ m → leb least m ≡ true → WritesNumber least most word m
plain_number least most word m (pos k) is low high same over =
    (is ∙ ap decimal same, leb-true least m over, subst (λ (j : ℕ). j ≤ most) same (leb-true k most high))
plain_number least most word m (negsuc k) is low high same over = absurd cc

pub number_takes : (least most : ℕ) (word : List ℕ) (n : ℕ) → most < 10 ^ 20 → number_within word least most ≡ Some n → WritesNumber least most word n
number_takes least most word n small e =
    let s = bind_some (uint_within most word) (λ (m : ℕ). where_true (leb least m) m) n e in
    let t = cond_some (leb least s.0) s.0 n s.2 in
    let u = mapped_some unsigned_abs (int_within (pos 0) (pos most) word) s.0 s.1 in
    let z = (ints_read (pos 0) (pos most) word u.0 (omega arith) small).found u.1 in
    subst (λ (m : ℕ). WritesNumber least most word m) t.1 (plain_number least most word s.0 u.0 z.0 z.1 z.2 u.2 t.0)

pub number_again : (least most : ℕ) (word : List ℕ) (n : ℕ) → most < 10 ^ 20 → WritesNumber least most word n → number_within word least most ≡ Some n
number_again least most word n small is =
    let read = (ints_read (pos 0) (pos most) word (pos n) (omega arith) small).all is.0 (le-leb 0 n (omega arith)) (le-leb n most is.2) in
    ap (λ (o : Option ℤ). (option_map unsigned_abs o) >>= (λ (m : ℕ). where_true (leb least m) m)) read ∙ ap (λ (b : Bool). where_true b n) (le-leb least n is.1)

-- a word that writes no number is read as none
pub number_none : (least most : ℕ) (word : List ℕ) → most < 10 ^ 20 → ((n : ℕ) → WritesNumber least most word n → ⊥) → number_within word least most ≡ None
number_none least most word small none = by_read (number_within word least most) refl where
  by_read : (o : Option ℕ) → number_within word least most ≡ o → number_within word least most ≡ None
  by_read None e = e
  by_read (Some n) e = absurd (none n (number_takes least most word n small e))

-- a number begins with a digit
pub no_number : (least most b : ℕ) (text : List ℕ) (n : ℕ) → most < 10 ^ 20 → 57 < b → WritesNumber least most (b ∷ text) n → ⊥
no_number least most b text n small high is =
    let short : length (decimal n) ≤ 20 = short_from_below n (omega (arith, is.2)) in
    omega (arith, digit_from_value b (subst (AllDigits 10) (sym is.0) (IsForm-decimal n short).digits).0)
