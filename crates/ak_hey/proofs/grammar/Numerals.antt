-- A number begins with no sign.
use Rattle.std.proofs.Common.{◌≡◌, ℕ, ◌<◌, ◌≤◌, Bool, false, eqb, List, [], ◌∷◌, length, None, refl, ap, arith}
use Rattle.std.specs.Fmt.{decimal}
use Rattle.std.specs.Str.Parse.{AllDigits}
use Rattle.std.proofs.lemmas.Bool.{ne_eqb}
use Rattle.std.proofs.lemmas.Str.Parse.{digit_from_value}
use Rattle.ak_base.proofs.Surface.{IsForm-decimal, short_from_below}
use Rattle.ak_base.specs.Option.{where_true}
use Rattle.ak_hey.specs.Brackets.{most, behind_sign}

no_sign_first : (text : List ℕ) (sign : ℕ) → sign < 48 → AllDigits 10 text → behind_sign text sign ≡ None
no_sign_first [] sign low digits = refl
no_sign_first (b ∷ text) sign low digits =
    let differs : eqb b sign ≡ false = ne_eqb b sign (λ e. omega (arith, e, digit_from_value b digits.0)) in
    ap (λ (t : Bool). where_true t text) differs

pub no_sign : (n sign : ℕ) → n ≤ most → sign < 48 → behind_sign (decimal n) sign ≡ None
no_sign n sign over low =
    let short : length (decimal n) ≤ 20 = short_from_below n (omega (arith, over)) in
    no_sign_first (decimal n) sign low (IsForm-decimal n short).digits
