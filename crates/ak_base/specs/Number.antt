-- The printed form of a whole number.
use Rattle.std.specs.Prelude.{◌≡◌, ℕ, ◌^◌, ◌<◌, ◌≤◌, ℤ, unsigned_abs, List, length}
use Rattle.std.specs.Fmt.{decimal, signed_decimal}
use Rattle.ak_base.specs.Limits.{digits_limit}

-- the text is the number in decimal, a `-` where it is below 0 and no leading zero, in at most 20 digits
pub record IsIntText (text : List ℕ) (z : ℤ) : Type 0 where
  pub printed : text ≡ signed_decimal z
  pub short : length (decimal (unsigned_abs z)) ≤ digits_limit

-- a text is the text of one number
abbrev pub OneIntText : Type 0
OneIntText = (text : List ℕ) (y z : ℤ) → IsIntText text y → IsIntText text z → y ≡ z

-- what is printed of a number below 10 ^ 20, which an `i64` and a `u64` are, is its text
abbrev pub PrintedIntsAreRead : Type 0
PrintedIntsAreRead = (z : ℤ) → unsigned_abs z < 10 ^ digits_limit → IsIntText (signed_decimal z) z
