-- Payloads in an input have the texts that are printed of them, and no other texts.
use Rattle.std.specs.Prelude.{◌≡◌, ℕ, ◌^◌, ◌<◌, ℤ, unsigned_abs, int_le, true, List, All, Some, None}
use Rattle.std.specs.List.{flat_map}
use Rattle.std.specs.Fmt.{signed_decimal}
use Rattle.ak_base.specs.Code.{hex_of}
use Rattle.ak_base.specs.Limits.{digits_limit}
use Rattle.ak_input.specs.MessageText.{quoted}
use Rattle.ak_input.specs.Payload.{int_within, raw_from, unquoted}

-- a number in a range that no number of over 20 digits is in
pub record IntIsRead (low high : ℤ) (text : List ℕ) (z : ℤ) : Type 0 where
  pub found : int_within low high text ≡ Some z → (text ≡ signed_decimal z) × (int_le low z ≡ true) × (int_le z high ≡ true)
  pub all : text ≡ signed_decimal z → int_le low z ≡ true → int_le z high ≡ true → int_within low high text ≡ Some z

abbrev pub IntsAreRead : Type 0
IntsAreRead = (low high : ℤ) (text : List ℕ) (z : ℤ) → unsigned_abs low < 10 ^ digits_limit → unsigned_abs high < 10 ^ digits_limit → IntIsRead low high text z

-- raw bytes, two digits each
pub record RawIsRead (text bytes : List ℕ) : Type 0 where
  pub found : raw_from None text ≡ Some bytes → (text ≡ flat_map hex_of bytes) × All (λ b. b < 256) bytes
  pub all : text ≡ flat_map hex_of bytes → All (λ b. b < 256) bytes → raw_from None text ≡ Some bytes

abbrev pub RawsAreRead : Type 0
RawsAreRead = (text bytes : List ℕ) → RawIsRead text bytes

-- a text in quotes, without a zero byte
pub record TextIsRead (text bytes : List ℕ) : Type 0 where
  pub found : unquoted text ≡ Some bytes → (text ≡ quoted bytes) × All (λ b. 0 < b) bytes
  pub all : text ≡ quoted bytes → All (λ b. 0 < b) bytes → unquoted text ≡ Some bytes

abbrev pub TextsAreRead : Type 0
TextsAreRead = (text bytes : List ℕ) → TextIsRead text bytes
