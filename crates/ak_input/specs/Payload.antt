-- Reading the values that are no message, each from the whole of its text.
use Rattle.std.specs.Prelude.{ℕ, ◌+◌, ◌-◌, ◌*◌, Bool, true, false, not, ◌&&◌, ◌||◌, ◌==◌, nat_lt, nat_le, if◌then◌else◌, List, [], ◌∷◌, ◌++◌, length, take, drop, codes, position, slice_index, ℤ, pos, neg_ℤ, unsigned_abs, int_le, Option, Some, None, option_map}
use Rattle.std.specs.List.{starts_with}
use Rattle.std.specs.Str.{bytes_eq}
use Rattle.std.specs.Str.Parse.{digits_value}
use Rattle.std.specs.Fmt.{signed_decimal}
use Rattle.ak_message.specs.declared.address.Address.{Address}
use Rattle.ak_message.specs.declared.address.Target.{Target}
use Rattle.ak_message.specs.declared.address.Target.TheVariants as target
use Rattle.ak_message.specs.declared.kind.Kind.{Kind}
use Rattle.ak_message.specs.declared.kind.Kind.TheVariants as k
use Rattle.ak_input.specs.declared.marks.Quotes.{Quotes}
use Rattle.ak_input.specs.declared.marks.Quotes.TheVariants as q
use Rattle.ak_message.specs.Kind.{kind_letters}
use Rattle.ak_input.specs.Marks.{is_unquoted, double_step, escape_step, hex_step, is_hex_digit}
use Rattle.ak_base.specs.Option.{◌>>=◌, where_true}

-- the kind of these letters
abbrev pub kind_lettered : List ℕ → Option Kind
kind_lettered letters =
    if bytes_eq letters (kind_letters k.Bool) then Some k.Bool
    else if bytes_eq letters (kind_letters k.Int8) then Some k.Int8
    else if bytes_eq letters (kind_letters k.Int16) then Some k.Int16
    else if bytes_eq letters (kind_letters k.Int32) then Some k.Int32
    else if bytes_eq letters (kind_letters k.Int64) then Some k.Int64
    else if bytes_eq letters (kind_letters k.UInt8) then Some k.UInt8
    else if bytes_eq letters (kind_letters k.UInt16) then Some k.UInt16
    else if bytes_eq letters (kind_letters k.UInt32) then Some k.UInt32
    else if bytes_eq letters (kind_letters k.UInt64) then Some k.UInt64
    else if bytes_eq letters (kind_letters k.Text) then Some k.Text
    else if bytes_eq letters (kind_letters k.Message) then Some k.Message
    else if bytes_eq letters (kind_letters k.Messenger) then Some k.Messenger
    else if bytes_eq letters (kind_letters k.Raw) then Some k.Raw
    else None

-- the kind whose letters and a colon the text begins with
abbrev pub kind_before : List ℕ → Option Kind
kind_before text =
    if nat_lt (length text) 5 || not (slice_index text 4 == 58) then None else kind_lettered (take 4 text)

abbrev pub bool_from : List ℕ → Option Bool
bool_from text = if bytes_eq text (codes "true") then Some true else where_true (bytes_eq text (codes "false")) false

-- ---- numbers
-- the number that a sign and digits write
abbrev pub int_value : List ℕ → ℤ
int_value text = if starts_with ◌==◌ text (codes "-") then neg_ℤ (pos (digits_value 10 (drop 1 text))) else pos (digits_value 10 text)

-- the number whose text this is, in this range
unfoldable pub int_within : ℤ → ℤ → List ℕ → Option ℤ
int_within low high text =
    where_true (bytes_eq (signed_decimal (int_value text)) text && int_le low (int_value text) && int_le (int_value text) high) (int_value text)

abbrev pub uint_within : ℕ → List ℕ → Option ℕ
uint_within high text = option_map unsigned_abs (int_within (pos 0) (pos high) text)

-- ---- an address: the looper, a point, and `p` or the token
abbrev pub target_from : List ℕ → Option Target
target_from text =
    if bytes_eq text (codes "p") then Some target.Preferred else option_map target.Token (uint_within 18446744073709551615 text)

abbrev pub point_in : List ℕ → Option ℕ
point_in text = position (λ b. b == 46) text

unfoldable pub address_from : List ℕ → Option Address
address_from text = do
  place ← point_in text
  looper ← uint_within 4294967295 (take place text)
  target ← target_from (drop (place + 1) text)
  Some (record { looper = looper; target = target })

-- ---- raw bytes: two digits each
abbrev pub hex_value : ℕ → Option ℕ
hex_value b = where_true (is_hex_digit b) (if nat_le b 57 then b - 48 else b - 87)

-- behind the first digit of a byte, or behind a byte
unfoldable pub raw_from : Option ℕ → List ℕ → Option (List ℕ)
raw_from None [] = Some []
raw_from (Some high) [] = None
raw_from None (b ∷ text) = hex_value b >>= λ high. raw_from (Some high) text
raw_from (Some high) (b ∷ text) = hex_value b >>= λ low. raw_from None text >>= λ bytes. Some ((16 * high + low) ∷ bytes)

-- ---- a text in double quotes
-- no part of a text
abbrev pub is_control : ℕ → Bool
is_control b = nat_lt b 32 || b == 127

-- behind `\x0`: there is no byte 0 in a text
abbrev pub after_zero : ℕ → Option (Quotes × Option ℕ)
after_zero low = where_true (not (low == 0)) (q.Double, Some low)

-- a byte in double quotes: what it makes of the escape, and the byte of the text that it ends
abbrev pub text_step : Quotes → ℕ → Option (Quotes × Option ℕ)
text_step q.None b = None
text_step q.Single b = None
text_step q.Double b = where_true (not (is_control b)) (double_step b, where_true (not (b == 34 || b == 92)) b)
text_step q.Escape b = escape_step b >>= λ quotes. Some (quotes, where_true (not (b == 120)) b)
text_step q.Hex b = hex_step b >>= λ quotes. Some (quotes, None)
text_step q.HexZero b = hex_value b >>= λ low. after_zero low
text_step q.HexOne b = hex_value b >>= λ low. Some (q.Double, Some (16 + low))
text_step q.HexSeven b = where_true (b == 102) (q.Double, Some 127)

abbrev pub onto : Option ℕ → List ℕ → List ℕ
onto None bytes = bytes
onto (Some b) bytes = b ∷ bytes

-- a byte behind others, where there is one
abbrev pub put : List ℕ → Option ℕ → List ℕ
put bytes None = bytes
put bytes (Some b) = bytes ++ b ∷ []

unfoldable pub quoted_from : Quotes → List ℕ → Option (List ℕ)
quoted_from quotes [] = where_true (is_unquoted quotes) []
quoted_from quotes (b ∷ text) = text_step quotes b >>= λ s. quoted_from s.0 text >>= λ bytes. Some (onto s.1 bytes)

-- the bytes that stand in quotes
abbrev pub unquoted : List ℕ → Option (List ℕ)
unquoted [] = None
unquoted (b ∷ text) = if b == 34 then quoted_from q.Double text else None
