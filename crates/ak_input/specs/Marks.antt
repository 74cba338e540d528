-- What is open at a place of a line: quotes, an escape in them, braces and brackets.
use Rattle.std.specs.Prelude.{ℕ, ◌+◌, ◌-◌, Bool, true, false, not, ◌&&◌, ◌||◌, ◌==◌, nat_le, if◌then◌else◌, Option, Some, None, option_map}
use Rattle.ak_input.specs.declared.marks.Quotes.{Quotes}
use Rattle.ak_input.specs.declared.marks.Quotes.TheVariants as q
use Rattle.ak_input.specs.declared.marks.Marks.{Marks}

-- space and tab part words
abbrev pub is_blank : ℕ → Bool
is_blank b = b == 32 || b == 9

-- in lower case
abbrev pub is_hex_digit : ℕ → Bool
is_hex_digit b = (nat_le 48 b && nat_le b 57) || (nat_le 97 b && nat_le b 102)

-- ---- in double quotes
abbrev pub double_step : ℕ → Quotes
double_step b = if b == 34 then q.None else if b == 92 then q.Escape else q.Double

-- an escape is `\"`, `\\`, or `\x` and the two digits of a byte from 0x01 to 0x1F or of 0x7F
abbrev pub escape_step : ℕ → Option Quotes
escape_step b = if b == 34 || b == 92 then Some q.Double else if b == 120 then Some q.Hex else None

abbrev pub hex_step : ℕ → Option Quotes
hex_step b = if b == 48 then Some q.HexZero else if b == 49 then Some q.HexOne else if b == 55 then Some q.HexSeven else None

abbrev pub escape_ends : Bool → Option Quotes
escape_ends right = if right then Some q.Double else None

-- what a byte makes of quotes that are open; none where it is no part of an escape
abbrev pub quoted_step : Quotes → ℕ → Option Quotes
quoted_step q.None b = Some q.None
quoted_step q.Single b = Some (if b == 39 then q.None else q.Single)
quoted_step q.Double b = Some (double_step b)
quoted_step q.Escape b = escape_step b
quoted_step q.Hex b = hex_step b
quoted_step q.HexZero b = escape_ends (is_hex_digit b && not (b == 48))
quoted_step q.HexOne b = escape_ends (is_hex_digit b)
quoted_step q.HexSeven b = escape_ends (b == 102)

-- ---- outside of quotes
abbrev pub opened : ℕ → Quotes
opened b = if b == 34 then q.Double else if b == 39 then q.Single else q.None

-- one that closes where none is open counts for nothing
abbrev pub counted : ℕ → ℕ → ℕ → ℕ → ℕ
counted count b open_mark close_mark = if b == open_mark then count + 1 else if b == close_mark then count - 1 else count

abbrev pub plain_step : Marks → ℕ → Marks
plain_step m b = record { quotes = opened b; braces = counted m.braces b 123 125; brackets = counted m.brackets b 91 93 }

-- ---- anywhere
abbrev pub is_unquoted : Quotes → Bool
is_unquoted q.None = true
is_unquoted q.Single = false
is_unquoted q.Double = false
is_unquoted q.Escape = false
is_unquoted q.Hex = false
is_unquoted q.HexZero = false
is_unquoted q.HexOne = false
is_unquoted q.HexSeven = false

-- what is open behind a byte; none where it is no part of an escape
abbrev pub step : Marks → ℕ → Option Marks
step m b =
    if is_unquoted m.quotes then Some (plain_step m b)
    else option_map (λ quotes. record m { quotes = quotes }) (quoted_step m.quotes b)

-- at a word's first byte
abbrev pub start : Marks
start = record { quotes = q.None; braces = 0; brackets = 0 }

-- nothing is open
abbrev pub is_outside : Marks → Bool
is_outside m = is_unquoted m.quotes && m.braces == 0 && m.brackets == 0

-- where nothing is open a blank ends a word, and so does a `[`, which begins one
abbrev pub ends_before : Marks → ℕ → Bool
ends_before m b = is_outside m && (is_blank b || b == 91)
