-- What `gen` tells of the script of a number: how many replies its block got, and how far each of the three loopers has counted.
use Rattle.std.specs.Prelude.{◌≡◌, ℕ, ◌+◌, ◌*◌, ℤ, pos, Bool, false, ◌==◌, List, [], ◌∷◌, ◌++◌, take, drop, count_by, slice_get, codes, Option, None, Some, Result, Ok, Err, refl}
use Rattle.std.specs.Fmt.{decimal, signed_decimal, digits}
use Rattle.ak_base.specs.Code.{code_of}
use Rattle.ak_message.specs.declared.fault.FindFault.{FindFault}
use Rattle.ak_message.specs.declared.kind.Kind.TheVariants as k
use Rattle.ak_message.specs.Fields.{found_in}
use Rattle.ak_message.specs.Message.{ValueData, MessageData, int32_value}
use Rattle.ak_print.specs.declared.told.Told.{Told}
use Rattle.ak_print.specs.declared.told.Told.TheVariants as told

-- ---- the block
-- how many lines the four sessions have
abbrev pub line_count : ℕ → ℕ
line_count n = 4 * n

-- what is told of them, which stands behind what is told of the launch
abbrev pub block_tolds : ℕ → List Told → List Told
block_tolds n tolds = take (line_count n) (drop 1 tolds)

-- a reply `'RPLY'`
abbrev pub is_reply : Told → Bool
is_reply (told.Reply m) = m.what == code_of (codes "RPLY")
is_reply _ = false

-- how many of them are such replies
abbrev pub reply_count : ℕ → List Told → ℕ
reply_count n tolds = count_by is_reply (block_tolds n tolds)

-- ---- the counts
-- a LONG, and 0 for any other value
abbrev pub long_of : ValueData → ℤ
long_of (int32_value z) = z
long_of _ = pos 0

abbrev pub long_found : Result ValueData FindFault → ℤ
long_found (Ok value) = long_of value
long_found (Err fault) = pos 0

-- the first LONG of the field `result`, and 0 where there is none
abbrev pub result_of : MessageData → ℤ
result_of m = long_found (found_in m.fields (codes "result") k.Int32 0)

-- that of a reply
abbrev pub count_of : Told → ℤ
count_of (told.Reply m) = result_of m
count_of _ = pos 0

abbrev pub count_told : Option Told → ℤ
count_told None = pos 0
count_told (Some t) = count_of t

-- that of the question to the looper of this place, 1 to 3: the questions stand behind the block
abbrev pub count_at : ℕ → List Told → ℕ → ℤ
count_at n tolds place = count_told (slice_get tolds (line_count n + place))

-- ---- the line, as `gen 1: replies 4 counts 1 1 2`
abbrev pub gen_line : ℕ → List Told → List ℕ
gen_line n tolds =
    codes "gen " ++ decimal n ++ codes ": replies " ++ decimal (reply_count n tolds)
    ++ codes " counts " ++ signed_decimal (count_at n tolds 1) ++ codes " " ++ signed_decimal (count_at n tolds 2)
    ++ codes " " ++ signed_decimal (count_at n tolds 3) ++ 10 ∷ []

-- that of nothing that is told
pub empty_line : gen_line 1 [] ≡ codes "gen 1: replies 0 counts 0 0 0" ++ 10 ∷ []
unfolding digits
empty_line = refl
