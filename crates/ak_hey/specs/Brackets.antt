-- Which elements of a property stand in brackets.
use Rattle.std.specs.Prelude.{ℕ, ◌+◌, ◌-◌, ℤ, pos, Bool, not, ◌&&◌, ◌||◌, ◌==◌, nat_lt, if◌then◌else◌, List, [], ◌∷◌, length, take, drop, slice_index, codes, position, Option, Some, None, option_map, unwrap_or, is_none}
use Rattle.std.specs.Borrow.{Bor}
use Rattle.std.specs.Str.{bytes_eq}
use Rattle.ak_base.specs.Option.{where_true, ◌>>=◌}
use Rattle.ak_message.specs.declared.specifier.At.{At}
use Rattle.ak_message.specs.declared.specifier.At.TheVariants as at
use Rattle.ak_input.specs.Written.{number_within}

-- the greatest index, count and id
abbrev pub most : ℕ
most = 2147483647

-- what stands between the brackets
abbrev pub bracketed : List ℕ → Option (List ℕ)
bracketed word =
    where_true (not (nat_lt (length word) 2) && slice_index word 0 == 91 && slice_index word (length word - 1) == 93)
    (drop 1 (take (length word - 1) word))

-- ---- parts between blanks
abbrev pub is_blank : ℕ → Bool
is_blank b = b == 32 || b == 9

abbrev pub is_other : ℕ → Bool
is_other b = not (is_blank b)

-- from that place on, or nothing where there is none
abbrev pub from_place : Option ℕ → List ℕ → List ℕ
from_place (Some place) text = drop place text
from_place None text = []

-- from the first byte on that is no blank
abbrev pub behind_blanks : List ℕ → List ℕ
behind_blanks text = from_place (position is_other text) text

-- how many bytes stand before the first blank
abbrev pub part_len : List ℕ → ℕ
part_len text = unwrap_or (position is_blank text) (length text)

abbrev pub some_part : ℕ → List ℕ → Option (List ℕ × List ℕ)
some_part len text = where_true (not (len == 0)) (take len text, drop len text)

-- the first part, and what stands behind it
unfoldable pub part_at : List ℕ → Option (List ℕ × List ℕ)
part_at text = some_part (part_len (behind_blanks text)) (behind_blanks text)

abbrev pub two_seen : Bor (List ℕ) × Bor (List ℕ) → List ℕ × List ℕ
two_seen x = (x.0.now, x.1.now)

-- ---- numbers
abbrev pub number_from : List ℕ → ℕ → Option ℤ
number_from part least = option_map pos (number_within part least most)

-- what stands behind that sign, where the part begins with it
abbrev pub behind_sign : List ℕ → ℕ → Option (List ℕ)
behind_sign [] sign = None
behind_sign (b ∷ part) sign = where_true (b == sign) part

abbrev pub index_or_id : Option (List ℕ) → List ℕ → Option At
index_or_id (Some id) part = option_map at.Id (number_from id 0)
index_or_id None part = option_map at.Index (number_from part 0)

abbrev pub reverse_or : Option (List ℕ) → List ℕ → Option At
reverse_or (Some index) part = option_map at.Reverse (number_from index 1)
reverse_or None part = index_or_id (behind_sign part 35) part

-- `n`, `-n` or `#n`
abbrev pub one_at : List ℕ → Option At
one_at part = reverse_or (behind_sign part 45) part

-- ---- ranges
-- how many numbers there are from the lower to the upper one, both counted
abbrev pub count_between : ℕ → ℕ → Option ℤ
count_between lower upper = if nat_lt upper lower || not (nat_lt (upper - lower) most) then None else Some (pos (upper - lower + 1))

-- `a to b`
unfoldable pub range : List ℕ → List ℕ → Option At
range first last = do
  a ← number_within first 0 most
  b ← number_within last 0 most
  count ← count_between a b
  Some (at.Range (pos a) count)

-- `-a to -b`, behind the signs
unfoldable pub reverse_range : List ℕ → List ℕ → Option At
reverse_range first last = do
  a ← number_within first 1 most
  b ← number_within last 1 most
  count ← count_between b a
  Some (at.ReverseRange (pos a) count)

abbrev pub range_behind : Option (List ℕ) → List ℕ → List ℕ → Option At
range_behind (Some a) first last = behind_sign last 45 >>= λ b. reverse_range a b
range_behind None first last = range first last

abbrev pub range_at : List ℕ → List ℕ → Option At
range_at first last = range_behind (behind_sign first 45) first last

-- the last part, where the one before it is `to`
abbrev pub last_of : Option (List ℕ × List ℕ) → Option (List ℕ)
last_of None = None
last_of (Some part) = where_true (is_none (part_at part.1)) part.0

unfoldable pub behind_to : List ℕ → List ℕ → Option (List ℕ)
behind_to key rest = if bytes_eq key (codes "to") then last_of (part_at rest) else None

-- one number alone, or two with `to` between them
abbrev pub one_or_range : List ℕ → Option (List ℕ × List ℕ) → Option At
one_or_range first None = one_at first
one_or_range first (Some key) = behind_to key.0 key.1 >>= λ last. range_at first last

-- `[n]`, `[-n]`, `[#n]`, `[a to b]` or `[-a to -b]`
unfoldable pub bracket_at : List ℕ → Option At
bracket_at word = do
  inner ← bracketed word
  first ← part_at inner
  one_or_range first.0 (part_at first.1)
