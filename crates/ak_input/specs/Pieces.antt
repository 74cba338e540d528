-- The pieces of a text between blanks or commas that stand where nothing is open.
use Rattle.std.specs.Prelude.{ℕ, ◌-◌, Bool, not, ◌&&◌, ◌==◌, nat_lt, if◌then◌else◌, List, [], ◌∷◌, length, slice_index, take, drop, Option, Some}
use Rattle.std.specs.List.{onto_first}
use Rattle.ak_input.specs.declared.marks.Marks.{Marks}
use Rattle.ak_input.specs.declared.pieces.Separator.{Separator}
use Rattle.ak_input.specs.declared.pieces.Separator.TheVariants as by
use Rattle.ak_input.specs.Marks.{is_blank, start, step, is_outside}
use Rattle.ak_base.specs.Option.{where_true, ◌>>=◌}

abbrev pub separates : Separator → ℕ → Bool
separates by.Blank b = is_blank b
separates by.Comma b = b == 44

-- where so much is open; none where it is not closed at the end, or an escape is none
unfoldable pub pieces_from : Separator → Marks → List ℕ → Option (List (List ℕ))
pieces_from by m [] = where_true (is_outside m) ([] ∷ [])
pieces_from by m (b ∷ text) =
    if is_outside m && separates by b then (pieces_from by start text >>= λ pieces. Some ([] ∷ pieces))
    else step m b >>= λ next. pieces_from by next text >>= λ pieces. Some (onto_first b pieces)

abbrev pub pieces_of : Separator → List ℕ → Option (List (List ℕ))
pieces_of by text = pieces_from by start text

-- what stands between a brace that opens a text and one that ends it
abbrev pub braced : List ℕ → Option (List ℕ)
braced text =
    where_true (not (nat_lt (length text) 2) && slice_index text 0 == 123 && slice_index text (length text - 1) == 125)
    (drop 1 (take (length text - 1) text))
