-- Which row of a table fits a command.
use Rattle.std.specs.Prelude.{ℕ, Bool, true, ◌==◌, ◌&&◌, ◌||◌, not, List, [], ◌∷◌, Option, map}
use Rattle.std.specs.List.{list_any, position}
use Rattle.std.specs.Str.{bytes_eq}
use Rattle.ak_base.specs.declared.code.Code.{Code}
use Rattle.ak_property.specs.declared.table.PropertyRow.{PropertyRow}

-- an empty list allows every number, and any other the numbers that stand in it
abbrev pub allows : List ℕ → ℕ → Bool
allows [] n = true
allows (x ∷ xs) n = list_any (λ y. y == n) (x ∷ xs)

abbrev pub codes_of : List Code → List ℕ
codes_of cs = map (λ c. c.0) cs

-- the row of that name takes the form, and the command where the specifier is the only one left, which has the index 0
abbrev pub fits : ℕ → ℕ → ℕ → List ℕ → PropertyRow → Bool
fits what index form name row =
    bytes_eq row.name name && (allows row.forms form && (allows (codes_of row.commands) what || not (index == 0)))

-- the first row that fits
abbrev pub match_of : List PropertyRow → ℕ → ℕ → ℕ → List ℕ → Option ℕ
match_of rows what index form name = position (fits what index form name) rows
