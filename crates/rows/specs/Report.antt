-- What is printed of rows.
use Rattle.std.specs.Prelude.{ℕ, List, [], ◌∷◌, ◌++◌, codes}
use Rattle.std.specs.Fmt.{decimal}

-- of a file with so many rows, so many of which are told as they say
abbrev pub file_text : List ℕ → ℕ → ℕ → List ℕ
file_text name told rows =
    name ++ codes ": " ++ decimal told ++ codes " of " ++ decimal rows ++ codes " rows are told as they say" ++ 10 ∷ []

-- of a row that is told otherwise
abbrev pub row_text : List ℕ → ℕ → List ℕ → List ℕ → List ℕ
row_text name line told says =
    name ++ codes ": line " ++ decimal line ++ codes " is told as" ++ 10 ∷ told ++ 10 ∷ codes "and says" ++ 10 ∷ says ++ 10 ∷ []
