-- What holds of all tables.
use Rattle.std.specs.Prelude.{◌≡◌, ◌≢◌, ◌⊎◌, ◌↔◌, ℕ, IsTrue, List, [], take, All, Contains, Some, MatchOption, slice_get}
use Rattle.ak_property.specs.declared.table.PropertyRow.{PropertyRow}
use Rattle.ak_property.specs.Table.{codes_of, fits, match_of}

-- none listed, or this one among them
abbrev pub Allows : List ℕ → ℕ → Type 0
Allows ns n = (ns ≡ []) ⊎ Contains ns n

-- the row has that name, and takes the form, and the command or is not asked for it
pub record Takes (what index form : ℕ) (name : List ℕ) (row : PropertyRow) : Type 0 where
  pub has_name : row.name ≡ name
  pub allows_form : Allows row.forms form
  pub allows_command : Allows (codes_of row.commands) what ⊎ (index ≢ 0)

-- a row fits where it takes all this, and nowhere else
abbrev pub FitsAsTold : Type 0
FitsAsTold =
    (what index form : ℕ) (name : List ℕ) (row : PropertyRow) → IsTrue (fits what index form name row) ↔ Takes what index form name row

-- the row at that place is so, and none before it is
pub record IsFirst (P : PropertyRow → Type 0) (rows : List PropertyRow) (place : ℕ) : Type 0 where
  pub row : PropertyRow
  pub stands : slice_get rows place ≡ Some row
  pub is_so : P row
  pub none_before : All (λ r. ¬ P r) (take place rows)

-- the row that is found is the first one that takes all this, and where none is found no row does
abbrev pub FirstIsFound : Type 0
FirstIsFound =
    (rows : List PropertyRow) (what index form : ℕ) (name : List ℕ)
    → MatchOption (match_of rows what index form name) (All (λ row. ¬ Takes what index form name row) rows)
    (λ place. IsFirst (λ row. Takes what index form name row) rows place)
