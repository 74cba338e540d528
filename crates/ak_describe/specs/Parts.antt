-- What is described so far, as parts with their lists: of each list the last one is open.
use Rattle.std.specs.Prelude.{ℕ, Bool, ◌==◌, List, [], find, position, Option, None}
use Rattle.std.specs.List.{list_any}
use Rattle.std.specs.Str.{bytes_eq}
use Rattle.ak_action.specs.declared.action.Reaction.{Reaction}
use Rattle.ak_filter.specs.declared.filter.Filter.{Filter}
use Rattle.ak_roster.specs.declared.head.Mode.{Mode}
use Rattle.ak_describe.specs.declared.parts.PropertyParts.{PropertyParts}

-- a handler: its properties, each with its elements, and its reactions
pub record RowData : Type 0 where
  pub name : List ℕ
  pub next : Option (List ℕ)
  pub suites : List (List ℕ)
  pub properties : List PropertyParts
  pub filters : List Filter
  pub reactions : List Reaction

-- a looper: its handlers, itself first
pub record LooperData : Type 0 where
  pub name : List ℕ
  pub capacity : ℕ
  pub quit_refused : Bool
  pub preferred : Option (List ℕ)
  pub common : List Filter
  pub rows : List RowData

-- an application: its loopers, its own first
pub record AppData : Type 0 where
  pub path : List ℕ
  pub signature : List ℕ
  pub mode : Mode
  pub loopers : List LooperData

-- a handler of which nothing but its name is read
abbrev pub opened : List ℕ → RowData
opened name = record { name = name; next = None; suites = []; properties = []; filters = []; reactions = [] }

-- ---- by their names
abbrev pub has_path : List AppData → List ℕ → Bool
has_path apps path = list_any (λ a. bytes_eq a.path path) apps

abbrev pub looper_named : List LooperData → List ℕ → Option ℕ
looper_named loopers name = position (λ l. bytes_eq l.name name) loopers

-- its own place is 0
abbrev pub row_named : List RowData → List ℕ → Option ℕ
row_named rows name = position (λ r. bytes_eq r.name name) rows

abbrev pub property_named : List PropertyParts → List ℕ → Option PropertyParts
property_named properties name = find (λ p. bytes_eq p.row.name name) properties

abbrev pub has_reaction : List Reaction → ℕ → Bool
has_reaction reactions what = list_any (λ r. r.what.0 == what) reactions
