-- Which handler has a match for the current specifier of a message.
use Rattle.std.specs.Prelude.{ℕ, ◌-◌, ◌==◌, ◌&&◌, ◌||◌, Bool, true, false, if◌then◌else◌, List, codes, Option, Some, None, is_some}
use Rattle.std.specs.Str.{bytes_eq}
use Rattle.ak_base.specs.Code.{code_of}
use Rattle.ak_message.specs.declared.specifier.At.{At}
use Rattle.ak_message.specs.declared.specifier.At.TheVariants as at
use Rattle.ak_message.specs.declared.specifier.Specifier.{Specifier}
use Rattle.ak_message.specs.Message.{MessageData}
use Rattle.ak_message.specs.Specifier.{form_of}
use Rattle.ak_specifier.specs.Current.{left_of}
use Rattle.ak_property.specs.declared.table.PropertyRow.{PropertyRow}
use Rattle.ak_property.specs.Table.{match_of}
use Rattle.ak_property.specs.HandlerRow.{RowData}
use Rattle.ak_route.specs.declared.matching.BuiltInName.{BuiltInName}
use Rattle.ak_route.specs.declared.matching.BuiltInName.TheVariants as built_in

abbrev pub is_code : ℕ → List ℕ → Bool
is_code what letters = what == code_of letters

abbrev pub is_direct : At → Bool
is_direct at.Direct = true
is_direct _ = false

-- it is the last one that is left, and direct
abbrev pub is_last_direct : MessageData → Specifier → Bool
is_last_direct m s = is_direct s.at && left_of m == 1

-- the row of the table that fits
abbrev pub row_match : List PropertyRow → MessageData → Specifier → Option ℕ
row_match table m s = match_of table m.what (left_of m - 1) (form_of s.at) s.property

-- what every handler can be asked for: its suites, its messenger and its name
abbrev pub built_in_of : List ℕ → Option BuiltInName
built_in_of name =
    if bytes_eq name (codes "Suites") then Some built_in.Suites
    else if bytes_eq name (codes "Messenger") then Some built_in.Messenger
    else if bytes_eq name (codes "InternalName") then Some built_in.InternalName
    else None

abbrev pub is_built_in_name : List ℕ → Bool
is_built_in_name name = is_some (built_in_of name)

abbrev pub gets_built_in : MessageData → Specifier → Bool
gets_built_in m s = is_code m.what (codes "PGET") && (is_last_direct m s && is_built_in_name s.property)

-- how many of them there are: its handlers, and of an application's own looper its loopers
abbrev pub counts_built_in : MessageData → Specifier → List ℕ → Bool
counts_built_in m s property = is_code m.what (codes "PCNT") && (is_last_direct m s && bytes_eq s.property property)

abbrev pub table_matches : List PropertyRow → MessageData → Specifier → Bool
table_matches table m s = is_some (row_match table m s) || gets_built_in m s

abbrev pub matches : RowData → MessageData → Specifier → Bool
matches row m s = table_matches row.table m s
