-- What a handler of a looper holds, and what is found in it.
use Rattle.std.specs.Prelude.{ℕ, List, [], map, Option, option_and_then, slice_get}
use Rattle.std.specs.List.{position}
use Rattle.std.specs.Str.{bytes_eq}
use Rattle.ak_message.specs.Message.{ValueData}
use Rattle.ak_property.specs.HandlerRow.{RowData}
use Rattle.ak_value.specs.Elements.{ElementsData, first_value}
use Rattle.ak_action.specs.declared.row.DeskRow.{DeskRow}

-- what routing sees of it
abbrev pub row_data : DeskRow → RowData
row_data row = record { table = row.table; filters = row.filters; reactions = map (λ r. r.what.0) row.reactions }

abbrev pub empty_row : DeskRow
empty_row = record { suites = []; table = []; elements = []; filters = []; reactions = [] }

-- the place of the property of that name
abbrev pub place_of_property : DeskRow → List ℕ → Option ℕ
place_of_property row name = position (λ p. bytes_eq p.name name) row.table

abbrev pub elements_of : DeskRow → List ℕ → Option ElementsData
elements_of row name = option_and_then (slice_get row.elements) (place_of_property row name)

-- the value of the first element of that property
abbrev pub first_of : DeskRow → List ℕ → Option ValueData
first_of row name = option_and_then (λ e. first_value e.list) (elements_of row name)
