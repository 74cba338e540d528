-- What contracts see of what is read: words as their bytes, and parts with their lists.
use Rattle.std.specs.Prelude.{ℕ, Bool, List, Vec, map}
use Rattle.std.specs.Borrow.{Bor}
use Rattle.std.specs.declared.alloc.Global.{Global}
use Rattle.ak_input.specs.declared.line.Word.{Word}
use Rattle.ak_message.specs.declared.message.Value.{Value}
use Rattle.ak_message.specs.Message.{ValueData}
use Rattle.ak_message.specs.Seen.{value_of}
use Rattle.ak_describe.specs.declared.described.AppText.{AppText}
use Rattle.ak_describe.specs.declared.first.LinesSoFar.{LinesSoFar}
use Rattle.ak_describe.specs.declared.form.template.Building.{Building}
use Rattle.ak_describe.specs.declared.parts.AppParts.{AppParts}
use Rattle.ak_describe.specs.declared.parts.LooperParts.{LooperParts}
use Rattle.ak_describe.specs.declared.parts.PropertyParts.{PropertyParts}
use Rattle.ak_describe.specs.declared.parts.RowParts.{RowParts}
use Rattle.ak_describe.specs.Actions.{Built}
use Rattle.ak_describe.specs.Parts.{AppData, LooperData, RowData}
use Rattle.ak_describe.specs.Pass.{State}
use Rattle.ak_describe.specs.Words.{texts}

-- ---- what is read
-- bytes, where there are any
abbrev pub seen : Bor (List ℕ) → List ℕ
seen bytes = bytes.now

-- a word, and the words behind or before it
abbrev pub word_and_rest : Bor (List ℕ) × Bor (List Word) → List ℕ × List (List ℕ)
word_and_rest x = (x.0.now, texts x.1.now)

-- what was read, and the words behind it
abbrev pub read_and_rest : {A : Type 0} → A × Bor (List Word) → A × List (List ℕ)
read_and_rest x = (x.0, texts x.1.now)

-- the items that were read, and the words behind them
abbrev pub items_and_rest : {A : Type 0} → Vec A Global × Bor (List Word) → List A × List (List ℕ)
items_and_rest x = (x.0.items, texts x.1.now)

-- whether a word stands there, and the words before it
abbrev pub flag_and_rest : Bool × Bor (List Word) → Bool × List (List ℕ)
flag_and_rest x = (x.0, texts x.1.now)

abbrev pub two_seen : Bor (List ℕ) × Bor (List ℕ) → List ℕ × List ℕ
two_seen x = (x.0.now, x.1.now)

abbrev pub rest_seen : Bor (List Word) → List (List ℕ)
rest_seen words = texts words.now

-- an element: a name and a value
abbrev pub element_pair : List ℕ × Value → List ℕ × ValueData
element_pair x = (x.0, value_of x.1)

abbrev pub values_seen : List Value → List ValueData
values_seen values = map value_of values

-- what is read of a message
abbrev pub built_of : Building → Built
built_of b = record { names = map seen b.names.keys; fields = b.fields }

-- ---- parts, with their lists
abbrev pub property_seen : Bor PropertyParts → PropertyParts
property_seen p = p.now

abbrev pub row_data : RowParts → RowData
row_data r =
    record {
      name = r.name;
      next = r.next;
      suites = r.suites.items;
      properties = r.properties.items;
      filters = r.filters;
      reactions = r.reactions.items;
    }

abbrev pub rows_data : List RowParts → List RowData
rows_data rows = map row_data rows

abbrev pub looper_data : LooperParts → LooperData
looper_data l =
    record {
      name = l.name;
      capacity = l.capacity;
      quit_refused = l.quit_refused;
      preferred = l.preferred;
      common = l.common;
      rows = rows_data l.rows.items;
    }

abbrev pub loopers_data : List LooperParts → List LooperData
loopers_data loopers = map looper_data loopers

abbrev pub looper_seen : Bor LooperParts → LooperData
looper_seen l = looper_data l.now

abbrev pub app_data : AppParts → AppData
app_data a = record { path = a.path; signature = a.signature; mode = a.mode; loopers = loopers_data a.loopers.items }

abbrev pub apps_data : List AppParts → List AppData
apps_data apps = map app_data apps

abbrev pub state_of : LinesSoFar → State
state_of p = record { apps = apps_data p.apps.items; after = p.after; names = p.names.items }

abbrev pub apps_seen : Vec AppText Global → List AppText
apps_seen apps = apps.items
