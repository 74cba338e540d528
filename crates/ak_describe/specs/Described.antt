-- What the parts of applications come to.
use Rattle.std.specs.Prelude.{◌≤◌, List, length, map, All}
use Rattle.ak_property.specs.declared.table.PropertyRow.{PropertyRow}
use Rattle.ak_property.specs.Limits.{row_limit}
use Rattle.ak_value.specs.Elements.{ElementsData}
use Rattle.ak_action.specs.declared.plan.PlanParts.{PlanParts}
use Rattle.ak_action.specs.declared.plan.PlanRow.{PlanRow}
use Rattle.ak_action.specs.Plan.{IsPlan}
use Rattle.ak_action.specs.Limits.{reaction_limit}
use Rattle.ak_describe.specs.declared.described.AppText.{AppText}
use Rattle.ak_describe.specs.declared.parts.PropertyParts.{PropertyParts}
use Rattle.ak_describe.specs.Parts.{RowData, LooperData, AppData}

-- the properties, and the elements of each
abbrev pub table_of : List PropertyParts → List PropertyRow
table_of properties = map (λ (p : PropertyParts). p.row) properties

abbrev pub elements_of : List PropertyParts → List ElementsData
elements_of properties = map (λ (p : PropertyParts). p.elements) properties

abbrev pub plan_row : RowData → PlanRow
plan_row r =
    record {
      name = r.name;
      next = r.next;
      suites = r.suites;
      table = table_of r.properties;
      elements = elements_of r.properties;
      filters = r.filters;
      reactions = r.reactions;
    }

abbrev pub plan_rows : List RowData → List PlanRow
plan_rows rows = map plan_row rows

abbrev pub plan_parts : LooperData → PlanParts
plan_parts l =
    record { name = l.name; capacity = l.capacity; quit_refused = l.quit_refused; preferred = l.preferred; common = l.common; rows = plan_rows l.rows }

abbrev pub plans : List LooperData → List PlanParts
plans loopers = map plan_parts loopers

abbrev pub app_text : AppData → AppText
app_text a = record { path = a.path; signature = a.signature; mode = a.mode; loopers = plans a.loopers }

abbrev pub described : List AppData → List AppText
described apps = map app_text apps

-- ---- with which nothing is wrong
-- so many can be kept as lists of their kind
pub record HasRoom (r : RowData) : Type 0 where
  pub properties : length r.properties ≤ row_limit
  pub reactions : length r.reactions ≤ reaction_limit

pub record IsWhole (l : LooperData) : Type 0 where
  pub rows : All HasRoom l.rows
  pub plan : IsPlan (plan_parts l)

abbrev pub AreWhole : List AppData → Type 0
AreWhole apps = All (λ (a : AppData). All IsWhole a.loopers) apps
