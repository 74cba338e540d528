-- What is always true of what lines describe so far.
use Rattle.std.proofs.Common.{◌≡◌, ◌≤◌, true, ◌&&◌, List, length, Option, None, Some, nat_le, All}
use Rattle.std.specs.List.{list_all}
use Rattle.ak_action.specs.declared.action.Reaction.{Reaction}
use Rattle.ak_action.specs.Plan.{begin_with_looper, fits_reaction, kinds_fit, names_are_words, names_differ, table_names_differ}
use Rattle.ak_describe.specs.declared.named.Need.{Need}
use Rattle.ak_describe.specs.declared.named.Need.TheVariants as needs
use Rattle.ak_describe.specs.declared.parts.PropertyParts.{PropertyParts}
use Rattle.ak_describe.specs.Described.{elements_of, plan_rows, table_of}
use Rattle.ak_describe.specs.Parts.{RowData, LooperData, AppData}
use Rattle.ak_describe.proofs.built.Forming.{with_properties}

-- ---- a handler
-- the names of properties differ
abbrev pub NamesDiffer : List PropertyParts → Type 0
NamesDiffer ps = table_names_differ (table_of ps) ≡ true

-- elements are of the kind of their property
abbrev pub KindsFit : List PropertyParts → Type 0
KindsFit ps = kinds_fit (table_of ps) (elements_of ps) ≡ true

abbrev pub ActionsFit : List PropertyParts → List Reaction → Type 0
ActionsFit ps rs = list_all (fits_reaction (with_properties ps)) rs ≡ true

pub record RowFits (r : RowData) : Type 0 where
  pub suites : length r.suites ≤ 16
  pub properties : length r.properties ≤ 64
  pub reactions : length r.reactions ≤ 64
  pub names_differ : NamesDiffer r.properties
  pub kinds_fit : KindsFit r.properties
  pub actions_fit : ActionsFit r.properties r.reactions

-- ---- a looper: the first handler is itself, and has no next one
pub record LooperFits (l : LooperData) : Type 0 where
  pub capacity : (nat_le 1 l.capacity && nat_le l.capacity 1000) ≡ true
  pub looper : begin_with_looper (plan_rows l.rows) l.name ≡ true
  pub few : length l.rows ≤ 64
  pub words : names_are_words (plan_rows l.rows) ≡ true
  pub names_differ : names_differ (plan_rows l.rows) ≡ true
  pub rows : All RowFits l.rows

-- ---- an application
pub record AppFits (a : AppData) : Type 0 where
  pub few : length a.loopers ≤ 8
  pub loopers : All LooperFits a.loopers

-- ---- what a line makes of a handler
-- no line but that of a next handler names one
abbrev pub IsNoNext : Option Need → Type 0
IsNoNext None = Unit {0}
IsNoNext (Some (needs.Next name)) = ⊥
IsNoNext (Some (needs.Handler name)) = Unit {0}
IsNoNext (Some (needs.Looper name)) = Unit {0}
IsNoNext (Some (needs.AskLooper name)) = Unit {0}
IsNoNext (Some (needs.AskApp word)) = Unit {0}

pub record RowLeft (r left : RowData) (need : Option Need) : Type 0 where
  pub fits : RowFits r → RowFits left
  pub name : left.name ≡ r.name
  pub next : left.next ≡ r.next
  pub no_next : IsNoNext need
