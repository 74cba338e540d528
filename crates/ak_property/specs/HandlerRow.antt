-- What routing sees of what a handler holds.
use Rattle.std.specs.Prelude.{ℕ, List}
use Rattle.ak_filter.specs.declared.filter.Filter.{Filter}
use Rattle.ak_property.specs.declared.table.PropertyRow.{PropertyRow}

pub record RowData : Type 0 where
  -- its property table
  pub table : List PropertyRow
  pub filters : List Filter
  -- the codes on which it has reactions
  pub reactions : List ℕ
