-- The handlers as they are seen.
use Rattle.std.proofs.Common.{sym, ◌∙◌, rules, tests}
use Rattle.std.specs.Str.{bytes_eq}
use Rattle.std.proofs.lemmas.Iterator.{YieldsList-from_slice}
use Rattle.std.proofs.lemmas.Iterator.Search.{position_from_yields_List}
use Rattle.ak_base.proofs.Surface.{position-map}
use Rattle.ak_describe.specs.Parts.{RowData}
use Rattle.ak_describe.specs.Seen.{row_data}
use Rattle.ak_describe.proofs.parts.row_named.Goals as goal

pub returns : goal.returns
returns c =
    position_from_yields_List (λ x. bytes_eq (row_data x).name c.args.name.now) _ _ _ c.position.ensures.ran (YieldsList-from_slice c.args.rows.now cc) (λ x b q k. search (rules, tests))
    ∙ sym (position-map row_data (λ (x : RowData). bytes_eq x.name c.args.name.now) c.args.rows.now)
