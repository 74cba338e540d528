-- The loopers as they are seen.
use Rattle.std.proofs.Common.{sym, ◌∙◌, rules, tests}
use Rattle.std.specs.Str.{bytes_eq}
use Rattle.std.proofs.lemmas.Iterator.{YieldsList-from_slice}
use Rattle.std.proofs.lemmas.Iterator.Search.{position_from_yields_List}
use Rattle.ak_base.proofs.Surface.{position-map}
use Rattle.ak_describe.specs.Parts.{LooperData}
use Rattle.ak_describe.specs.Seen.{looper_data}
use Rattle.ak_describe.proofs.parts.looper_named.Goals as goal

pub returns : goal.returns
returns c =
    position_from_yields_List (λ x. bytes_eq (looper_data x).name c.args.name.now) _ _ _ c.position.ensures.ran (YieldsList-from_slice c.args.loopers.now cc) (λ x b q k. search (rules, tests))
    ∙ sym (position-map looper_data (λ (x : LooperData). bytes_eq x.name c.args.name.now) c.args.loopers.now)
