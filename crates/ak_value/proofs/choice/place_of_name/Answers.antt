use Rattle.std.proofs.Common.{sym, ◌∙◌, rules, tests}
use Rattle.std.specs.Str.{bytes_eq}
use Rattle.std.proofs.lemmas.Iterator.{YieldsList-from_slice}
use Rattle.std.proofs.lemmas.Iterator.Search.{position_from_yields_List}
use Rattle.ak_value.specs.Seen.{element_of}
use Rattle.ak_base.proofs.Surface.{position-map}
use Rattle.ak_value.proofs.choice.place_of_name.Goals as goal

pub returns : goal.returns
returns c =
    position_from_yields_List (λ e. bytes_eq (element_of e).name c.args.name.now) _ _ _ c.position.ensures.ran (YieldsList-from_slice c.args.list.now cc) (λ x b q k. search (rules, tests))
    ∙ sym (position-map element_of (λ e. bytes_eq e.name c.args.name.now) c.args.list.now)
