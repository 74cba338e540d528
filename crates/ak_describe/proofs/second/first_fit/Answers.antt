-- The applications as they are seen.
use Rattle.std.proofs.Common.{sym, ◌∙◌, rules, tests}
use Rattle.std.proofs.lemmas.Iterator.{YieldsList-from_slice}
use Rattle.std.proofs.lemmas.Iterator.Search.{position_from_yields_List}
use Rattle.ak_base.proofs.Surface.{position-map}
use Rattle.ak_describe.specs.Second.{fits}
use Rattle.ak_describe.specs.Seen.{app_data}
use Rattle.ak_describe.proofs.second.first_fit.Goals as goal

pub returns : goal.returns
returns c =
    position_from_yields_List (λ x. fits c.args.word.now (app_data x)) _ _ _ c.position.ensures.ran (YieldsList-from_slice c.args.apps.now cc) (λ x b q k. search (rules, tests))
    ∙ sym (position-map app_data (fits c.args.word.now) c.args.apps.now)
