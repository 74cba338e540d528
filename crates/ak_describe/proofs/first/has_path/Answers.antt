-- The applications as they are seen.
use Rattle.std.proofs.Common.{◌≡◌, sym, ◌∙◌, rules, tests}
use Rattle.std.specs.List.{list_any}
use Rattle.std.specs.Str.{bytes_eq}
use Rattle.std.proofs.lemmas.Iterator.{YieldsList-from_slice}
use Rattle.std.proofs.lemmas.Iterator.Search.{any_from_yields_List}
use Rattle.ak_describe.specs.declared.parts.AppParts.{AppParts}
use Rattle.ak_describe.specs.Parts.{AppData}
use Rattle.ak_describe.specs.Seen.{app_data}
use Rattle.ak_describe.proofs.ground.Seeing.{any-map}
use Rattle.ak_describe.proofs.first.has_path.Goals as goal

pub returns : goal.returns
returns c =
    let one_of : c.any.result ≡ list_any (λ (a : AppParts). bytes_eq a.path c.args.path.now) c.args.apps.now =
    any_from_yields_List (λ (a : AppParts). bytes_eq a.path c.args.path.now) _ _ c.any.result c.any.ensures.ran (YieldsList-from_slice _ c.iter.ensures.rest) (λ x b q k. search (rules, tests)) in
    one_of ∙ sym (any-map app_data (λ (a : AppData). bytes_eq a.path c.args.path.now) c.args.apps.now)
