-- What is answered stands on both passes.
use Rattle.std.proofs.Common.{◌≡◌, ◌∙◌, List, Ok, ap, sym, arith}
use Rattle.std.proofs.lemmas.Grind.{common_steps}
use Rattle.ak_describe.specs.declared.described.AppText.{AppText}
use Rattle.ak_describe.specs.Seen.{apps_data, state_of}
use Rattle.ak_describe.proofs.answered.Told.{described_then, none_of, told_of, whole_then}
use Rattle.ak_describe.proofs.pass.app_texts.Goals as goal

pub returns-in-Some : goal.returns-in-Some
returns-in-Some c =
    let same : c.deref.result.now ≡ c.args.said.apps.items = grind (arith, common_steps) in
    let alike : c.deref-2.result.now ≡ c.args.said.names.items = grind (arith, common_steps) in
    told_of (state_of c.args.said) _ _ _ c.requires (ap apps_data same) alike c.in-Some.ensures

pub described-requires : goal.described-requires
described-requires c =
    let same : c.deref.result.now ≡ c.args.said.apps.items = grind (arith, common_steps) in
    let alike : c.deref-2.result.now ≡ c.args.said.names.items = grind (arith, common_steps) in
    whole_then (state_of c.args.said) c.requires (none_of (state_of c.args.said) _ _ c.requires (ap apps_data same) alike c.in_default.ensures)

pub returns : goal.returns
returns c =
    let same : c.deref.result.now ≡ c.args.said.apps.items = grind (arith, common_steps) in
    let alike : c.deref-2.result.now ≡ c.args.said.names.items = grind (arith, common_steps) in
    described_then (state_of c.args.said) (none_of (state_of c.args.said) _ _ c.requires (ap apps_data same) alike c.in_default.ensures)
    ∙ ap (λ (apps : List AppText). Ok apps) (sym c.in_ok-described.ensures)
