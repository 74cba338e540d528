-- The value that is there is the field's only one.
use Rattle.std.proofs.Common.{◌≡◌, ◌<◌, Some, Bor, option_map, ap, ◌∙◌, refl, arith}
use Rattle.std.proofs.lemmas.Grind.{common_steps}
use Rattle.ak_message.specs.declared.message.Value.{Value}
use Rattle.ak_message.specs.Message.{depth_of_value}
use Rattle.ak_message.specs.Seen.{value_of}
use Rattle.ak_action.proofs.Growing.{OnOk-then, held-alone}
use Rattle.ak_action.proofs.building.add_held.Goals as goal

pub returns-in_ok-copy-in-Some : goal.returns-in_ok-copy-in-Some
returns-in_ok-copy-in-Some c =
    let v = value_of c.in_ok-copy-in-Some.copy in
    let w = value_of c.in-Some.value.now in
    let same : v ≡ w = grind (arith, common_steps) in
    let shallow : depth_of_value w < 16 = grind (arith, common_steps) in
    let is : option_map (λ (x : Bor Value). value_of x.now) c.args.value ≡ Some w = ap (option_map (λ (x : Bor Value). value_of x.now)) c.in-Some.is in
    let m = c.args.message.now in
    OnOk-then c.add_fitting.result (λ e. e ∙ held-alone m.fields c.args.name.now c.requires v m refl w _ same is shallow) c.add_fitting.ensures.ok
