-- The kinds are the same.
use Rattle.std.proofs.Common.{◌≡◌, ◌∙◌, to_z, of_z, arith}
use mir.Syntax.{w128}
use Rattle.std.proofs.lemmas.Grind.{common_steps}
use Rattle.std.proofs.lemmas.Int.{to_z-of_z}
use Rattle.ak_action.specs.Number.{number_kind}
use Rattle.ak_action.proofs.Sums.{is_sum}
use Rattle.ak_action.proofs.number.Number.plus.Goals as goal

pub returns : goal.returns
returns c =
    let same : number_kind c.args.self ≡ number_kind c.args.other = grind (arith, common_steps) in
    let int : to_z w128 (of_z w128 c.int_sum.result) ≡ c.int_sum.result = grind (arith, to_z-of_z) in
    is_sum _ _ _ _ _ same c.kind-3.ensures (int ∙ c.int_sum.ensures) c.in_kind.ensures
