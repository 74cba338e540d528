use Rattle.std.proofs.Common.{sym, ◌∙◌, rules}
use Rattle.std.specs.Int.{w128}
use Rattle.std.specs.Prelude.{FitsSigned}
use Rattle.std.proofs.lemmas.Int.{to_z-of_z}
use Rattle.ak_input.proofs.Numbers.{int_found, int_none}
use Rattle.ak_input.proofs.payload.int_within.Goals as goal

pub returns-in-None-clause-number : goal.returns-in-None-clause-number
returns-in-None-clause-number c = sym (int_none c.args.low c.args.high c.args.text.now c.requires.low c.requires.high c.in-None.ensures.none)

pub returns-in-Some-clause-number : goal.returns-in-Some-clause-number
returns-in-Some-clause-number c =
    let low : FitsSigned w128 c.args.low = search rules in
    let high : FitsSigned w128 c.args.high = search rules in
    let number : FitsSigned w128 c.in-Some.number = search rules in
    let given = rw (to_z-of_z w128 c.args.low low, to_z-of_z w128 c.args.high high, to_z-of_z w128 c.in-Some.number number) at c.within.ensures.number in
    given ∙ sym (int_found c.args.low c.args.high c.args.text.now c.in-Some.number c.in-Some.ensures.found)
