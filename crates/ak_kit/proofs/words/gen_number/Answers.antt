use Rattle.std.proofs.Common.{rules}
use Rattle.std.proofs.lemmas.Int.{to_z-of_z}
use Rattle.ak_kit.proofs.Command.{no_number, none_taken, only_number}
use Rattle.ak_kit.proofs.words.gen_number.Goals as goal
use mir.Syntax.{w128}
use mir.Val.{SFits}

pub returns-in_default-clause-none : goal.returns-in_default-clause-none
returns-in_default-clause-none c = λ n from few is. no_number c.printed_ints_are_read.ensures c.args.digits.now c.in_default.ensures.none n few is

pub returns-clause-only : goal.returns-clause-only
returns-clause-only c =
    let fits : SFits w128 c.in-Some.number = search rules in
    only_number c.one_int_text.ensures c.args.digits.now c.in-Some.number c.in-Some.ensures.found c.small_number.result (simp to_z-of_z at c.small_number.ensures.same)

pub returns-clause-none : goal.returns-clause-none
returns-clause-none c =
    let fits : SFits w128 c.in-Some.number = search rules in
    none_taken c.one_int_text.ensures c.printed_ints_are_read.ensures c.args.digits.now c.in-Some.number c.in-Some.ensures.found c.small_number.result (simp to_z-of_z at c.small_number.ensures.none)
