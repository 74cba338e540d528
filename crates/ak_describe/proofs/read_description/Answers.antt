-- What is answered is what both passes make of all lines.
use Rattle.std.proofs.Common.{List, Vec, IfErr, IfOk, subst}
use Rattle.std.proofs.lemmas.Result.{err_from_is_err_and}
use Rattle.std.specs.declared.alloc.Global.{Global}
use Rattle.ak_input.specs.declared.line.Line.{Line}
use Rattle.ak_describe.specs.declared.described.AppText.{AppText}
use Rattle.ak_describe.specs.Answers.{Answers}
use Rattle.ak_describe.specs.Describes.{Describes}
use Rattle.ak_describe.specs.Description.{description}
use Rattle.ak_describe.specs.Laws.{IsFirstFault}
use Rattle.ak_describe.specs.Seen.{apps_seen}
use Rattle.ak_describe.proofs.answered.Prefixes.{end_told_of, read_is_first, told_all}
use Rattle.ak_describe.proofs.read_description.Goals as goal

pub returns-in_err-pass-clause-answer : goal.returns-in_err-pass-clause-answer
returns-in_err-pass-clause-answer c =
    let p = err_from_is_err_and c.from_residual.result c.from_residual.ensures.1 in
    rw (p.1, p.2) (told_all c.args.lines.now c.in_err-pass.field-0.0 c.in_err-pass.ensures.refused)

pub returns-in_err-pass-clause-refused : goal.returns-in_err-pass-clause-refused
returns-in_err-pass-clause-refused c =
    let p = err_from_is_err_and c.from_residual.result c.from_residual.ensures.1 in
    rw (p.1, p.2) (read_is_first c.args.lines.now c.in_err-pass.field-0.0 c.in_err-pass.ensures.refused)

pub returns-in-Some-clause-answer : goal.returns-in-Some-clause-answer
returns-in-Some-clause-answer c = end_told_of c.in_ok-pass.pass c.args.lines.now c.in-Some.fault c.in_ok-pass.ensures.read c.in-Some.ensures.fault

pub returns-in-Some-clause-refused : goal.returns-in-Some-clause-refused
returns-in-Some-clause-refused c = subst (λ (lines : List Line). IsFirstFault lines c.in-Some.fault) c.in_ok-pass.ensures.read c.in-Some.ensures.refused

pub returns-clause-answer : goal.returns-clause-answer
returns-clause-answer c = subst (λ (lines : List Line). Answers apps_seen c.second_pass.result (description lines)) c.in_ok-pass.ensures.read c.second_pass.ensures.answer

pub returns-clause-described : goal.returns-clause-described
returns-clause-described c =
    subst (λ (lines : List Line). IfOk c.second_pass.result (λ (apps : Vec AppText Global). Describes lines apps.items)) c.in_ok-pass.ensures.read c.second_pass.ensures.described

pub returns-clause-refused : goal.returns-clause-refused
returns-clause-refused c = subst (λ (lines : List Line). IfErr c.second_pass.result (IsFirstFault lines)) c.in_ok-pass.ensures.read c.second_pass.ensures.refused
