use Rattle.std.proofs.Common.{sym, ◌∙◌}
use Rattle.std.proofs.lemmas.Result.{err_from_is_err_and}
use Rattle.ak_input.proofs.WordLoop.{opened_ok, ended_ok, goes_ok, goes_fails}
use Rattle.ak_input.proofs.words.next.Goals as goal

pub returns-in_default-clause-reads : goal.returns-in_default-clause-reads
returns-in_default-clause-reads c =
    opened_ok c.opened.result c.args.words.now.items c.args.begun c.args.column c.args.b c.in_default.is c.opened.ensures.begun

pub returns-then-ends_before-clause-reads : goal.returns-then-ends_before-clause-reads
returns-then-ends_before-clause-reads c =
    ended_ok c.opened-then-ends_before.result c.args.words.now.items c.push.new.self.items c.args.begun c.in-Some.word c.args.column c.args.b c.in-Some.is (sym c.ends_before.ensures ∙ c.if-ends_before.true) c.in_ok-push.ensures.items c.opened-then-ends_before.ensures.begun

pub returns-in_err-with-clause-fault : goal.returns-in_err-with-clause-fault
returns-in_err-with-clause-fault c =
    let p = err_from_is_err_and c.from_residual-in_err-with.result c.from_residual-in_err-with.ensures.1 in
    rw (p.1, p.2) (goes_fails c.in_err-with.field-0.0 c.args.begun c.in-Some.word c.args.column c.args.b c.in-Some.is (sym c.ends_before.ensures ∙ c.if-ends_before.false) c.in_err-with.ensures.fault)

pub returns-clause-reads : goal.returns-clause-reads
returns-clause-reads c =
    goes_ok c.args.words.now.items c.args.begun c.in-Some.word c.in_ok-with.field-0 c.args.column c.args.b c.in-Some.is (sym c.ends_before.ensures ∙ c.if-ends_before.false) c.in_ok-with.ensures.grown
