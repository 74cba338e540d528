use Rattle.std.proofs.Common.{sym, ◌∙◌}
use Rattle.std.proofs.lemmas.Result.{err_from_is_err_and}
use Rattle.ak_input.proofs.WordLoop.{split_ok, split_fails}
use Rattle.ak_input.proofs.words.split.Goals as goal

pub returns-in_err-words_of : goal.returns-in_err-words_of
returns-in_err-words_of c =
    let p = err_from_is_err_and c.from_residual.result c.from_residual.ensures.1 in
    rw (p.1, p.2) (split_fails c.in_err-words_of.field-0.0 c.args.line.now (sym c.is_utf8.ensures ∙ c.if-not-is_utf8.false) c.in_err-words_of.ensures.fault)

pub returns : goal.returns
returns c =
    rw c.from_vec.ensures (split_ok c.in_ok-words_of.field-0.items c.args.line.now (sym c.is_utf8.ensures ∙ c.if-not-is_utf8.false) c.in_ok-words_of.ensures.words)
