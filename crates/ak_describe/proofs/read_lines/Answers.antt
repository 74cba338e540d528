-- One line after another is read, up to the last one or the first that is refused.
use Rattle.std.proofs.lemmas.Result.{err_from_is_err_and}
use Rattle.ak_describe.proofs.answered.Prefixes.{come_on, come_through, told_on}
use Rattle.ak_describe.proofs.read_lines.Goals as goal

pub returns-in_err-read_line-clause-refused : goal.returns-in_err-read_line-clause-refused
returns-in_err-read_line-clause-refused c =
    let p = err_from_is_err_and c.from_residual.result c.from_residual.ensures.1 in
    rw (p.1, p.2) (told_on c.args.lines.now c.loop-line.line-index c.line-item.result c.loop-line.pass c.in_err-read_line.field-0.0 c.loop-line-test.true c.line-item.is c.loop-line.invariant c.in_err-read_line.ensures.answer)

pub loop-line-preserved : goal.loop-line-preserved
loop-line-preserved c =
    come_on c.args.lines.now c.loop-line.line-index c.line-item.result c.loop-line.pass c.read_line.new.self c.loop-line-test.true c.line-item.is c.loop-line.invariant c.in_ok-read_line.ensures.read

pub returns-clause-read : goal.returns-clause-read
returns-clause-read c = come_through c.args.lines.now c.loop-line.line-index c.loop-line.pass c.loop-line-test.false c.loop-line.invariant
