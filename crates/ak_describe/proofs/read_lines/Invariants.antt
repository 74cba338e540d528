-- The lines so far and those to come are all.
use Rattle.std.proofs.Common.{◌≡◌, ◌++◌, drop}
use Rattle.ak_describe.proofs.read_lines.Given as goal

abbrev pub invariant-loop-line : goal.invariant-loop-line
invariant-loop-line l = l.pass ++ drop l.line-index l.lines ≡ l.lines
