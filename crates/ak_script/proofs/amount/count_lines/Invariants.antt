-- The lines so far and those to come are all.
use Rattle.std.proofs.Common.{◌≡◌, ◌+◌, drop}
use Rattle.ak_script.specs.Statement.{lines_in}
use Rattle.ak_script.specs.StatementSeen.{statements_seen}
use Rattle.ak_script.proofs.amount.count_lines.Given as goal

abbrev pub invariant-loop-statement : goal.invariant-loop-statement
invariant-loop-statement l = l.lines + lines_in (statements_seen (drop l.statement-index l.statements)) ≡ lines_in (statements_seen l.statements)
