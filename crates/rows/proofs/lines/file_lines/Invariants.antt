use Rattle.std.proofs.Common.{◌≡◌, ◌++◌, map, length, ◌+◌}
use Rattle.rows.specs.Lines.{line_seen, lines_of, numbered}
use Rattle.rows.proofs.lines.file_lines.Given as goal

abbrev pub invariant-loop-rest : goal.invariant-loop-rest
invariant-loop-rest l = map line_seen l.lines.items ++ numbered (length l.lines.items + 1) (lines_of l.rest) ≡ numbered 1 (lines_of l.fn.file)

abbrev pub decreases-loop-rest : goal.decreases-loop-rest
decreases-loop-rest l = length l.rest
