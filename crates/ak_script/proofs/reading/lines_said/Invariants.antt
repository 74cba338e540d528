-- The lines so far and those to come are all.
use Rattle.std.proofs.Common.{◌≡◌, drop}
use Rattle.ak_script.specs.Pass.{lines_said, nothing_said}
use Rattle.ak_script.specs.Seen.{so_far_of}
use Rattle.ak_script.proofs.reading.lines_said.Given as goal

abbrev pub invariant-loop-line : goal.invariant-loop-line
invariant-loop-line l = lines_said (so_far_of l.said) (drop l.line-index l.lines) ≡ lines_said nothing_said l.lines
