use Rattle.std.proofs.Common.{◌≡◌, drop}
use Rattle.ak_input.specs.Lines.{is_silent}
use Rattle.ak_input.proofs.lines.is_silent.Given as goal

-- what is left says what all says
abbrev pub invariant-loop-b : goal.invariant-loop-b
invariant-loop-b l = is_silent (drop l.b-index l.line) ≡ is_silent l.line
