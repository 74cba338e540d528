-- The lines so far are the first ones.
use Rattle.std.proofs.Common.{◌≡◌, ℕ}
use Rattle.ak_script.specs.Generated.{incr, place_in, up_to}
use Rattle.ak_script.specs.Statement.{hey_line}
use Rattle.ak_script.specs.StatementSeen.{lines_seen}
use Rattle.ak_script.proofs.generating.sessions.session.Given as goal

abbrev pub invariant-loop-i : goal.invariant-loop-i
invariant-loop-i l = lines_seen l.lines.items ≡ up_to l.i (λ (i : ℕ). hey_line (incr (place_in l.s i)))
