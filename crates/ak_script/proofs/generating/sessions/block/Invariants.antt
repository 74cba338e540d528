-- The sessions so far are the first ones.
use Rattle.std.proofs.Common.{◌≡◌}
use Rattle.ak_script.specs.Generated.{session, up_to}
use Rattle.ak_script.specs.StatementSeen.{sessions_seen}
use Rattle.ak_script.proofs.generating.sessions.block.Given as goal

abbrev pub invariant-loop-s : goal.invariant-loop-s
invariant-loop-s l = sessions_seen l.sessions.items ≡ up_to l.s (session l.n)
