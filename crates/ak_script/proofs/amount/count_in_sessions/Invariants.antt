-- The lines so far and those to come are all.
use Rattle.std.proofs.Common.{◌≡◌, ◌+◌, drop}
use Rattle.ak_script.specs.Statement.{lines_of_sessions}
use Rattle.ak_script.specs.StatementSeen.{sessions_seen}
use Rattle.ak_script.proofs.amount.count_in_sessions.Given as goal

abbrev pub invariant-loop-session : goal.invariant-loop-session
invariant-loop-session l = l.lines + lines_of_sessions (sessions_seen (drop l.session-index l.sessions)) ≡ lines_of_sessions (sessions_seen l.sessions)
