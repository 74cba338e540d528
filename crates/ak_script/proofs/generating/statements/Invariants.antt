-- The questions so far stand behind the launch and the sessions.
use Rattle.std.proofs.Common.{◌≡◌, ℕ, ◌∷◌}
use Rattle.ak_script.specs.Generated.{block, get_count, launch, up_to}
use Rattle.ak_script.specs.Statement.{hey_statement, launch_statement, together_statement}
use Rattle.ak_script.specs.StatementSeen.{statements_seen}
use Rattle.ak_script.proofs.generating.statements.Given as goal

abbrev pub invariant-loop-place : goal.invariant-loop-place
invariant-loop-place l =
    statements_seen l.statements.items
    ≡ launch_statement launch ∷ together_statement (block l.n) ∷ up_to l.place (λ (place : ℕ). hey_statement (get_count place))
