-- No session was opened, so none is open.
use Rattle.std.proofs.Common.{◌≡◌, ◌≤◌, List, [], ◌∷◌, length, true, is_some, refl, arith}
use Rattle.std.specs.List.{list_all}
use Rattle.ak_run.specs.Sessions.{Told, sessions_of}
use Rattle.uses_runs.proofs.stage.Stage.end.Goals as goal

none_open : (all : List Told) → length all ≤ 0 → list_all (λ (t : Told). is_some t.1) all ≡ true
none_open [] few = refl
none_open (x ∷ all) few = absurd (omega (arith, few))

pub end-requires-clause-closed : goal.end-requires-clause-closed
end-requires-clause-closed g c = none_open (sessions_of c.args.self.run) (omega (arith, c.sessions.ensures, c.if-sessions-gt0.false))
