-- The statements so far are played, and there is room for what the others may come to.
use Rattle.std.proofs.Common.{◌≡◌, ◌+◌, ◌≤◌, drop, true}
use Rattle.ak_run.specs.Running.{IsRunning}
use Rattle.ak_run.specs.Sessions.{all_closed, session_count}
use Rattle.ak_run.specs.Starts.{StartsMore, thread_count}
use Rattle.ak_script.specs.Limits.{statement_limit}
use Rattle.ak_script.specs.Statement.{lines_in}
use Rattle.ak_script.specs.StatementSeen.{statements_seen}
use Rattle.ak_play.specs.Gathered.{HasRoom, gathered_seen}
use Rattle.ak_play.specs.Parts.{all_sessions_in}
use Rattle.ak_play.specs.Steps.{IsPlayedSoFar}
use Rattle.ak_play.proofs.stepping.play_all.Given as goal

abbrev pub invariant-loop-statement : goal.invariant-loop-statement
invariant-loop-statement g l = record {
  so_far : IsPlayedSoFar l.fn.run.apps.items l.statements (gathered_seen l.gathered) l.statement-index l.run (g.K.Sink.written l.fn.sink) (g.K.Sink.written l.sink) (g.K.Sink.faults l.sink ≡ g.K.Sink.faults l.fn.sink);
  room : HasRoom (lines_in (statements_seen (drop l.statement-index l.statements))) l.gathered;
  few : session_count l.run + all_sessions_in (drop l.statement-index l.statements) ≤ statement_limit;
  spawner_kept : g.W.Spawner.faults l.spawner ≡ g.W.Spawner.faults l.fn.spawner;
  starts : StartsMore 0 (thread_count l.run) (g.W.Spawner.calls l.fn.spawner) (g.W.Spawner.calls l.spawner);
  running : IsRunning l.run;
  closed : all_closed l.run ≡ true;
  apps : l.run.apps ≡ l.fn.run.apps;
}
