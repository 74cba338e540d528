-- A thread runs for each of the sessions so far.
use Rattle.std.proofs.Common.{◌≡◌, take, vec_capacity}
use Rattle.ak_describe.specs.Whole.{heads_of}
use Rattle.ak_run.specs.Running.{IsRunning}
use Rattle.ak_run.specs.Sending.{looper_count}
use Rattle.ak_run.specs.Starts.{StartsAll}
use Rattle.ak_block.specs.Threads.{jobs_of}
use Rattle.ak_block.proofs.Started.{AreStarted}
use Rattle.ak_block.proofs.blocks.run_sessions.Given as goal

abbrev pub invariant-loop-lines : goal.invariant-loop-lines
invariant-loop-lines g l = record {
  started : AreStarted (heads_of l.fn.run.apps.items) (take l.lines-index l.sessions) l.fn.run l.run (jobs_of l.running.items);
  capacity : vec_capacity l.running ≡ vec_capacity l.fn.running;
  ends : l.ends ≡ l.fn.ends;
  running : IsRunning l.run;
  apps : l.run.apps ≡ l.fn.run.apps;
  faults : g.W.Spawner.faults l.spawner ≡ g.W.Spawner.faults l.fn.spawner;
  starts : StartsAll l.lines-index (g.W.Spawner.calls l.fn.spawner) (g.W.Spawner.calls l.spawner);
  count : looper_count l.run ≡ looper_count l.fn.run;
}
