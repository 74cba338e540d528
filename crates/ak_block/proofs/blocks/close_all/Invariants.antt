-- The sessions so far were closed, and the others may be.
use Rattle.std.proofs.Common.{◌≡◌, ◌+◌, ◌≤◌, ℕ, List, length, vec_capacity}
use Rattle.ak_roster.specs.declared.head.AppHead.{AppHead}
use Rattle.ak_script.specs.declared.statement.SessionLines.{SessionLines}
use Rattle.ak_run.specs.Running.{IsRunning}
use Rattle.ak_run.specs.Sending.{looper_count}
use Rattle.ak_run.specs.Sessions.{Told}
use Rattle.ak_block.specs.Together.{AreOpen}
use Rattle.ak_block.proofs.Closing.{ClosedSoFar}
use Rattle.ak_block.proofs.blocks.close_all.Given as goal

abbrev pub invariant-loop-end : goal.invariant-loop-end
invariant-loop-end g l = record {
  kept : (heads : List AppHead) (before : List Told) (time from : ℕ) (sessions : List SessionLines) → AreOpen heads before time from sessions l.fn.run l.fn.ends.items → ClosedSoFar heads before time from sessions l.fn.run l.run l.end-iterator.rest.items l.heard.items;
  room : length l.heard.items + length l.end-iterator.rest.items ≤ vec_capacity l.heard;
  running : IsRunning l.run;
  count : looper_count l.run ≡ looper_count l.fn.run;
  apps : l.run.apps ≡ l.fn.run.apps;
}
