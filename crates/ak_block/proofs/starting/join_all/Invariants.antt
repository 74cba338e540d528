-- Whatever comes of those that still run stands behind what came of the others.
use Rattle.std.proofs.Common.{◌≡◌, ◌+◌, ◌≤◌, List, ◌++◌, length, vec_capacity}
use Rattle.ak_lines.specs.declared.job.SessionEnd.{SessionEnd}
use Rattle.ak_block.specs.Threads.{AreEnds, CameOfAll, jobs_of}
use Rattle.ak_block.proofs.starting.join_all.Given as goal

abbrev pub invariant-loop-handle : goal.invariant-loop-handle
invariant-loop-handle g l = record {
  joined : (more : List SessionEnd) → CameOfAll (jobs_of l.handle-iterator.rest.items) more → AreEnds (jobs_of l.fn.running.items) l.fn.ends.items (l.ends.items ++ more);
  room : length l.ends.items + length l.handle-iterator.rest.items ≤ vec_capacity l.ends;
  capacity : vec_capacity l.ends ≡ vec_capacity l.fn.ends;
}
