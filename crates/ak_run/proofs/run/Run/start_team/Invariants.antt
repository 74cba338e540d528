-- So many were started, and these are to follow, each with a gate; and main's acts so far.
use Rattle.std.proofs.Common.{◌≡◌, ◌≤◌, length, map}
use Rattle.std.specs.Prelude.{IsFalse, IsTrue}
use Rattle.ak_outside.specs.Faults.{Rose}
use Rattle.ak_run.specs.Recording.{fronts_with}
use Rattle.ak_team.specs.InTime.{new_front, team_fronts}
use Rattle.ak_run.specs.Starting.{IsStarting}
use Rattle.ak_run.specs.Stopping.{StopsSince}
use Rattle.ak_run.proofs.Starts.{RefusedBut, StartedBut}
use Rattle.ak_run.proofs.run.Run.start_team.Given as goal

abbrev pub invariant-loop-other : goal.invariant-loop-other
invariant-loop-other g l = record {
  starting : IsStarting l.team l.fn.self l.self l.other-iterator.rest.items;
  quiet : IsTrue l.all → fronts_with l.self (map new_front l.other-iterator.rest.items) ≡ fronts_with l.fn.self (team_fronts l.fn.new);
  stops : IsFalse l.all → StopsSince l.team l.fn.self (team_fronts l.fn.new) l.self (map new_front l.other-iterator.rest.items);
  kept : IsTrue l.all → g.W.Spawner.faults l.spawner ≡ g.W.Spawner.faults l.fn.spawner;
  cause : IsFalse l.all → Rose (g.W.Spawner.faults l.fn.spawner) (g.W.Spawner.faults l.spawner);
  never_falls : g.W.Spawner.faults l.fn.spawner ≤ g.W.Spawner.faults l.spawner;
  asked : IsTrue l.all → StartedBut (length l.other-iterator.rest.items) l.team.loopers (g.W.Spawner.calls l.fn.spawner) (g.W.Spawner.calls l.spawner);
  given_back : IsFalse l.all → RefusedBut (length l.other-iterator.rest.items) l.team.loopers (g.W.Spawner.calls l.fn.spawner) (g.W.Spawner.calls l.spawner);
  gates : length l.other-iterator.rest.items ≤ length l.gates.items;
}
