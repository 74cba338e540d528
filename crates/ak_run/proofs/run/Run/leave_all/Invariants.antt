-- So far the run goes on, and so many teams are ended.
use Rattle.std.specs.List.{range_with_len}
use Rattle.ak_describe.specs.Whole.{heads_of}
use Rattle.ak_run.specs.Closing.{ClosesSo, EndsTeams}
use Rattle.ak_run.specs.Starting.{GoesOn}
use Rattle.ak_run.proofs.run.Run.leave_all.Given as goal

abbrev pub invariant-loop-place : goal.invariant-loop-place
invariant-loop-place g l = record {
  goes : GoesOn l.fn.self l.self;
  closed : ClosesSo (λ so_far. EndsTeams (heads_of l.fn.self.apps.items) so_far (range_with_len 1 l.place)) l.fn.self l.self;
}
