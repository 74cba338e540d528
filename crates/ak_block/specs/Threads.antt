-- The threads of a block's sessions: what each was started with, and what came of it.
use Rattle.std.specs.Prelude.{◌≡◌, List, [], ◌∷◌, ◌++◌, map}
use Rattle.std.specs.declared.thread.PromisedHandle.{PromisedHandle}
use Rattle.ak_lines.specs.declared.job.SessionEnd.{SessionEnd}
use Rattle.ak_lines.specs.declared.job.SessionJob.{SessionJob}
use Rattle.ak_lines.specs.Carried.{HasCarriedOut}
use Rattle.ak_block.specs.declared.starting.Carries.{Carries}

-- what each was started with
abbrev pub jobs_of : List (PromisedHandle SessionEnd Carries) → List SessionJob
jobs_of running = map (λ (handle : PromisedHandle SessionEnd Carries). handle.promise.0.value) running

-- each end is what came of the job in its place
abbrev pub CameOfAll : List SessionJob → List SessionEnd → Type 0
CameOfAll [] [] = Unit {0}
CameOfAll (job ∷ jobs) (end ∷ ends) = HasCarriedOut job end × CameOfAll jobs ends
CameOfAll _ _ = ⊥

-- these stand behind the ends so far
pub record AreEnds (jobs : List SessionJob) (before after : List SessionEnd) : Type 0 where
  pub ends : List SessionEnd
  pub are : CameOfAll jobs ends
  pub behind : after ≡ before ++ ends
