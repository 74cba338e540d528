-- What came of the jobs, end after end.
use Rattle.std.proofs.Common.{◌≡◌, ◌+◌, List, [], ◌∷◌, ◌++◌, length, append_assoc, refl, ap, ◌∙◌, arith}
use Rattle.std.proofs.lemmas.List.{length-append}
use Rattle.ak_lines.specs.declared.job.SessionEnd.{SessionEnd}
use Rattle.ak_lines.specs.declared.job.SessionJob.{SessionJob}
use Rattle.ak_lines.specs.Carried.{HasCarriedOut}
use Rattle.ak_block.specs.Threads.{AreEnds, CameOfAll}

-- one more
came_push : (jobs : List SessionJob) (ends : List SessionEnd) (job : SessionJob) (end : SessionEnd) → CameOfAll jobs ends → HasCarriedOut job end → CameOfAll (jobs ++ job ∷ []) (ends ++ end ∷ [])
came_push [] [] job end came one = (one, tt)
came_push (j ∷ jobs) (e ∷ ends) job end came one = (came.0, came_push jobs ends job end came.1 one)
came_push _ _ job end came one = absurd came

pub ends_push : (jobs : List SessionJob) (before after more : List SessionEnd) (job : SessionJob) (end : SessionEnd) → AreEnds jobs before after → HasCarriedOut job end → more ≡ after ++ end ∷ [] → AreEnds (jobs ++ job ∷ []) before more
ends_push jobs before after more job end are one is = record {
  ends = are.ends ++ end ∷ [];
  are = came_push jobs are.ends job end are.are one;
  behind = is ∙ ap (λ (l : List SessionEnd). l ++ end ∷ []) are.behind ∙ append_assoc before are.ends (end ∷ []);
}

-- how many
pub came_count : (jobs : List SessionJob) (ends : List SessionEnd) → CameOfAll jobs ends → length ends ≡ length jobs
came_count [] [] came = refl
came_count (j ∷ jobs) (e ∷ ends) came = omega (arith, came_count jobs ends came.1)
came_count _ _ came = absurd came

pub ends_count : (jobs : List SessionJob) (before after : List SessionEnd) → AreEnds jobs before after → length after ≡ length before + length jobs
ends_count jobs before after are = omega (arith, ap (λ (l : List SessionEnd). length l) are.behind, length-append before are.ends, came_count jobs are.ends are.are)
