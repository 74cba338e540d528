-- As far as sessions were opened and threads were started.
use Rattle.std.proofs.Common.{◌≡◌, ◌+◌, ◌<◌, ◌≤◌, ℕ, List, [], ◌∷◌, ◌++◌, length, take, drop, get_or, refl, sym, ap, ◌∙◌, subst, arith}
use Rattle.std.specs.Prelude.{Result, Ok, Err}
use Rattle.std.proofs.lemmas.List.{drop_all, length-drop, length-take-le, take-append-drop, take_more}
use Rattle.ak_base.specs.declared.no_memory.NoMemory.{NoMemory}
use Rattle.ak_roster.specs.declared.head.AppHead.{AppHead}
use Rattle.ak_script.specs.declared.statement.SessionLines.{SessionLines}
use Rattle.ak_lines.specs.declared.job.SessionEnd.{SessionEnd}
use Rattle.ak_lines.specs.declared.job.SessionJob.{SessionJob}
use Rattle.ak_run.specs.declared.run.Run.{Run}
use Rattle.ak_run.specs.Sessions.{session_count}
use Rattle.ak_block.specs.declared.blocks.Cut.TheVariants as cut
use Rattle.ak_block.specs.Threads.{AreEnds}
use Rattle.ak_block.specs.Together.{HasOpened, HasRunSessions}
use Rattle.ak_block.proofs.Started.{AreStarted, count_now, has_run, jobs_count, not_started, started_push}

module _ (heads : List AppHead) (sessions : List SessionLines) (i : ℕ) (most : i ≤ length sessions) (r s : Run) (jobs : List SessionJob) (so_far : AreStarted heads (take i sessions) r s jobs) where
  -- how many
  pub number_now : session_count s ≡ session_count r + i
  number_now = count_now heads (take i sessions) r s jobs so_far ∙ ap (λ (n : ℕ). session_count r + n) (length-take-le i sessions most)

  pub jobs_now : length jobs ≡ i
  jobs_now = jobs_count heads r.hands.clock.time (session_count r + 1) (take i sessions) jobs so_far.are ∙ length-take-le i sessions most

  -- the next one too
  pub next_started : (lines : SessionLines) (job : SessionJob) (t : Run) → i < length sessions → lines ≡ get_or sessions i lines → HasOpened heads lines (Ok job) s t → AreStarted heads (take (i + 1) sessions) r t (jobs ++ job ∷ [])
  next_started lines job t within is opened =
      subst (λ (l : List SessionLines). AreStarted heads l r t (jobs ++ job ∷ [])) (sym (take_more sessions i lines within ∙ ap (λ (x : SessionLines). take i sessions ++ x ∷ []) (sym is))) (started_push heads (take i sessions) r s jobs so_far lines job t opened)

  module _ (ends ends' : List SessionEnd) (none : ends ≡ []) where
    parts : sessions ≡ take i sessions ++ drop i sessions
    parts = sym (take-append-drop i sessions)

    -- all of them
    pub all_run : length sessions ≤ i → AreEnds jobs ends ends' → HasRunSessions heads sessions (Ok tt) r s ends'
    all_run past came = has_run heads (take i sessions) r s jobs so_far sessions (drop i sessions) (Ok tt) ends ends' parts (drop_all i sessions past) none came

    -- no memory for the next one
    pub short_run : (lines : SessionLines) (e : NoMemory) (t : Run) → i < length sessions → HasOpened heads lines (Err e) s t → AreEnds jobs ends ends' → HasRunSessions heads sessions (Err cut.NoMemory) r t ends'
    short_run lines e t within opened came = has_run heads (take i sessions) r t jobs (not_started heads (take i sessions) r s jobs so_far lines e t opened) sessions (drop i sessions) (Err cut.NoMemory) ends ends' parts (omega (arith, length-drop i sessions, within)) none came

-- no thread for the last one
pub last_run : (heads : List AppHead) (sessions : List SessionLines) (i : ℕ) → i + 1 ≤ length sessions → (r s : Run) (jobs : List SessionJob) → AreStarted heads (take (i + 1) sessions) r s jobs → (ends ends' : List SessionEnd) → ends ≡ [] → AreEnds jobs ends ends'
    → HasRunSessions heads sessions (Err cut.ThreadFault) r s ends'
last_run heads sessions i within r s jobs so_far ends ends' none came =
    has_run heads (take (i + 1) sessions) r s jobs so_far sessions (drop (i + 1) sessions) (Err cut.ThreadFault) ends ends' (sym (take-append-drop (i + 1) sessions)) (omega (arith, length-take-le (i + 1) sessions within)) none came

-- no memory for the next one, whatever the error is
pub not_opened : (heads : List AppHead) (sessions : List SessionLines) (i : ℕ) (most : i ≤ length sessions) (r s : Run) (jobs : List SessionJob) (so_far : AreStarted heads (take i sessions) r s jobs) (ends ends' : List SessionEnd) → ends ≡ [] → (lines : SessionLines) (opened : Result SessionJob NoMemory) (t : Run)
    → i < length sessions → HasOpened heads lines opened s t → ((job : SessionJob) → opened ≡ Ok job → ⊥) → AreEnds jobs ends ends' → HasRunSessions heads sessions (Err cut.NoMemory) r t ends'
not_opened heads sessions i most r s jobs so_far ends ends' none lines (Ok job) t within has never came = absurd (never job refl)
not_opened heads sessions i most r s jobs so_far ends ends' none lines (Err e) t within has never came = short_run heads sessions i most r s jobs so_far ends ends' none lines e t within has came
