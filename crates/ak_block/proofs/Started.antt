-- Session after session is opened.
use Rattle.std.proofs.Common.{◌≡◌, ◌+◌, ℕ, suc, List, [], ◌∷◌, ◌++◌, length, map, refl, sym, ap, ◌∙◌, subst, append_assoc, append-nil, arith}
use Rattle.std.specs.Prelude.{Result, Ok, Err}
use Rattle.std.proofs.lemmas.List.{length-append, length-map, map-append}
use Rattle.ak_base.specs.declared.no_memory.NoMemory.{NoMemory}
use Rattle.ak_roster.specs.declared.head.AppHead.{AppHead}
use Rattle.ak_diary.specs.Step.{Step}
use Rattle.ak_script.specs.declared.statement.SessionLines.{SessionLines}
use Rattle.ak_lines.specs.declared.job.SessionEnd.{SessionEnd}
use Rattle.ak_lines.specs.declared.job.SessionJob.{SessionJob}
use Rattle.ak_run.specs.declared.run.Run.{Run}
use Rattle.ak_run.specs.Doing.{Does, DoesSo}
use Rattle.ak_run.specs.Sessions.{Told, session_count, sessions_of}
use Rattle.ak_run.proofs.Surface.{does_same, does_so_then}
use Rattle.ak_block.specs.declared.blocks.Cut.{Cut}
use Rattle.ak_block.specs.Threads.{AreEnds, CameOfAll}
use Rattle.ak_block.specs.Together.{AreJobsFor, EndsWith, HasOpened, HasRunSessions, IsJobFor, opened_for}

-- ---- main did nothing
abbrev IsNone : List Step → Type 0
IsNone steps = steps ≡ []

so_nothing : (r s : Run) → DoesSo IsNone r s → Does [] r s
so_nothing r s d = subst (λ (steps : List Step). Does steps r s) d.so d.does

pub nothing_done : (r : Run) → Does [] r r
nothing_done r = so_nothing r r (does_same IsNone r r refl refl refl refl refl)

pub nothing_then : (r s t : Run) → Does [] r s → Does [] s t → Does [] r t
nothing_then r s t one two = so_nothing r t (does_so_then IsNone IsNone IsNone r s t (λ xs ys x y. ap (λ (l : List Step). l ++ ys) x ∙ y) (record { steps = []; so = refl; does = one }) (record { steps = []; so = refl; does = two }))

-- so its time is as before
pub same_time : (r s : Run) → Does [] r s → s.hands.clock.time ≡ r.hands.clock.time
same_time r s d = sym d.goes.in_time.time_is

-- ---- jobs
jobs_push : (heads : List AppHead) (time from : ℕ) (first : List SessionLines) (jobs : List SessionJob) (lines : SessionLines) (job : SessionJob) → AreJobsFor heads time from first jobs → IsJobFor heads time (from + length first) lines job
    → AreJobsFor heads time from (first ++ lines ∷ []) (jobs ++ job ∷ [])
jobs_push heads time from [] [] lines job are is = (subst (λ (n : ℕ). IsJobFor heads time n lines job) (omega arith) is, tt)
jobs_push heads time from (x ∷ first) (j ∷ jobs) lines job are is = (are.0, jobs_push heads time (from + 1) first jobs lines job are.1 (subst (λ (n : ℕ). IsJobFor heads time n lines job) (omega arith) is))
jobs_push heads time from _ _ lines job are is = absurd are

pub jobs_count : (heads : List AppHead) (time from : ℕ) (first : List SessionLines) (jobs : List SessionJob) → AreJobsFor heads time from first jobs → length jobs ≡ length first
jobs_count heads time from [] [] are = refl
jobs_count heads time from (x ∷ first) (j ∷ jobs) are = ap suc (jobs_count heads time (from + 1) first jobs are.1)
jobs_count heads time from _ _ are = absurd are

-- these were opened, and main did nothing
pub record AreStarted (heads : List AppHead) (first : List SessionLines) (r s : Run) (jobs : List SessionJob) : Type 0 where
  pub are : AreJobsFor heads r.hands.clock.time (session_count r + 1) first jobs
  pub opened : sessions_of s ≡ sessions_of r ++ map opened_for jobs
  pub does : Does [] r s

pub none_started : (heads : List AppHead) (r : Run) → AreStarted heads [] r r []
none_started heads r = record { are = tt; opened = sym (append-nil (sessions_of r)); does = nothing_done r }

module _ (heads : List AppHead) (first : List SessionLines) (r s : Run) (jobs : List SessionJob) (so_far : AreStarted heads first r s jobs) where
  pub count_now : session_count s ≡ session_count r + length first
  count_now = ap length so_far.opened ∙ length-append (sessions_of r) (map opened_for jobs) ∙ ap (λ (n : ℕ). session_count r + n) (length-map jobs opened_for ∙ jobs_count heads r.hands.clock.time (session_count r + 1) first jobs so_far.are)

  pub started_push : (lines : SessionLines) (job : SessionJob) (t : Run) → HasOpened heads lines (Ok job) s t → AreStarted heads (first ++ lines ∷ []) r t (jobs ++ job ∷ [])
  started_push lines job t opened = record {
    are = jobs_push heads r.hands.clock.time (session_count r + 1) first jobs lines job so_far.are
        (subst (λ (time : ℕ). IsJobFor heads time (session_count r + 1 + length first) lines job) (same_time r s so_far.does) (subst (λ (n : ℕ). IsJobFor heads s.hands.clock.time n lines job) (omega (arith, count_now)) opened.0));
    opened =
        opened.1 ∙ ap (λ (l : List Told). l ++ opened_for job ∷ []) so_far.opened ∙ append_assoc (sessions_of r) (map opened_for jobs) (opened_for job ∷ [])
        ∙ ap (λ (l : List Told). sessions_of r ++ l) (sym (map-append opened_for jobs (job ∷ [])));
    does = nothing_then r s t so_far.does opened.2;
  }

  -- the next one was not
  pub not_started : (lines : SessionLines) (e : NoMemory) (t : Run) → HasOpened heads lines (Err e) s t → AreStarted heads first r t jobs
  not_started lines e t opened = record { are = so_far.are; opened = opened.0 ∙ so_far.opened; does = nothing_then r s t so_far.does opened.1 }

  -- their ends
  pub has_run : (sessions rest : List SessionLines) (result : Result (Unit {0}) Cut) (ends ends' : List SessionEnd) → sessions ≡ first ++ rest → EndsWith result first rest → ends ≡ [] → AreEnds jobs ends ends' → HasRunSessions heads sessions result r s ends'
  has_run sessions rest result ends ends' all so none came = record {
    first = first;
    rest = rest;
    all = all;
    ends_with = so;
    jobs = jobs;
    are = so_far.are;
    came = subst (CameOfAll jobs) (sym (came.behind ∙ ap (λ (l : List SessionEnd). l ++ came.ends) none)) came.are;
    opened = so_far.opened;
    does = so_far.does;
  }
