-- Lines that a session's thread carried out.
use Rattle.std.specs.Prelude.{◌≡◌, ◌≤◌, ℕ, true, false, List, [], ◌++◌, length, slice_get, vec_capacity, Some, Result, Ok, Err}
use Rattle.std.specs.List.{flat_map}
use Rattle.ak_base.specs.declared.no_memory.NoMemory.{NoMemory}
use Rattle.ak_roster.specs.declared.head.AppHead.{AppHead}
use Rattle.ak_diary.specs.Step.{Step}
use Rattle.ak_headline.specs.Main.{IsSessionDiary}
use Rattle.ak_script.specs.declared.statement.SessionLine.{SessionLine}
use Rattle.ak_print.specs.declared.told.Told.{Told}
use Rattle.ak_session.specs.declared.session.Session.{Session}
use Rattle.ak_session.specs.Ready.{IsReady}
use Rattle.ak_session.specs.Stands.{KeepsSession, Stands}
use Rattle.ak_lines.specs.declared.job.SessionEnd.{SessionEnd}
use Rattle.ak_lines.specs.declared.job.SessionJob.{SessionJob}
use Rattle.ak_lines.specs.declared.outcome.Outcome.{Outcome}
use Rattle.ak_lines.specs.Blocks.{AreLines, IsCutLine}

-- its session has done nothing yet, and there is room for what each line comes to
pub record IsReadyJob (job : SessionJob) : Type 0 where
  pub ready : IsReady job.session
  pub no_outcomes : job.outcomes.items ≡ []
  pub no_tolds : job.tolds.items ≡ []
  pub room_for_outcomes : length job.lines.lines.items ≤ vec_capacity job.outcomes
  pub room_for_tolds : length job.lines.lines.items ≤ vec_capacity job.tolds

abbrev pub all_steps : List (List Step) → List Step
all_steps blocks = flat_map (λ (block : List Step). block) blocks

-- the line behind those that were carried out found no memory, and did that
pub record IsCutAt (heads : List AppHead) (lines : List SessionLine) (carried : ℕ) (so_far stopped : List Step) : Type 0 where
  pub line : SessionLine
  pub at : slice_get lines carried ≡ Some line
  pub cut : IsCutLine heads so_far line stopped

-- The session did these blocks, one for each line that was carried out, and then what it did for a line that found no memory. That is a
-- session's diary, and all that its thread made at the roster, at the reply book and at each port and desk
pub record HasCarriedOut (job : SessionJob) (end : SessionEnd) : Type 0 where
  pub heads : List AppHead
  pub heads_are : job.session.roster_seat.opening ≡ Some heads
  pub keeps : KeepsSession job.session end.session
  pub blocks : List (List Step)
  pub are : AreLines heads [] job.lines.lines.items end.outcomes.items end.tolds.items blocks
  pub stopped : List Step
  pub stands : Stands heads job.session.hands.clock.time (all_steps blocks ++ stopped) end.session
  pub diary : IsSessionDiary (all_steps blocks ++ stopped)
  -- each line was carried out, unless one found no memory
  pub whole : end.short ≡ false → (length end.outcomes.items ≡ length job.lines.lines.items) × (stopped ≡ [])
  pub cut : end.short ≡ true → IsCutAt heads job.lines.lines.items (length end.outcomes.items) (all_steps blocks) stopped

-- ---- line after line
-- how they ended
abbrev pub EndsAt : List AppHead → List SessionLine → Result (Unit {0}) NoMemory → ℕ → List Step → List Step → Type 0
EndsAt heads lines (Ok x) carried so_far stopped = (carried ≡ length lines) × (stopped ≡ [])
EndsAt heads lines (Err e) carried so_far stopped = IsCutAt heads lines carried so_far stopped

-- the same of a session that stood at its beginning
pub record HasCarriedTo (heads : List AppHead) (start : ℕ) (lines : List SessionLine) (result : Result (Unit {0}) NoMemory) (outcomes : List Outcome) (tolds : List Told) (s : Session) : Type 0 where
  pub blocks : List (List Step)
  pub are : AreLines heads [] lines outcomes tolds blocks
  pub stopped : List Step
  pub stands : Stands heads start (all_steps blocks ++ stopped) s
  pub diary : IsSessionDiary (all_steps blocks ++ stopped)
  pub ends : EndsAt heads lines result (length outcomes) (all_steps blocks) stopped

-- the first lines, as far as it came
pub record HasCarriedFirst (heads : List AppHead) (start : ℕ) (lines : List SessionLine) (outcomes : List Outcome) (tolds : List Told) (s : Session) : Type 0 where
  pub blocks : List (List Step)
  pub are : AreLines heads [] lines outcomes tolds blocks
  pub stands : Stands heads start (all_steps blocks) s
  pub diary : IsSessionDiary (all_steps blocks)
