-- A block of sessions, carried out: what is opened, what came of it, and what the run keeps.
use Rattle.std.specs.Prelude.{◌≡◌, ◌≤◌, ◌+◌, ℕ, true, List, [], ◌∷◌, ◌++◌, length, map, is_some, Some, None, Result, Ok, Err}
use Rattle.std.specs.List.{list_all}
use Rattle.ak_base.specs.declared.no_memory.NoMemory.{NoMemory}
use Rattle.ak_roster.specs.declared.head.AppHead.{AppHead}
use Rattle.ak_run.specs.declared.run.Run.{Run}
use Rattle.ak_run.specs.Doing.{Does}
use Rattle.ak_run.specs.Sessions.{Told, all_closed, session_count, sessions_of}
use Rattle.ak_script.specs.declared.statement.SessionLines.{SessionLines}
use Rattle.ak_lines.specs.declared.job.SessionEnd.{SessionEnd}
use Rattle.ak_lines.specs.declared.job.SessionJob.{SessionJob}
use Rattle.ak_block.specs.declared.blocks.Cut.{Cut}
use Rattle.ak_block.specs.declared.blocks.Cut.TheVariants as cut
use Rattle.ak_block.specs.declared.blocks.Heard.{Heard}
use Rattle.ak_block.specs.Carried.{AreCarried, HasSessionsMore, IsCarriedIn, SessionPart}
use Rattle.ak_block.specs.Threads.{CameOfAll}

-- ---- opened
-- a job for these lines, whose session is of a run of these applications and has that number; its clock begins at that time
pub record IsJobFor (heads : List AppHead) (time number : ℕ) (lines : SessionLines) (job : SessionJob) : Type 0 where
  pub lines_are : job.lines.lines.items ≡ lines.lines.items
  pub heads_are : job.session.roster_seat.opening ≡ Some heads
  pub number_is : job.session.hands.clock.thread.0 ≡ number
  pub begins : job.session.hands.clock.time ≡ time

-- one for each, in order
abbrev pub AreJobsFor : List AppHead → ℕ → ℕ → List SessionLines → List SessionJob → Type 0
AreJobsFor heads time from [] [] = Unit {0}
AreJobsFor heads time from (lines ∷ rest) (job ∷ jobs) = IsJobFor heads time from lines job × AreJobsFor heads time (from + 1) rest jobs
AreJobsFor heads time from _ _ = ⊥

-- a session that is open, as it was opened
abbrev pub opened_for : SessionJob → Told
opened_for job = (job.session, None)

-- one session more, which begins at main's time, or none; main did nothing
abbrev pub HasOpened : List AppHead → SessionLines → Result SessionJob NoMemory → Run → Run → Type 0
HasOpened heads lines (Ok job) r r' = IsJobFor heads r.hands.clock.time (session_count r + 1) lines job × (sessions_of r' ≡ sessions_of r ++ opened_for job ∷ []) × Does [] r r'
HasOpened heads lines (Err e) r r' = (sessions_of r' ≡ sessions_of r) × Does [] r r'

-- ---- carried out
-- why it ended before the last of them: no memory for the next one, or no thread for the last one of these
abbrev pub EndsWith : Result (Unit {0}) Cut → List SessionLines → List SessionLines → Type 0
EndsWith (Ok x) first rest = rest ≡ []
EndsWith (Err cut.NoMemory) first rest = 1 ≤ length rest
EndsWith (Err cut.ThreadFault) first rest = 1 ≤ length first

-- the first ones were opened at main's time and carried out, and these are their ends; main did nothing
pub record HasRunSessions (heads : List AppHead) (sessions : List SessionLines) (result : Result (Unit {0}) Cut) (r r' : Run) (ends : List SessionEnd) : Type 0 where
  pub first : List SessionLines
  pub rest : List SessionLines
  pub all : sessions ≡ first ++ rest
  pub ends_with : EndsWith result first rest
  pub jobs : List SessionJob
  pub are : AreJobsFor heads r.hands.clock.time (session_count r + 1) first jobs
  pub came : CameOfAll jobs ends
  pub opened : sessions_of r' ≡ sessions_of r ++ map opened_for jobs
  pub does : Does [] r r'

-- behind these sessions the run may close those that are open, in order; the first of them has that number; they began at that time, which is
-- main's still
pub record AreOpen (heads : List AppHead) (before : List Told) (time from : ℕ) (sessions : List SessionLines) (r : Run) (ends : List SessionEnd) : Type 0 where
  pub from_is : from ≡ length before + 1
  pub now : r.hands.clock.time ≡ time
  pub jobs : List SessionJob
  pub are : AreJobsFor heads time from sessions jobs
  pub came : CameOfAll jobs ends
  pub stand : sessions_of r ≡ before ++ map opened_for jobs

-- ---- kept
abbrev pub part_of : Heard → SessionPart
part_of heard = record { outcomes = heard.outcomes.items; tolds = heard.tolds.items; short = heard.short }

-- they were closed, and those before them are as they were; main did nothing
pub record HasClosedAll (heads : List AppHead) (before : List Told) (time from : ℕ) (sessions : List SessionLines) (r r' : Run) (heard : List Heard) : Type 0 where
  pub closed : List Told
  pub sessions_are : sessions_of r' ≡ before ++ closed
  pub count : length closed ≡ length sessions
  pub each_closed : list_all (λ (told : Told). is_some told.1) closed ≡ true
  pub carried : AreCarried (IsCarriedIn heads r' time) from sessions (map part_of heard)
  pub does : Does [] r r'

-- these were carried out, from main's time on, and are closed; main did nothing
pub record HasCarriedAll (heads : List AppHead) (sessions : List SessionLines) (r r' : Run) (heard : List Heard) : Type 0 where
  pub carried : AreCarried (IsCarriedIn heads r' r.hands.clock.time) (session_count r + 1) sessions (map part_of heard)
  pub more : HasSessionsMore (length sessions) r r'
  pub does : Does [] r r'
  pub closed : all_closed r ≡ true → all_closed r' ≡ true

-- of a block the first sessions
pub record HasRunBlock (heads : List AppHead) (sessions : List SessionLines) (result : Result (Unit {0}) Cut) (r r' : Run) (heard : List Heard) : Type 0 where
  pub first : List SessionLines
  pub rest : List SessionLines
  pub all : sessions ≡ first ++ rest
  pub ends_with : EndsWith result first rest
  pub kept : HasCarriedAll heads first r r' heard
