-- Statements carried out one after the other: what one adds, and how far a run came.
use Rattle.std.specs.Prelude.{◌≡◌, ◌⊎◌, ◌||◌, ◌≤◌, ◌<◌, ◌+◌, ℕ, List, [], ◌∷◌, ◌++◌, length, slice_get, Bool, true, false, IfSome, IsSomeAnd, Option, None, Result, Ok, Err}
use Rattle.std.specs.Io.KnownBytes.{Appends}
use Rattle.ak_base.specs.declared.ending.Ending.{Ending}
use Rattle.ak_base.specs.declared.ending.Ending.TheVariants as ending
use Rattle.ak_outside.specs.Calls.{Calls}
use Rattle.ak_outside.specs.Sink.{AppendsPart}
use Rattle.ak_describe.specs.Whole.{heads_of}
use Rattle.ak_describe.specs.declared.described.AppText.{AppText}
use Rattle.ak_diary.specs.Step.{Step, time_of}
use Rattle.ak_print.specs.declared.told.Told.{Told}
use Rattle.ak_run.specs.declared.run.Run.{Run}
use Rattle.ak_run.specs.Sessions.{session_count, sessions_of}
use Rattle.ak_script.specs.declared.statement.Statement.{Statement}
use Rattle.ak_script.specs.declared.statement.Statement.TheVariants as statement
use Rattle.ak_run.specs.Doing.{Does, HasDoneSoFar}
use Rattle.ak_run.specs.Starts.{thread_count}
use Rattle.ak_lines.specs.declared.came.Came.{Came}
use Rattle.ak_play.specs.declared.run_end.Lines.{Lines}
use Rattle.ak_play.specs.declared.run_end.Lines.TheVariants as lines
use Rattle.ak_play.specs.declared.run_end.Short.{Short}
use Rattle.ak_play.specs.declared.stop.Stop.{Stop}
use Rattle.ak_play.specs.declared.stop.Stop.TheVariants as stop
use Rattle.ak_play.specs.declared.stop.Untold.{Untold}
use Rattle.ak_play.specs.declared.stop.Untold.TheVariants as untold
use Rattle.ak_play.specs.Blocks.{IsBlock, LacksAt, RefusedAt}
use Rattle.ak_play.specs.Gathered.{GatheredData, gathered_and, of_cut, of_part, of_parts}
use Rattle.ak_play.specs.Parts.{AreParts, IsCut, IsPart, Part, all_sessions, all_steps, all_tolds, sessions_in}
use Rattle.ak_play.specs.Play.{AreWritten, IsCutText, IsFrontText, StartsThreads, StoppedSo, cut_sessions, first_tolds, last_tolds, text_of, threads_of}
use Rattle.ak_block.specs.Carried.{HasSessionsMore, IsCarriedIn}

-- a thread could not be started
abbrev pub IsThreadFault : {A : Type 0} → Result A Stop → Type 0
IsThreadFault (Err (stop.ThreadFault told)) = Unit {0}
IsThreadFault _ = ⊥

-- it stopped before a line was due
abbrev pub StopsBeforeLines : {A : Type 0} → Result A Stop → Type 0
StopsBeforeLines (Err (stop.ThreadFault told)) = told ≡ lines.Whole
StopsBeforeLines (Err (stop.NoMemory told)) = told ≡ lines.Whole
StopsBeforeLines _ = Unit {0}

-- ---- what became of lines
-- of those that were told so
abbrev pub lines_told : {A : Type 0} → Result A Untold → Lines
lines_told (Ok _) = lines.Whole
lines_told (Err untold.WriteFault) = lines.Cut
lines_told (Err untold.NoMemory) = lines.Lacking

-- why no further statement is carried out, where a line was not written
abbrev pub stop_untold : Untold → Stop
stop_untold untold.WriteFault = stop.WriteFault
stop_untold untold.NoMemory = stop.NoMemory lines.Lacking

-- of those of all statements
abbrev pub lines_after : {A : Type 0} → Result A Stop → Lines
lines_after (Ok _) = lines.Whole
lines_after (Err stop.WriteFault) = lines.Cut
lines_after (Err (stop.ThreadFault told)) = told
lines_after (Err (stop.NoMemory told)) = told

-- ---- what is written
-- of one line all, a part, or nothing
abbrev pub HasWritten : {A : Type 0} → Result A Untold → List ℕ → Option (List ℕ) → Option (List ℕ) → Type 0
HasWritten (Ok _) line old new = Appends old new line
HasWritten (Err untold.WriteFault) line old new = AppendsPart old new line
HasWritten (Err untold.NoMemory) line old new = Appends old new []

-- of lines all; one of them in part, and none behind it; or the first ones
abbrev pub HasWrittenAll : {A : Type 0} → Result A Untold → List Told → Option (List ℕ) → Option (List ℕ) → Type 0
HasWrittenAll (Ok _) tolds old new = Appends old new (text_of tolds)
HasWrittenAll (Err untold.WriteFault) tolds old new = IsCutText [] tolds old new
HasWrittenAll (Err untold.NoMemory) tolds old new = IsFrontText [] tolds old new

-- ---- one statement
-- what main may have done for a statement at which it stopped, by why it did
abbrev pub StopsAt : List AppText → Statement → Stop → List Step → Type 0
StopsAt apps s stop.WriteFault steps = ⊥
StopsAt apps s (stop.ThreadFault told) steps = RefusedAt apps s steps
StopsAt apps s (stop.NoMemory told) steps = LacksAt apps s steps

-- what a statement that is no block came to: its outcome, with its block; or main stopped at it
abbrev pub CarriesOut : List AppText → Statement → Result Came Stop → List Step → Type 0
CarriesOut apps s (Ok came) steps = IsBlock apps s came.outcome came.told steps
CarriesOut apps s (Err why) steps = StopsAt apps s why steps

-- it has its part, and of its lines that was written
pub record StepsOn (apps : List AppText) (s : Statement) (g g' : GatheredData) (r r' : Run) (Written : List Told → Type 0) : Type 0 where
  pub part : Part
  pub is : IsPart (IsCarriedIn (heads_of apps) r') apps r.hands.clock.time (session_count r + 1) s part
  pub does : Does part.steps r r'
  pub sessions : HasSessionsMore part.sessions r r'
  pub gathered : g' ≡ gathered_and g (of_part part)
  pub written : Written part.tolds

-- it is a block that was cut, so far
pub record StopsInside (apps : List AppText) (s : Statement) (g g' : GatheredData) (r r' : Run) (Far : Part → Type 0) (Written : List Told → Type 0) : Type 0 where
  pub part : Part
  pub is : IsCut (IsCarriedIn (heads_of apps) r') r.hands.clock.time (session_count r + 1) s part
  pub far : Far part
  pub does : Does [] r r'
  pub sessions : HasSessionsMore part.sessions r r'
  pub gathered : g' ≡ gathered_and g (of_part part)
  pub written : Written part.tolds

-- it has none, and nothing was written; At tells what main did for it
pub record StopsShort (At : List Step → Type 0) (g g' : GatheredData) (r r' : Run) (old new : Option (List ℕ)) (Kept : Type 0) : Type 0 where
  pub steps : List Step
  pub at : At steps
  pub does : Does steps r r'
  pub sessions : sessions_of r' ≡ sessions_of r
  pub same : g' ≡ g
  pub written : Appends old new []
  pub sink : Kept

-- Failed says that a write failed, Kept that none did
module _ (apps : List AppText) (s : Statement) (g g' : GatheredData) (r r' : Run) (old new : Option (List ℕ)) (Failed Kept : Type 0) where
  -- by its answer
  abbrev pub HasStepped : {A : Type 0} → Result A Stop → Type 0
  HasStepped (Ok _) = StepsOn apps s g g' r r' (λ tolds. AreWritten lines.Whole Failed Kept [] tolds old new)
  HasStepped (Err stop.WriteFault) = StepsOn apps s g g' r r' (λ tolds. AreWritten lines.Cut Failed Kept [] tolds old new)
  HasStepped (Err (stop.ThreadFault told)) =
      ((told ≡ lines.Whole) × StopsShort (RefusedAt apps s) g g' r r' old new Kept)
      ⊎ StopsInside apps s g g' r r' (λ part. 1 ≤ part.sessions) (λ tolds. AreWritten told Failed Kept [] tolds old new)
  HasStepped (Err (stop.NoMemory told)) =
      ((told ≡ lines.Whole) × StopsShort (LacksAt apps s) g g' r r' old new Kept)
      ⊎ (((told ≡ lines.Lacking) × StepsOn apps s g g' r r' (λ tolds. AreWritten lines.Lacking Failed Kept [] tolds old new))
      ⊎ StopsInside apps s g g' r r' (λ part. part.sessions < sessions_in s) (λ tolds. AreWritten told Failed Kept [] tolds old new))

-- of so many threads that a statement has more, of how many one may be the refused one: of those of a team, or of a block that of the last session that was
-- carried out
abbrev pub refusable : Statement → ℕ → ℕ
refusable (statement.Launch l) more = more
refusable _ more = 1

-- ---- all statements
-- the first ones are done, and their lines are written
pub record IsPlayedSoFar (apps : List AppText) (statements : List Statement) (g : GatheredData) (done : ℕ) (r : Run) (old new : Option (List ℕ)) (Kept : Type 0) : Type 0 where
  pub parts : List Part
  pub count : length parts ≡ done
  pub are : AreParts (IsCarriedIn (heads_of apps) r) apps 0 1 statements parts
  pub sessions : session_count r ≡ all_sessions parts
  pub gathered : g ≡ of_parts parts
  pub done_so : HasDoneSoFar (all_steps parts) r
  pub written : Appends old new (text_of (all_tolds parts))
  pub sink : Kept

-- how it ended, before the run did
abbrev pub stopped_as : {A : Type 0} → Result A Stop → Ending
stopped_as (Ok _) = ending.Done
stopped_as (Err stop.WriteFault) = ending.WriteFault
stopped_as (Err (stop.ThreadFault told)) = ending.ThreadFault
stopped_as (Err (stop.NoMemory told)) = ending.NoMemory

-- whether there was no memory for a line
abbrev pub lacks_a_line : Lines → Bool
lacks_a_line lines.Whole = false
lacks_a_line lines.Cut = false
lacks_a_line lines.Lacking = true

-- whether main found no memory
abbrev pub is_lack : {A : Type 0} → Result A Stop → Bool
is_lack (Ok _) = false
is_lack (Err stop.WriteFault) = false
is_lack (Err (stop.ThreadFault told)) = lacks_a_line told
is_lack (Err (stop.NoMemory told)) = true

-- the first ones are done, and steps of one more, or some sessions of it, at which it ended so; the threads of the run were started by these calls
pub record IsPlayedTo {A : Type 0} (apps : List AppText) (statements : List Statement) (g : GatheredData) (result : Result A Stop) (r : Run) (old new : Option (List ℕ)) (Failed Kept : Type 0) (calls calls' : Option Calls) : Type 0 where
  pub parts : List Part
  pub are : AreParts (IsCarriedIn (heads_of apps) r) apps 0 1 statements parts
  pub cut : Option Part
  pub sessions : session_count r ≡ all_sessions parts + cut_sessions cut
  pub cut_is : IfSome cut (λ (part : Part). IsSomeAnd (slice_get statements (length parts)) (λ (s : Statement). IsCut (IsCarriedIn (heads_of apps) r) (time_of 0 (all_steps parts)) (all_sessions parts + 1) s part))
  pub gathered : g ≡ gathered_and (of_parts parts) (of_cut cut)
  pub more : List Step
  pub none_more : length parts ≡ length statements → more ≡ []
  pub none_inside : IfSome cut (λ (part : Part). more ≡ [])
  pub stopped_so : StoppedSo apps (slice_get statements (length parts)) cut (stopped_as result) more
  pub starts : StartsThreads (stopped_as result) cut (threads_of apps parts) (thread_count r) calls calls'
  pub none_at_a_write : stopped_as result ≡ ending.WriteFault → (more ≡ []) × (cut ≡ None)
  pub none_when_done : stopped_as result ≡ ending.Done → (length parts ≡ length statements) × (cut ≡ None)
  pub before_last : stopped_as result ≡ ending.NoMemory → IfSome cut (λ (part : Part). IsSomeAnd (slice_get statements (length parts)) (λ (s : Statement). part.sessions < sessions_in s))
  pub lacks_inside : stopped_as result ≡ ending.ThreadFault → is_lack result ≡ true → IsSomeAnd cut (λ (part : Part). Unit {0})
  pub lacks_at : is_lack result ≡ true → (lines_after result ≡ lines.Lacking) ⊎ (length parts < length statements)
  pub done : HasDoneSoFar (all_steps parts ++ more) r
  pub written : AreWritten (lines_after result) Failed Kept (first_tolds parts cut) (last_tolds parts cut) old new
  pub cut_at : lines_after result ≡ lines.Cut → (stopped_as result ≡ ending.WriteFault) ⊎ IsSomeAnd cut (λ (part : Part). Unit {0})

-- ---- the end
-- done, unless a session or a looper found no memory
abbrev pub ended_as : {A : Type 0} → Result A Stop → Bool → Ending
ended_as (Ok _) true = ending.NoMemory
ended_as (Ok _) false = ending.Done
ended_as (Err stop.WriteFault) lacked = ending.WriteFault
ended_as (Err (stop.ThreadFault told)) lacked = ending.ThreadFault
ended_as (Err (stop.NoMemory told)) lacked = ending.NoMemory

-- whether there is one
abbrev pub is_any : List ℕ → Bool
is_any [] = false
is_any (x ∷ xs) = true

-- whether a session or a looper found no memory
abbrev pub any_short : Short → Bool
any_short s = is_any s.sessions || is_any s.loopers
