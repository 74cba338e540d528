-- A script that was carried out: what main and the sessions did for its statements, and what was written of them.
use Rattle.std.specs.Prelude.{◌≡◌, ◌≢◌, ◌≤◌, ◌<◌, ◌+◌, ◌-◌, ◌⊎◌, ℕ, true, false, List, [], ◌∷◌, ◌++◌, length, slice_get, take, All, IfSome, IsSomeAnd, Option, None, Some}
use Rattle.std.specs.List.{flat_map}
use Rattle.std.specs.Io.KnownBytes.{Appends}
use Rattle.ak_base.specs.declared.ending.Ending.{Ending}
use Rattle.ak_base.specs.declared.ending.Ending.TheVariants as ending
use Rattle.ak_base.specs.Thread.{main_thread}
use Rattle.ak_flatten.specs.Laws.{Spells}
use Rattle.ak_outside.specs.Calls.{Calls}
use Rattle.ak_turn.specs.Noted.{StandsIn}
use Rattle.ak_roster.specs.declared.head.AppHead.{AppHead}
use Rattle.ak_describe.specs.Whole.{heads_of}
use Rattle.ak_describe.specs.declared.described.AppText.{AppText}
use Rattle.ak_diary.specs.declared.histories.Histories.{Histories}
use Rattle.ak_diary.specs.Step.{AreStamped, Step, desk_entries, roster_entries, time_of}
use Rattle.ak_headline.specs.Answers.{GotOneReply}
use Rattle.ak_headline.specs.Main.{IsMainDiary}
use Rattle.ak_headline.specs.Run.{HasDone, IsRunWith, desk_list, started_by}
use Rattle.ak_print.specs.declared.told.Told.{Told}
use Rattle.ak_print.specs.declared.told.Told.TheVariants as told
use Rattle.ak_print.specs.Told.{told_line}
use Rattle.ak_run.specs.AtEnd.{IsClosing}
use Rattle.ak_run.specs.Starts.{StartsMore, StopsStarting}
use Rattle.ak_script.specs.declared.statement.Statement.{Statement}
use Rattle.ak_lines.specs.declared.outcome.Outcome.{Outcome}
use Rattle.ak_lines.specs.declared.outcome.Outcome.TheVariants as came
use Rattle.ak_play.specs.declared.run_end.Lines.{Lines}
use Rattle.ak_play.specs.declared.run_end.Lines.TheVariants as lines
use Rattle.ak_play.specs.declared.run_end.RunEnd.{RunEnd}
use Rattle.ak_play.specs.declared.run_end.Short.{Short}
use Rattle.ak_play.specs.Blocks.{LacksAt, RefusedAt}
use Rattle.ak_play.specs.Parts.{AreParts, IsCut, Part, all_outcomes, all_sessions, all_short, all_steps, all_tolds, sessions_in}
use Rattle.ak_play.specs.Sessions.{HasCarried}

-- ---- what was done
-- a block that was cut, if there is one, gives no more than its own
abbrev pub cut_outcomes : Option Part → List Outcome
cut_outcomes None = []
cut_outcomes (Some part) = part.outcomes

abbrev pub cut_tolds : Option Part → List Told
cut_tolds None = []
cut_tolds (Some part) = part.tolds

abbrev pub cut_sessions : Option Part → ℕ
cut_sessions None = 0
cut_sessions (Some part) = part.sessions

abbrev pub cut_short : Option Part → List ℕ
cut_short None = []
cut_short (Some part) = part.short

-- Each of the first statements has its part. Main's diary is the steps of these, in order, then what it did for the statement at which it
-- stopped, which is nothing where each was carried out, and then the end of the run. The diary has all that main made at the roster, at the reply
-- book, at each port and at each desk, and its entries have the stamps that are due, from 0 on. The sessions of a block begin at the time that main
-- had come to by the parts before it. The statement at which it stopped may be a block of which some sessions were carried out
pub record HasPlayed (apps : List AppText) (statements : List Statement) (outcomes : List Outcome) (tolds : List Told) (short : List ℕ) (h : Histories) : Type 0 where
  pub parts : List Part
  pub are : AreParts (HasCarried (heads_of apps) h) apps 0 1 statements parts
  pub cut : Option Part
  pub cut_is : IfSome cut (λ (part : Part). IsSomeAnd (slice_get statements (length parts)) (λ (s : Statement). IsCut (HasCarried (heads_of apps) h) (time_of 0 (all_steps parts)) (all_sessions parts + 1) s part))
  pub outcomes_are : outcomes ≡ all_outcomes parts ++ cut_outcomes cut
  pub tolds_are : tolds ≡ all_tolds parts ++ cut_tolds cut
  pub short_are : short ≡ all_short parts ++ cut_short cut
  pub stopped : List Step
  pub none_stopped : length parts ≡ length statements → stopped ≡ []
  pub none_inside : IfSome cut (λ (part : Part). stopped ≡ [])
  pub closing : List Step
  pub closes : IsClosing (heads_of apps) (all_steps parts ++ stopped) h closing
  pub diary : IsMainDiary (all_steps parts ++ (stopped ++ closing))
  pub stamped : AreStamped 0 (all_steps parts ++ (stopped ++ closing))
  pub done : HasDone h main_thread (all_steps parts ++ (stopped ++ closing))
  pub edits : (looper : ℕ) → All (StandsIn (desk_list h looper)) (desk_entries looper (all_steps parts))

-- ---- why it stopped
-- A thread could not be started. No block was cut: then the statement is a launch, and its team was started and ended again. Or one was cut: at least one
-- of its sessions was carried out, and main did nothing
abbrev pub RefusedSo : List AppText → Option Statement → Option Part → List Step → Type 0
RefusedSo apps s None steps = IsSomeAnd s (λ (x : Statement). RefusedAt apps x steps)
RefusedSo apps s (Some part) steps = (1 ≤ part.sessions) × (steps ≡ [])

-- memory ran out: main did nothing for the statement, or what that may do then
abbrev pub LackedSo : List AppText → Option Statement → List Step → Type 0
LackedSo apps s steps = (steps ≡ []) ⊎ IsSomeAnd s (λ (x : Statement). LacksAt apps x steps)

-- what main did for the statement at which it stopped, by how the run ended
abbrev pub StoppedSo : List AppText → Option Statement → Option Part → Ending → List Step → Type 0
StoppedSo apps s cut ending.ThreadFault steps = RefusedSo apps s cut steps
StoppedSo apps s cut ending.NoMemory steps = LackedSo apps s steps
StoppedSo apps s cut _ steps = steps ≡ []

-- ---- the threads
-- how many threads the parts have: one for each looper that main started for them, and one for each session
abbrev pub threads_of : List AppText → List Part → ℕ
threads_of apps parts = started_by (heads_of apps) (roster_entries (all_steps parts)) + all_sessions parts

-- of how many of these threads one may be the refused one: of those that are not the parts' own, or of a block that was cut that of the last session
-- that was carried out
abbrev pub last_threads : Option Part → ℕ → ℕ → ℕ
last_threads None before threads = threads - before
last_threads (Some part) before threads = 1

-- The spawner was asked for each of so many threads, one for each looper and each session, and each was started. Where one could not be started it is the
-- last that was asked for, and so many before it are those of the parts
abbrev pub StartsThreads : Ending → Option Part → ℕ → ℕ → Option Calls → Option Calls → Type 0
StartsThreads ending.ThreadFault cut before threads old new = StopsStarting (last_threads cut before threads) 0 threads old new
StartsThreads _ cut before threads old new = StartsMore 0 threads old new

-- each reply that is told is the one that the slot got, which the rules make
abbrev pub IsReplyOf : List ℕ → Histories → Outcome → Told → Type 0
IsReplyOf short h (came.Replied slot) (told.Reply message) = (got : GotOneReply h short slot) × Spells got.text message
IsReplyOf short h _ _ = Unit {0}

abbrev pub AreReplies : List ℕ → Histories → List Outcome → List Told → Type 0
AreReplies short h (o ∷ outcomes) (t ∷ tolds) = IsReplyOf short h o t × AreReplies short h outcomes tolds
AreReplies short h _ _ = Unit {0}

-- ---- what is written
abbrev pub text_of : List Told → List ℕ
text_of tolds = flat_map told_line tolds

-- one of the last lines was written in part, and none behind it
pub record IsCutText (before last : List Told) (old new : Option (List ℕ)) : Type 0 where
  pub front : List Told
  pub line : Told
  pub behind : List Told
  pub last_is : last ≡ front ++ line ∷ behind
  pub part : ℕ
  pub short : part < length (told_line line)
  pub written : Appends old new (text_of before ++ (text_of front ++ take part (told_line line)))

-- of the last lines, which are those of one statement, the first ones were written, and not all
pub record IsFrontText (before last : List Told) (old new : Option (List ℕ)) : Type 0 where
  pub lines : ℕ
  pub not_all : lines < length last
  pub written : Appends old new (text_of before ++ text_of (take lines last))

-- By what became of the lines: all were written, and no write failed; one failed, and none stands behind that line; or no write failed, and the
-- first ones of the last statement alone were written, behind all that come before. Failed says that a write failed, Kept that none did
abbrev pub AreWritten : Lines → Type 0 → Type 0 → List Told → List Told → Option (List ℕ) → Option (List ℕ) → Type 0
AreWritten lines.Whole Failed Kept before last old new = Appends old new (text_of before ++ text_of last) × Kept
AreWritten lines.Cut Failed Kept before last old new = IsCutText before last old new × Failed
AreWritten lines.Lacking Failed Kept before last old new = IsFrontText before last old new × Kept

-- the last lines are those of the last part: that of the block that was cut, or of the last statement that was carried out
abbrev pub last_tolds : List Part → Option Part → List Told
last_tolds parts (Some part) = part.tolds
last_tolds [] None = []
last_tolds (part ∷ []) None = part.tolds
last_tolds (part ∷ parts) None = last_tolds parts None

abbrev pub first_tolds : List Part → Option Part → List Told
first_tolds parts (Some part) = all_tolds parts
first_tolds [] None = []
first_tolds (part ∷ []) None = []
first_tolds (part ∷ parts) None = part.tolds ++ first_tolds parts None

-- ---- the end of a run
-- who found no memory: main, which sessions, and which loopers
abbrev pub IsShort : Short → Type 0
IsShort s = (s.main ≡ true) ⊎ ((s.sessions ≢ []) ⊎ (s.loopers ≢ []))

-- it is a run of some sessions
pub record IsRunOf (heads : List AppHead) (run : RunEnd) : Type 0 where
  pub sessions : ℕ
  pub is : IsRunWith sessions heads run.short.loopers run.histories

-- the endings of a script that is carried out
abbrev pub IsPlayEnding : Ending → Type 0
IsPlayEnding ending.Done = Unit {0}
IsPlayEnding ending.WriteFault = Unit {0}
IsPlayEnding ending.ThreadFault = Unit {0}
IsPlayEnding ending.NoMemory = Unit {0}
IsPlayEnding _ = ⊥

-- The run of these statements: what main and the sessions did for them, what was written, whose replies were told, and which threads were started. Failed
-- says that a write failed, Kept that none did
pub record IsPlay (apps : List AppText) (statements : List Statement) (end : Ending) (run : RunEnd) (old new : Option (List ℕ)) (Failed Kept : Type 0) (calls calls' : Option Calls) : Type 0 where
  pub ends : IsPlayEnding end
  pub played : HasPlayed apps statements run.outcomes run.tolds run.short.sessions run.histories
  -- it is a run of these sessions, and of no others
  pub run_of : IsRunWith (all_sessions played.parts + cut_sessions played.cut) (heads_of apps) run.short.loopers run.histories
  pub written : AreWritten run.lines Failed Kept (first_tolds played.parts played.cut) (last_tolds played.parts played.cut) old new
  -- where it is done they are whole, and at a write fault cut; else a write that failed is one of the lines of a block that was cut
  pub whole_when_done : end ≡ ending.Done → run.lines ≡ lines.Whole
  pub cut_at_a_write : end ≡ ending.WriteFault → run.lines ≡ lines.Cut
  pub cut_at : run.lines ≡ lines.Cut → (end ≡ ending.WriteFault) ⊎ IsSomeAnd played.cut (λ (part : Part). Unit {0})
  -- where one is missing for want of memory it was main that found none
  pub lacking_by_main : run.lines ≡ lines.Lacking → run.short.main ≡ true
  -- where main found none it was for a line, or for a statement, which has no part then
  pub lacks_at : run.short.main ≡ true → (run.lines ≡ lines.Lacking) ⊎ (length played.parts < length statements)
  pub replies : AreReplies run.short.loopers run.histories run.outcomes run.tolds
  -- it is done only where each statement has its part
  pub whole : end ≡ ending.Done → length played.parts ≡ length statements
  -- so it is where main found memory, no write failed and each thread was started
  pub whole_by_main : run.short.main ≡ false → end ≢ ending.WriteFault → end ≢ ending.ThreadFault → length played.parts ≡ length statements
  -- what main did for the statement at which it stopped
  pub stopped_so : StoppedSo apps (slice_get statements (length played.parts)) played.cut end played.stopped
  -- a thread for each looper and each session; a refused one is not one of a part
  pub starts : StartsThreads end played.cut (threads_of apps played.parts) (length run.histories.ports.items + (all_sessions played.parts + cut_sessions played.cut)) calls calls'
  -- where memory ran out in a block, a session of it was not carried out
  pub before_last : end ≡ ending.NoMemory → IfSome played.cut (λ (part : Part). IsSomeAnd (slice_get statements (length played.parts)) (λ (s : Statement). part.sessions < sessions_in s))
  -- where main found memory, and each thread was started, main did nothing for a statement without a part, and no block was cut
  pub stopped_nowhere : run.short.main ≡ false → end ≢ ending.ThreadFault → (played.stopped ≡ []) × (played.cut ≡ None)
  -- and nobody found no memory; where memory ran out, somebody did
  pub short : IsShort run.short → end ≢ ending.Done
  pub ran_short : end ≡ ending.NoMemory → IsShort run.short
  pub main_short : run.short.main ≡ true → (end ≡ ending.NoMemory) ⊎ ((end ≡ ending.ThreadFault) × IsSomeAnd played.cut (λ (part : Part). Unit {0}))
