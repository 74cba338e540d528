-- What `run -j` writes behind the lines of the outcomes: the line `journal`, and a line for each entry of each object of the run.
use Rattle.std.specs.Prelude.{◌≡◌, ◌≤◌, ◌⊎◌, ℕ, Bool, true, List, [], ◌∷◌, ◌++◌, take, codes, Option, ◌<◌, length, if◌then◌else◌, All}
use Rattle.std.specs.List.{flat_map}
use Rattle.std.specs.Io.KnownBytes.{Appends}
use Rattle.ak_base.specs.declared.ending.Ending.{Ending}
use Rattle.ak_base.specs.declared.ending.Ending.TheVariants as ending
use Rattle.ak_outside.specs.Calls.{Calls}
use Rattle.ak_outside.specs.Faults.{Rose}
use Rattle.ak_outside.specs.Sink.{AppendsPart}
use Rattle.ak_diary.specs.declared.histories.Histories.{Histories}
use Rattle.ak_journal.specs.declared.entry.Entry.{Entry}
use Rattle.ak_journal.specs.Legible.{IsLegible}
use Rattle.ak_journal.specs.Line.{entry_line}
use Rattle.ak_world.specs.Merged.{IsMerged}
use Rattle.ak_play.specs.declared.run_end.Lines.{Lines}
use Rattle.ak_play.specs.declared.run_end.Lines.TheVariants as lines
use Rattle.ak_play.specs.declared.run_end.RunEnd.{RunEnd}
use Rattle.ak_play.specs.Play.{IsPlay}
use Rattle.ak_kit.specs.Kit.{ClosesBehind, with_main}

-- ---- the text
-- the lines of the entries, each ended
abbrev pub entries_text : List Entry → List ℕ
entries_text entries = flat_map (λ (entry : Entry). entry_line entry ++ 10 ∷ []) entries

abbrev pub head_line : List ℕ
head_line = codes "journal" ++ 10 ∷ []

-- all entries of the run, by their stamps
abbrev pub journal_text : List Entry → List ℕ
journal_text entries = head_line ++ entries_text entries

-- each of them is read back from its line
abbrev pub AreLegible : List Entry → Type 0
AreLegible entries = All IsLegible entries

-- of all entries of the run, in one list, that holds
abbrev pub OfMerged : Histories → (List Entry → Type 0) → Type 0
OfMerged h Holds = (entries : List Entry) × IsMerged h entries × Holds entries

-- nothing of the journal, or the first lines and not all, each of a legible entry
abbrev pub IsJournalFront : Histories → Option (List ℕ) → Option (List ℕ) → Type 0
IsJournalFront h old new =
    Appends old new []
    ⊎ OfMerged h (λ entries. (count : ℕ) × (count < length entries) × AreLegible (take count entries) × Appends old new (head_line ++ entries_text (take count entries)))

-- ---- how much of it was written
-- all; a front, where a write failed; or the first lines, where memory ran out. Each line is of a legible entry, so it is read back as that
abbrev pub HasJournaled : Histories → Lines → Option (List ℕ) → Option (List ℕ) → Type 0
HasJournaled h lines.Whole old new = OfMerged h (λ entries. AreLegible entries × Appends old new (journal_text entries))
HasJournaled h lines.Cut old new =
    OfMerged h (λ entries. (count : ℕ) × AreLegible (take count entries) × AppendsPart old new (head_line ++ entries_text (take count entries)))
HasJournaled h lines.Lacking old new = IsJournalFront h old new

-- so much of the lines of these entries
abbrev pub HasWrittenEntries : List Entry → Lines → Option (List ℕ) → Option (List ℕ) → Type 0
HasWrittenEntries entries lines.Whole old new = AreLegible entries × Appends old new (entries_text entries)
HasWrittenEntries entries lines.Cut old new = (count : ℕ) × AreLegible (take count entries) × AppendsPart old new (entries_text (take count entries))
HasWrittenEntries entries lines.Lacking old new =
    (count : ℕ) × (count < length entries) × AreLegible (take count entries) × Appends old new (entries_text (take count entries))

-- the sink failed exactly where a write did
abbrev pub FailedSo : Lines → ℕ → ℕ → Type 0
FailedSo lines.Whole faults faults' = faults' ≡ faults
FailedSo lines.Cut faults faults' = Rose faults faults'
FailedSo lines.Lacking faults faults' = faults' ≡ faults

-- ---- the ending
-- where a write failed behind a run that ended so; a thread that was not started comes before it, and so does memory that main did not find
abbrev pub at_a_write : Bool → Ending → Ending
at_a_write main ending.ThreadFault = ending.ThreadFault
at_a_write main ending.NoMemory = if main then ending.NoMemory else ending.WriteFault
at_a_write main _ = ending.WriteFault

-- where memory ran out behind it
abbrev pub without_memory : Ending → Ending
without_memory ending.ThreadFault = ending.ThreadFault
without_memory _ = ending.NoMemory

abbrev pub ends_behind : Bool → Ending → Lines → Ending
ends_behind main ended lines.Whole = ended
ends_behind main ended lines.Cut = at_a_write main ended
ends_behind main ended lines.Lacking = without_memory ended

-- whether main found no memory
abbrev pub main_behind : Bool → Lines → Bool
main_behind main lines.Whole = main
main_behind main lines.Cut = main
main_behind main lines.Lacking = true

-- ---- the end of the program
-- The journal was written so far behind a run that ended so (`ended`), of which main was so (`main`), and then the closing line, but where a write
-- failed. The sink failed so often before, between and after
pub record WritesJournal (ended : Ending) (run : RunEnd) (main : Bool) (end : Ending) (old new : Option (List ℕ)) (faults faults' : ℕ) : Type 0 where
  pub told : Lines
  pub between : Option (List ℕ)
  pub faults_between : ℕ
  pub journaled : HasJournaled run.histories told old between
  pub failed : FailedSo told faults faults_between
  pub end_is : end ≡ ends_behind main ended told
  pub main_is : run.short.main ≡ main_behind main told
  pub closes : ClosesBehind told end between new faults_between faults'

-- where a line of an outcome is missing no journal follows
pub record LeavesJournalOut (ended : Ending) (run : RunEnd) (main : Bool) (end : Ending) (old new : Option (List ℕ)) (faults faults' : ℕ) : Type 0 where
  pub end_is : end ≡ ended
  pub main_is : run.short.main ≡ main
  pub closes : ClosesBehind run.lines end old new faults faults'

-- by what became of the lines of its outcomes
abbrev pub TellsJournal : Lines → Ending → RunEnd → Bool → Ending → Option (List ℕ) → Option (List ℕ) → ℕ → ℕ → Type 0
TellsJournal lines.Whole ended run main end old new faults faults' = WritesJournal ended run main end old new faults faults'
TellsJournal lines.Cut ended run main end old new faults faults' = LeavesJournalOut ended run main end old new faults faults'
TellsJournal lines.Lacking ended run main end old new faults faults' = LeavesJournalOut ended run main end old new faults faults'

-- The lines of the run's statements, those of a block session by session; behind them the journal; and behind it the closing line. Behind the lines
-- the run ended so, and main was so; the sink failed so often then. The threads of the run were started by these calls
pub record JournalsAndCloses (run : RunEnd) (end : Ending) (old new : Option (List ℕ)) (faults faults' : ℕ) (calls calls' : Option Calls) : Type 0 where
  pub ended : Ending
  pub main : Bool
  pub between : Option (List ℕ)
  pub faults_between : ℕ
  pub first : faults ≤ faults_between
  pub second : faults_between ≤ faults'
  pub play : IsPlay run.script.apps.items run.script.statements.items ended (with_main main run) old between (Rose faults faults_between) (faults_between ≡ faults) calls calls'
  pub tells : TellsJournal run.lines ended run main end between new faults_between faults'
