-- The top call: its endings, the input that it read, and what it wrote.
use Rattle.std.specs.Prelude.{◌≡◌, ◌≢◌, ◌⊎◌, ℕ, ◌<◌, ◌≤◌, Bool, true, List, [], ◌∷◌, ◌++◌, length, take, codes, Option, None}
use Rattle.std.specs.Fmt.{decimal}
use Rattle.std.specs.Io.KnownBytes.{Appends, Consumes, IsAtEnd}
use Rattle.ak_base.specs.declared.ending.Ending.{Ending}
use Rattle.ak_base.specs.declared.ending.Ending.TheVariants as ending
use Rattle.ak_base.specs.declared.ending.RefusalKind.{RefusalKind}
use Rattle.ak_base.specs.Refusal.{text_of}
use Rattle.ak_input.specs.Limits.{input_limit}
use Rattle.ak_outside.specs.Calls.{Calls}
use Rattle.ak_outside.specs.Faults.{Rose}
use Rattle.ak_outside.specs.Sink.{AppendsPart}
use Rattle.ak_script.specs.declared.script.Script.{Script}
use Rattle.ak_script.specs.Generated.{generated_limit}
use Rattle.ak_script.specs.Refusals.{FirstRefusal, ScriptOf}
use Rattle.ak_script.specs.Script.{ScriptData}
use Rattle.ak_script.specs.Seen.{script_seen}
use Rattle.ak_play.specs.declared.run_end.Lines.{Lines}
use Rattle.ak_play.specs.declared.run_end.Lines.TheVariants as lines
use Rattle.ak_play.specs.declared.run_end.RunEnd.{RunEnd}
use Rattle.ak_play.specs.Play.{IsPlay}
use Rattle.ak_kit.specs.declared.words.Command.{Command}
use Rattle.ak_kit.specs.declared.words.Command.TheVariants as command
use Rattle.ak_kit.specs.Gen.{gen_line}
use Rattle.ak_kit.specs.Summary.{summary}

-- ---- the commands
abbrev pub run_words : List (List ℕ)
run_words = codes "run" ∷ []

-- with its journal
abbrev pub journal_words : List (List ℕ)
journal_words = codes "run" ∷ codes "-j" ∷ []

abbrev pub read_words : List (List ℕ)
read_words = codes "read" ∷ []

-- `gen` and that number
abbrev pub gen_words : ℕ → List (List ℕ)
gen_words n = codes "gen" ∷ decimal n ∷ []

-- `gen` and a number that a script is made of
abbrev pub IsGen : List (List ℕ) → Type 0
IsGen words = (n : ℕ) × (1 ≤ n) × (n ≤ generated_limit) × (words ≡ gen_words n)

-- a command that carries an input out
abbrev pub RunsInput : List (List ℕ) → Type 0
RunsInput words = (words ≡ run_words) ⊎ (words ≡ journal_words)

-- a command that reads an input
abbrev pub ReadsInput : List (List ℕ) → Type 0
ReadsInput words = RunsInput words ⊎ (words ≡ read_words)

abbrev pub IsCommand : List (List ℕ) → Type 0
IsCommand words = ReadsInput words ⊎ IsGen words

-- the words say that command
abbrev pub SaysCommand : List (List ℕ) → Command → Type 0
SaysCommand words command.Run = words ≡ run_words
SaysCommand words command.Journal = words ≡ journal_words
SaysCommand words command.Read = words ≡ read_words
SaysCommand words (command.Gen n) = (1 ≤ n) × (n ≤ generated_limit) × (words ≡ gen_words n)

-- that number alone is told by them, and by those of the other commands none
abbrev pub TellsNumber : List (List ℕ) → Command → Type 0
TellsNumber words (command.Gen n) = (m : ℕ) → words ≡ gen_words m → m ≡ n
TellsNumber words _ = (m : ℕ) → words ≢ gen_words m

-- the exit status
abbrev pub status_of : Ending → ℕ
status_of ending.Done = 0
status_of ending.Usage = 1
status_of (ending.Refused _ _) = 2
status_of ending.ReadFault = 3
status_of ending.WriteFault = 4
status_of ending.ThreadFault = 5
status_of ending.NoMemory = 6

-- the line that is written at the end
abbrev pub closing_line : Ending → List ℕ
closing_line ending.Done = []
closing_line ending.Usage = codes "usage: kit run [-j] | read | gen N" ++ 10 ∷ []
closing_line (ending.Refused line why) = codes "refused line " ++ decimal line ++ codes ": " ++ text_of why ++ 10 ∷ []
closing_line ending.ReadFault = codes "read fault" ++ 10 ∷ []
closing_line ending.WriteFault = []
closing_line ending.ThreadFault = codes "thread fault" ++ 10 ∷ []
closing_line ending.NoMemory = codes "no memory" ++ 10 ∷ []

-- ---- which endings

-- of a script that was not carried out
abbrev pub IsUnrun : Ending → Type 0
IsUnrun ending.Usage = Unit {0}
IsUnrun (ending.Refused _ _) = Unit {0}
IsUnrun ending.ReadFault = Unit {0}
IsUnrun ending.NoMemory = Unit {0}
IsUnrun ending.Done = ⊥
IsUnrun ending.WriteFault = ⊥
IsUnrun ending.ThreadFault = ⊥

-- where the source gave no script
abbrev pub IsScriptless : Ending → Type 0
IsScriptless ending.ReadFault = Unit {0}
IsScriptless (ending.Refused _ _) = Unit {0}
IsScriptless ending.NoMemory = Unit {0}
IsScriptless ending.Usage = ⊥
IsScriptless ending.Done = ⊥
IsScriptless ending.WriteFault = ⊥
IsScriptless ending.ThreadFault = ⊥

-- of `read`
abbrev pub IsReading : Ending → Type 0
IsReading ending.Done = Unit {0}
IsReading (ending.Refused _ _) = Unit {0}
IsReading ending.ReadFault = Unit {0}
IsReading ending.WriteFault = Unit {0}
IsReading ending.NoMemory = Unit {0}
IsReading ending.Usage = ⊥
IsReading ending.ThreadFault = ⊥

abbrev pub IsRefusal : Ending → Type 0
IsRefusal (ending.Refused _ _) = Unit {0}
IsRefusal _ = ⊥

abbrev pub IsNoRefusal : Ending → Type 0
IsNoRefusal (ending.Refused _ _) = ⊥
IsNoRefusal _ = Unit {0}

-- without a script the program ends so, but for want of memory for the line of a refusal
abbrev pub EndsFor : Ending → Ending → Type 0
EndsFor first end = (end ≡ first) ⊎ (IsRefusal first × (end ≡ ending.NoMemory))

-- ---- the input

-- The source gave these bytes in this call, and they are the whole input: it ended there, or gave more than an input may have.
pub record WasRead (old new : Option (List ℕ)) (input : List ℕ) : Type 0 where
  pub given : Consumes old new input
  pub whole : length input ≤ input_limit → IsAtEnd new

-- the input was read, and is so
abbrev pub SomeInput : (List ℕ → Type 0) → Option (List ℕ) → Option (List ℕ) → Type 0
SomeInput IsSo old new = (input : List ℕ) × WasRead old new input × IsSo input

-- it is the text of the script that says this
unfoldable pub SaysScript : ScriptData → List ℕ → Type 0
SaysScript script input = ScriptOf input script

-- it is the text of that script
abbrev pub IsTextOf : Script → List ℕ → Type 0
IsTextOf script input = SaysScript (script_seen script) input

-- the script that it is the text of is so
abbrev pub SomeScript : (ScriptData → Type 0) → List ℕ → Type 0
SomeScript IsSo input = (script : ScriptData) × SaysScript script input × IsSo script

-- its first refusal is at that line, for that reason
unfoldable pub IsRefusedAt : ℕ → RefusalKind → List ℕ → Type 0
IsRefusedAt line why input = FirstRefusal input line why

-- it ends so where there is no script: with its first refusal, or for want of memory
abbrev pub IsFaultOf : Ending → List ℕ → Type 0
IsFaultOf (ending.Refused line why) input = IsRefusedAt line why input
IsFaultOf ending.NoMemory input = Unit {0}
IsFaultOf _ input = ⊥

-- ---- what is written

-- the closing line was written, and no call failed; or a front of it, and one did
abbrev pub Closes : Ending → Option (List ℕ) → Option (List ℕ) → ℕ → ℕ → Type 0
Closes end old new faults faults' =
    (n : ℕ) × Appends old new (take n (closing_line end)) × (n < length (closing_line end) → Rose faults faults') × (length (closing_line end) ≤ n → faults' ≡ faults)

-- Behind lines of which that became: the closing line, but where a write failed, behind which nothing is written
abbrev pub ClosesBehind : Lines → Ending → Option (List ℕ) → Option (List ℕ) → ℕ → ℕ → Type 0
ClosesBehind lines.Whole end old new faults faults' = Closes end old new faults faults'
ClosesBehind lines.Cut end old new faults faults' = Appends old new [] × (faults' ≡ faults)
ClosesBehind lines.Lacking end old new faults faults' = Closes end old new faults faults'

-- the line was written, or a front of it where the sink failed; without memory for it the closing line alone
abbrev pub TellsLine : List ℕ → Ending → Option (List ℕ) → Option (List ℕ) → ℕ → ℕ → Type 0
TellsLine line ending.Done old new faults faults' = Appends old new line
TellsLine line ending.WriteFault old new faults faults' = AppendsPart old new line
TellsLine line ending.NoMemory old new faults faults' = Closes ending.NoMemory old new faults faults'
TellsLine line _ old new faults faults' = ⊥

-- At Done, of what the source gave (`left` and `left'` are what is left of it before and after), the summary line of the script; at
-- WriteFault a front of it; at any other ending the closing line alone.
abbrev pub Tells : Ending → Option (List ℕ) → Option (List ℕ) → Option (List ℕ) → Option (List ℕ) → ℕ → ℕ → Type 0
Tells ending.Done left left' old new faults faults' = SomeInput (SomeScript (λ s. Appends old new (summary s))) left left'
Tells ending.WriteFault left left' old new faults faults' = SomeInput (SomeScript (λ s. AppendsPart old new (summary s))) left left'
Tells ending.Usage left left' old new faults faults' = Closes ending.Usage old new faults faults'
Tells (ending.Refused line why) left left' old new faults faults' = Closes (ending.Refused line why) old new faults faults'
Tells ending.ReadFault left left' old new faults faults' = Closes ending.ReadFault old new faults faults'
Tells ending.ThreadFault left left' old new faults faults' = Closes ending.ThreadFault old new faults faults'
Tells ending.NoMemory left left' old new faults faults' = Closes ending.NoMemory old new faults faults'

-- the lines of the run's statements, those of a block session by session, and behind them the closing line, but where a write failed. The sink
-- failed so often before and after all, and so often between. The threads of the run were started by these calls
pub record PlaysAndCloses (run : RunEnd) (end : Ending) (old new : Option (List ℕ)) (faults faults' : ℕ) (calls calls' : Option Calls) : Type 0 where
  pub between : Option (List ℕ)
  pub faults_between : ℕ
  pub first : faults ≤ faults_between
  pub second : faults_between ≤ faults'
  pub play : IsPlay run.script.apps.items run.script.statements.items end run old between (Rose faults faults_between) (faults_between ≡ faults) calls calls'
  pub closes : ClosesBehind run.lines end between new faults_between faults'

-- ---- the script of a number

-- the run, with that said of main: whether it found no memory
abbrev pub with_main : Bool → RunEnd → RunEnd
with_main main run = record run { short = record run.short { main = main } }

-- it is a run of its script that ended so, of which no line was written anywhere, and so no write failed
abbrev pub IsPlayNowhere : Ending → RunEnd → Option Calls → Option Calls → Type 0
IsPlayNowhere ended run calls calls' = IsPlay run.script.apps.items run.script.statements.items ended run None None ⊥ (Unit {0}) calls calls'

-- What was written of a run that ended so (`ended`). Of one that was done it is the line, and main is told as it was (`main`); or, without memory
-- for the line, the closing line, and main is told to have found none. Of any other it is the closing line, and main is told as it was
abbrev pub TellsRun : Ending → ℕ → RunEnd → Bool → Ending → Option (List ℕ) → Option (List ℕ) → ℕ → ℕ → Type 0
TellsRun ending.Done n run main end old new faults faults' =
    TellsLine (gen_line n run.tolds) end old new faults faults' × (end ≢ ending.NoMemory → run.short.main ≡ main) × (end ≡ ending.NoMemory → run.short.main ≡ true)
TellsRun ended n run main end old new faults faults' = (end ≡ ended) × (run.short.main ≡ main) × Closes end old new faults faults'

-- The script was carried out, with its lines written nowhere, and then it was told of by one line. Before the line the run ended so, and main was
-- so; the sink failed so often before and after it. The threads of the run were started by these calls
pub record GeneratesAndCloses (n : ℕ) (run : RunEnd) (end : Ending) (old new : Option (List ℕ)) (faults faults' : ℕ) (calls calls' : Option Calls) : Type 0 where
  pub ended : Ending
  pub main : Bool
  pub play : IsPlayNowhere ended (with_main main run) calls calls'
  pub no_write : ended ≢ ending.WriteFault
  pub tells : TellsRun ended n run main end old new faults faults'
