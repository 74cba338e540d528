-- Which script an input is the text of, and its first refusal, apart from how it is read.
use Rattle.std.specs.Prelude.{◌≡◌, ◌≢◌, ◌↔◌, ◌⊎◌, ℕ, ◌+◌, ◌<◌, ◌≤◌, List, [], ◌∷◌, ◌++◌, length, codes, Option, Some, None, Ok, Err}
use Rattle.ak_base.specs.declared.ending.RefusalKind.{RefusalKind}
use Rattle.ak_base.specs.declared.ending.RefusalKind.TheVariants as refusal
use Rattle.ak_input.specs.declared.line.Line.{Line}
use Rattle.ak_input.specs.declared.lines.InputLines.{InputLines}
use Rattle.ak_input.specs.Limits.{input_limit}
use Rattle.ak_input.specs.Lines.{line_at}
use Rattle.ak_describe.specs.Describes as descriptions
use Rattle.ak_describe.specs.Describes.{Describes, Follow}
use Rattle.ak_describe.specs.Laws.{IsPassed}
use Rattle.ak_describe.specs.Pass.{State, Refusal, nothing_read, last_item, number_behind}
use Rattle.ak_describe.specs.Says.{IsComplete}
use Rattle.ak_describe.specs.Words.{texts}
use Rattle.ak_script.specs.declared.fault.ScriptFault.{ScriptFault}
use Rattle.ak_script.specs.declared.fault.ScriptFault.TheVariants as answer
use Rattle.ak_script.specs.Blocks.{Block, closed}
use Rattle.ak_script.specs.Faulty.{Key, kit_key, script_key, launch_key, hey_key, post_key, lock_key, together_key, session_key, end_key, IsStatementKey, IsSessionKey, AreOfForm, Opens, IsUnknown, IsBad, IsBadHey, IsOver}
use Rattle.ak_script.specs.InputLines.{AreLinesOf}
use Rattle.ak_script.specs.Limits.{session_limit, statement_limit}
use Rattle.ak_script.specs.SaysLines.{IsAlone, SayLines, SaySessions, SayAll}
use Rattle.ak_script.specs.Script.{ScriptData, script_of}
use Rattle.ak_script.specs.Statement.{SessionLineData, SessionData, StatementData, lines_of_sessions, lines_in}

-- ---- where a line stands
-- first; behind lines that describe applications, and what these come to; behind statements; in a block that is open
pub data Place : Type 0 where
  first_place : Place
  described_place : List Line → State → Place
  statement_place : List Line → List StatementData → Place
  block_place : List Line → List StatementData → Block → Place

-- `kit 1`
abbrev pub IsVersion : Line → Type 0
IsVersion line = texts line.words ≡ codes "kit" ∷ codes "1" ∷ []

-- `kit 1`, lines that describe applications, with which nothing is wrong where they end, and `script`
pub record AreHead (lines described_lines : List Line) : Type 0 where
  pub first : Line
  pub last : Line
  pub parts : lines ≡ first ∷ (described_lines ++ last ∷ [])
  pub version_is : IsVersion first
  pub passed : IsPassed described_lines
  pub script_is : IsAlone last (codes "script")

-- and behind these, lines that say these statements, at most 8,000
pub record AreSaid (lines described_lines : List Line) (statements : List StatementData) : Type 0 where
  pub head : List Line
  pub said : List Line
  pub parts : lines ≡ head ++ said
  pub head_is : AreHead head described_lines
  pub say : SayAll said statements
  pub few : lines_in statements ≤ statement_limit

-- whole sessions, then `session` and lines of that one; or nothing yet
abbrev pub AreOpen : List Line → List SessionData → Option (List SessionLineData) → Type 0
AreOpen lines sessions None = (lines ≡ []) × (sessions ≡ [])
AreOpen lines sessions (Some said) =
    (whole : List Line) × (opens : Line) × (rest : List Line) × (lines ≡ whole ++ opens ∷ rest) × SaySessions whole sessions × IsAlone opens (codes "session") × SayLines rest said

-- statements, then `together`, and at most 8 sessions, the last of which may be open
pub record AreInBlock (lines described_lines : List Line) (statements : List StatementData) (b : Block) : Type 0 where
  pub front : List Line
  pub opens : Line
  pub inner : List Line
  pub parts : lines ≡ front ++ opens ∷ inner
  pub front_is : AreSaid front described_lines statements
  pub together_is : IsAlone opens (codes "together")
  pub open_is : AreOpen inner b.sessions b.begun
  pub few : length (closed b) ≤ session_limit
  pub room : lines_in statements + lines_of_sessions (closed b) ≤ statement_limit

-- nothing is wrong with these lines, and the next one stands there
abbrev pub Lead : List Line → Place → Type 0
Lead lines first_place = lines ≡ []
Lead lines (described_place ds s) = (first : Line) × (lines ≡ first ∷ ds) × IsVersion first × Follow nothing_read ds s
Lead lines (statement_place ds statements) = AreSaid lines ds statements
Lead lines (block_place ds statements b) = AreInBlock lines ds statements b

-- ---- which lines may stand there
-- a line of the session that has begun has come
abbrev pub HasLine : Block → Type 0
HasLine b = (line : SessionLineData) × (lines : List SessionLineData) × (b.begun ≡ Some (line ∷ lines))

-- a session has begun
abbrev pub HasBegun : Block → Type 0
HasBegun b = (lines : List SessionLineData) × (b.begun ≡ Some lines)

-- `kit` is first; `script` stands where the applications may end; `session` and `end` behind a line of a session, and `session` first in a block
abbrev pub MayStand : Place → Key → Type 0
MayStand first_place key = key ≡ kit_key
MayStand (described_place ds s) key = (key ≡ script_key) × IsComplete s.apps
MayStand (statement_place ds statements) key = IsStatementKey key ⊎ (key ≡ together_key)
MayStand (block_place ds statements b) key =
    (IsSessionKey key × HasBegun b) ⊎ (((key ≡ session_key) × (b.begun ≢ Some [])) ⊎ ((key ≡ end_key) × HasLine b))

-- ---- room
-- how many lines say statements there, and how many sessions of the block have begun
abbrev pub said_lines : Place → ℕ
said_lines first_place = 0
said_lines (described_place ds s) = 0
said_lines (statement_place ds statements) = lines_in statements
said_lines (block_place ds statements b) = lines_in statements + lines_of_sessions (closed b)

abbrev pub begun_sessions : Place → ℕ
begun_sessions first_place = 0
begun_sessions (described_place ds s) = 0
begun_sessions (statement_place ds statements) = 0
begun_sessions (block_place ds statements b) = length (closed b)

-- there are not 8,000 lines yet, nor 8 sessions
abbrev pub HasRoom : Place → Key → Type 0
HasRoom p launch_key = said_lines p < statement_limit
HasRoom p hey_key = said_lines p < statement_limit
HasRoom p post_key = said_lines p < statement_limit
HasRoom p lock_key = said_lines p < statement_limit
HasRoom p session_key = begun_sessions p < session_limit
HasRoom p kit_key = Unit {0}
HasRoom p script_key = Unit {0}
HasRoom p together_key = Unit {0}
HasRoom p end_key = Unit {0}

-- it is of its form, and one too many
pub record IsFull (p : Place) (words : List (List ℕ)) : Type 0 where
  pub key : Key
  pub rest : List (List ℕ)
  pub opens : Opens (MayStand p) words key rest
  pub form : AreOfForm key rest
  pub full : ¬ (HasRoom p key)

-- ---- what is wrong with a line there
-- lines that describe applications came, up to this state
abbrev pub Describing : Place → State → Type 0
Describing p s = (ds : List Line) × (p ≡ described_place ds s)

-- as one that describes applications
abbrev pub IsDescribedFault : Place → Line → RefusalKind → Type 0
IsDescribedFault p line kind = (s : State) × Describing p s × descriptions.IsLineFault s line kind

-- neither a line of a script may stand there that begins so, nor one that describes applications
pub record MayNotStand (p : Place) (line : Line) : Type 0 where
  pub no_line : IsUnknown (MayStand p) (texts line.words)
  pub no_description : (s : State) → Describing p s → descriptions.IsLineFault s line refusal.UnknownLine

abbrev pub IsLineFault : Place → Line → RefusalKind → Type 0
IsLineFault p line refusal.UnknownLine = MayNotStand p line
IsLineFault p line (refusal.BadHey column) = IsBadHey (MayStand p) line.words column
IsLineFault p line refusal.BadValue = IsBad (MayStand p) (texts line.words) ⊎ IsDescribedFault p line refusal.BadValue
IsLineFault p line refusal.NameInUse = IsDescribedFault p line refusal.NameInUse
IsLineFault p line refusal.Limit = IsOver (MayStand p) (texts line.words) ⊎ (IsFull p (texts line.words) ⊎ IsDescribedFault p line refusal.Limit)
IsLineFault p line refusal.InputTooLong = ⊥
IsLineFault p line refusal.NotUtf8 = ⊥
IsLineFault p line refusal.BadWord = ⊥
IsLineFault p line refusal.Unfinished = ⊥
IsLineFault p line refusal.UnknownName = ⊥
IsLineFault p line refusal.ChainLoop = ⊥
IsLineFault p line refusal.AskOrder = ⊥

-- ---- where the lines end
-- they may end there: the last application has a looper, and no block is open
abbrev pub MayEnd : Place → Type 0
MayEnd first_place = Unit {0}
MayEnd (described_place ds s) = IsComplete s.apps
MayEnd (statement_place ds statements) = Unit {0}
MayEnd (block_place ds statements b) = ⊥

abbrev pub described_lines_of : Place → List Line
described_lines_of first_place = []
described_lines_of (described_place ds s) = ds
described_lines_of (statement_place ds statements) = ds
described_lines_of (block_place ds statements b) = ds

abbrev pub statements_of : Place → List StatementData
statements_of first_place = []
statements_of (described_place ds s) = []
statements_of (statement_place ds statements) = statements
statements_of (block_place ds statements b) = statements

-- each line has words, nothing is wrong with any, and they may end there
pub record ArePassed (read : InputLines) (p : Place) : Type 0 where
  pub have_words : read.fault ≡ None
  pub lead : Lead read.lines p
  pub may_end : MayEnd p

-- ---- the script, and the first refusal
-- an input that is not too long, whose lines describe the applications and say the statements
pub record ScriptOf (input : List ℕ) (s : ScriptData) : Type 0 where
  pub fits : length input ≤ input_limit
  pub read : InputLines
  pub lines_are : AreLinesOf input read
  pub place : Place
  pub passed : ArePassed read place
  pub apps_are : Describes (described_lines_of place) s.apps
  pub statements_are : s.statements ≡ statements_of place

-- over 1,048,576 bytes, at the line of the first byte more
pub record IsTooLong (input : List ℕ) (number : ℕ) (kind : RefusalKind) : Type 0 where
  pub long : input_limit < length input
  pub number_is : number ≡ line_at input_limit input
  pub kind_is : kind ≡ refusal.InputTooLong

-- nothing is wrong with the lines before this one
pub record IsFirstLineFault (read : InputLines) (number : ℕ) (kind : RefusalKind) : Type 0 where
  pub front : List Line
  pub line : Line
  pub rest : List Line
  pub all : read.lines ≡ front ++ line ∷ rest
  pub place : Place
  pub lead : Lead front place
  pub fault : IsLineFault place line kind
  pub number_is : number ≡ line.number

-- a line has no words, and nothing is wrong with the lines before it
pub record IsWithoutWords (read : InputLines) (number : ℕ) (kind : RefusalKind) : Type 0 where
  pub place : Place
  pub lead : Lead read.lines place
  pub fault : read.fault ≡ Some (record { line = number; kind = kind })

-- nothing is wrong with any line, but they may not end there: the line behind the last one is at fault
pub record EndTooEarly (read : InputLines) (number : ℕ) (kind : RefusalKind) : Type 0 where
  pub have_words : read.fault ≡ None
  pub place : Place
  pub lead : Lead read.lines place
  pub open_place : ¬ (MayEnd place)
  pub last : Line
  pub last_is : last_item read.lines ≡ Some last
  pub number_is : number ≡ number_behind last
  pub kind_is : kind ≡ refusal.Unfinished

-- the first pass finds nothing; the second one goes over the names in the descriptions alone
pub record IsSecondFault (read : InputLines) (number : ℕ) (kind : RefusalKind) : Type 0 where
  pub place : Place
  pub passed : ArePassed read place
  pub fault : descriptions.IsSecondPassFault (described_lines_of place) number kind

abbrev pub FirstFault : InputLines → ℕ → RefusalKind → Type 0
FirstFault read number kind =
    IsFirstLineFault read number kind ⊎ (IsWithoutWords read number kind ⊎ (EndTooEarly read number kind ⊎ IsSecondFault read number kind))

-- an input that is not too long, whose lines have this first fault
pub record IsFaulty (input : List ℕ) (number : ℕ) (kind : RefusalKind) : Type 0 where
  pub fits : length input ≤ input_limit
  pub read : InputLines
  pub lines_are : AreLinesOf input read
  pub fault : FirstFault read number kind

abbrev pub FirstRefusal : List ℕ → ℕ → RefusalKind → Type 0
FirstRefusal input number kind = IsTooLong input number kind ⊎ IsFaulty input number kind

-- a fault that is answered is the first refusal
abbrev pub IsRefusalOf : List ℕ → ScriptFault → Type 0
IsRefusalOf input (answer.Refused number kind) = FirstRefusal input number kind
IsRefusalOf input answer.NoMemory = Unit {0}

-- ---- the laws
-- exactly the script that an input is the text of is read of it
abbrev pub ScriptsAreRead : Type 0
ScriptsAreRead = (input : List ℕ) (s : ScriptData) → (script_of input ≡ Ok s) ↔ ScriptOf input s

-- exactly its first refusal is told of it
abbrev pub FirstRefusalIsTold : Type 0
FirstRefusalIsTold = (input : List ℕ) (r : Refusal) → (script_of input ≡ Err r) ↔ FirstRefusal input r.line r.kind

-- an input is the text of a script, or has a first refusal, and not both; the script is one, and so is the refusal
abbrev pub OneOfBoth : Type 0
OneOfBoth = (input : List ℕ) → ((s : ScriptData) × ScriptOf input s) ⊎ ((r : Refusal) × FirstRefusal input r.line r.kind)

abbrev pub NeverBoth : Type 0
NeverBoth = (input : List ℕ) (s : ScriptData) (r : Refusal) → ScriptOf input s → FirstRefusal input r.line r.kind → ⊥

abbrev pub OneScript : Type 0
OneScript = (input : List ℕ) (s other : ScriptData) → ScriptOf input s → ScriptOf input other → s ≡ other

abbrev pub OneFirstRefusal : Type 0
OneFirstRefusal =
    (input : List ℕ) (number other : ℕ) (kind another : RefusalKind) → FirstRefusal input number kind → FirstRefusal input other another
    → (number ≡ other) × (kind ≡ another)
