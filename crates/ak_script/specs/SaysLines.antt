-- Which lines say statements: one line each, or those of a block.
use Rattle.std.specs.Prelude.{◌≡◌, ◌↔◌, ◌≤◌, ℕ, List, [], ◌∷◌, ◌++◌, length, codes, Ok}
use Rattle.ak_input.specs.declared.line.Line.{Line}
use Rattle.ak_describe.specs.Words.{texts}
use Rattle.ak_script.specs.declared.part.Part.TheVariants as part
use Rattle.ak_script.specs.Blocks.{new_block}
use Rattle.ak_script.specs.Limits.{session_limit, statement_limit}
use Rattle.ak_script.specs.Pass.{SoFar, lines_said}
use Rattle.ak_script.specs.Says.{SaysSessionLine, SaysStatement}
use Rattle.ak_script.specs.Statement.{SessionLineData, SessionData, TogetherData, StatementData, launch_statement, hey_statement, post_statement, lock_statement, together_statement, lines_in}

-- the line is that word alone
abbrev pub IsAlone : Line → List ℕ → Type 0
IsAlone line key = texts line.words ≡ key ∷ []

-- each line is one of the session
abbrev pub SayLines : List Line → List SessionLineData → Type 0
SayLines [] [] = Unit {0}
SayLines (line ∷ lines) (x ∷ xs) = SaysSessionLine (texts line.words) x × SayLines lines xs
SayLines [] (x ∷ xs) = ⊥
SayLines (line ∷ lines) [] = ⊥

-- `session`, and one line or more
pub record SaySession (lines : List Line) (s : SessionData) : Type 0 where
  pub opens : Line
  pub rest : List Line
  pub parts : lines ≡ opens ∷ rest
  pub session_is : IsAlone opens (codes "session")
  pub lines_are : SayLines rest s.lines
  pub some : 1 ≤ length s.lines

-- one session behind another
abbrev pub SaySessions : List Line → List SessionData → Type 0
SaySessions lines [] = lines ≡ []
SaySessions lines (s ∷ sessions) =
    (first : List Line) × (more : List Line) × (lines ≡ first ++ more) × SaySession first s × SaySessions more sessions

-- `together`, 1 to 8 sessions, and `end`
pub record IsBlock (lines : List Line) (b : TogetherData) : Type 0 where
  pub opens : Line
  pub inner : List Line
  pub closes : Line
  pub parts : lines ≡ opens ∷ (inner ++ closes ∷ [])
  pub together_is : IsAlone opens (codes "together")
  pub sessions_are : SaySessions inner b.sessions
  pub some : 1 ≤ length b.sessions
  pub few : length b.sessions ≤ session_limit
  pub end_is : IsAlone closes (codes "end")

-- one line that says it
abbrev pub IsOne : List Line → StatementData → Type 0
IsOne lines s = (line : Line) × (lines ≡ line ∷ []) × SaysStatement (texts line.words) s

abbrev pub SayOne : List Line → StatementData → Type 0
SayOne lines (launch_statement s) = IsOne lines (launch_statement s)
SayOne lines (hey_statement s) = IsOne lines (hey_statement s)
SayOne lines (post_statement s) = IsOne lines (post_statement s)
SayOne lines (lock_statement s) = IsOne lines (lock_statement s)
SayOne lines (together_statement s) = IsBlock lines s

-- one statement behind another
abbrev pub SayAll : List Line → List StatementData → Type 0
SayAll lines [] = lines ≡ []
SayAll lines (s ∷ statements) =
    (first : List Line) × (more : List Line) × (lines ≡ first ++ more) × SayOne first s × SayAll more statements

-- behind the line `script`, and behind lines that say these statements
abbrev pub behind_script : List Line → List StatementData → SoFar
behind_script described statements =
    record { part = part.Statements; descriptions = described; statements = statements; block = new_block; lines = lines_in statements }

-- the lines are read, and no block is open at their end
pub record AreReadTo (described lines : List Line) (t : SoFar) : Type 0 where
  pub read : lines_said (behind_script described []) lines ≡ Ok t
  pub ends : t.part ≡ part.Statements

-- they say these statements, and there is room for them
pub record SayTo (described lines : List Line) (t : SoFar) : Type 0 where
  pub say : SayAll lines t.statements
  pub room : lines_in t.statements ≤ statement_limit
  pub reaches : t ≡ behind_script described t.statements

-- exactly the lines that say statements are read as those
abbrev pub LinesAreRead : Type 0
LinesAreRead = (described lines : List Line) (t : SoFar) → AreReadTo described lines t ↔ SayTo described lines t
