-- What holds of all inputs: each is the text of a script, or has one first refusal, and what is read is whole.
use Rattle.std.specs.Prelude.{◌≡◌, ◌≤◌, ◌⊎◌, ℕ, List, length, Ok, Err}
use Rattle.std.specs.List.{All}
use Rattle.ak_describe.specs.Pass.{Refusal}
use Rattle.ak_describe.specs.Whole.{AreWholeApps}
use Rattle.ak_script.specs.Limits.{session_limit, statement_limit}
use Rattle.ak_script.specs.Script.{ScriptData, script_of}
use Rattle.ak_script.specs.Statement.{SessionData, TogetherData, StatementData, launch_statement, hey_statement, post_statement, lock_statement, together_statement, lines_in}

abbrev pub ScriptOrRefusal : Type 0
ScriptOrRefusal = (input : List ℕ) → ((s : ScriptData) × (script_of input ≡ Ok s)) ⊎ ((r : Refusal) × (script_of input ≡ Err r))

abbrev pub NotBoth : Type 0
NotBoth = (input : List ℕ) (s : ScriptData) (r : Refusal) → script_of input ≡ Ok s → script_of input ≡ Err r → ⊥

-- it has one line or more
abbrev pub IsWholeSession : SessionData → Type 0
IsWholeSession s = 1 ≤ length s.lines

-- it has 1 to 8 sessions, and they are whole
pub record IsWholeBlock (b : TogetherData) : Type 0 where
  pub some : 1 ≤ length b.sessions
  pub few : length b.sessions ≤ session_limit
  pub sessions_are : All IsWholeSession b.sessions

abbrev pub IsWholeStatement : StatementData → Type 0
IsWholeStatement (launch_statement s) = Unit {0}
IsWholeStatement (hey_statement s) = Unit {0}
IsWholeStatement (post_statement s) = Unit {0}
IsWholeStatement (lock_statement s) = Unit {0}
IsWholeStatement (together_statement s) = IsWholeBlock s

-- the applications are whole, and so are the blocks, and at most 8,000 lines say statements, those of sessions too
pub record IsWholeScript (s : ScriptData) : Type 0 where
  pub apps_are : AreWholeApps s.apps
  pub statements_are : All IsWholeStatement s.statements
  pub few : lines_in s.statements ≤ statement_limit

abbrev pub ScriptsAreWhole : Type 0
ScriptsAreWhole = (input : List ℕ) (s : ScriptData) → script_of input ≡ Ok s → IsWholeScript s
