-- What statements came to, part by part; a part is one statement's.
use Rattle.std.specs.Prelude.{◌≡◌, ◌+◌, ℕ, List, [], ◌∷◌, ◌++◌, length, if◌then◌else◌}
use Rattle.std.specs.List.{flat_map}
use Rattle.ak_diary.specs.Step.{Step, time_of}
use Rattle.ak_describe.specs.declared.described.AppText.{AppText}
use Rattle.ak_print.specs.declared.told.Told.{Told}
use Rattle.ak_script.specs.declared.statement.SessionLines.{SessionLines}
use Rattle.ak_script.specs.declared.statement.Statement.{Statement}
use Rattle.ak_script.specs.declared.statement.Statement.TheVariants as statement
use Rattle.ak_script.specs.declared.statement.Together.{Together}
use Rattle.ak_lines.specs.declared.outcome.Outcome.{Outcome}
use Rattle.ak_block.specs.Carried.{AreCarried, SessionPart}
use Rattle.ak_play.specs.Blocks.{IsBlock}

-- of a statement what main did for it, how many sessions were carried out, its outcomes, what is told of them, and the numbers of those sessions
-- that found no memory
pub record Part : Type 0 where
  pub steps : List Step
  pub sessions : ℕ
  pub outcomes : List Outcome
  pub tolds : List Told
  pub short : List ℕ

abbrev pub all_steps : List Part → List Step
all_steps parts = flat_map (λ (part : Part). part.steps) parts

abbrev pub all_outcomes : List Part → List Outcome
all_outcomes parts = flat_map (λ (part : Part). part.outcomes) parts

abbrev pub all_tolds : List Part → List Told
all_tolds parts = flat_map (λ (part : Part). part.tolds) parts

abbrev pub all_short : List Part → List ℕ
all_short parts = flat_map (λ (part : Part). part.short) parts

abbrev pub session_outcomes : List SessionPart → List Outcome
session_outcomes sessions = flat_map (λ (part : SessionPart). part.outcomes) sessions

abbrev pub session_tolds : List SessionPart → List Told
session_tolds sessions = flat_map (λ (part : SessionPart). part.tolds) sessions

-- the numbers, from that one on, of those that found no memory
abbrev pub short_in : ℕ → List SessionPart → List ℕ
short_in from [] = []
short_in from (part ∷ parts) = (if part.short then from ∷ [] else []) ++ short_in (from + 1) parts

-- how many sessions a statement has
abbrev pub sessions_in : Statement → ℕ
sessions_in (statement.Together t) = length t.sessions.items
sessions_in _ = 0

abbrev pub all_sessions_in : List Statement → ℕ
all_sessions_in [] = 0
all_sessions_in (s ∷ statements) = sessions_in s + all_sessions_in statements

-- ---- a statement that main carries out by itself
-- it has its outcome and its block
pub record IsMains (apps : List AppText) (s : Statement) (part : Part) : Type 0 where
  pub outcome : Outcome
  pub told : Told
  pub is : IsBlock apps s outcome told part.steps
  pub outcomes_are : part.outcomes ≡ outcome ∷ []
  pub tolds_are : part.tolds ≡ told ∷ []
  pub no_session : part.sessions ≡ 0
  pub none_short : part.short ≡ []

-- ---- a block, whose sessions begin at that time and have the numbers from that one on; Carried tells of one of them, by its time and its number,
-- what its thread did
module _ (Carried : ℕ → ℕ → SessionLines → SessionPart → Type 0) where
  -- these of its sessions were carried out; main did nothing meanwhile
  pub record IsOfSessions (time from : ℕ) (sessions : List SessionLines) (part : Part) : Type 0 where
    pub parts : List SessionPart
    pub carried : AreCarried (Carried time) from sessions parts
    pub nothing : part.steps ≡ []
    pub count : part.sessions ≡ length parts
    pub outcomes_are : part.outcomes ≡ session_outcomes parts
    pub tolds_are : part.tolds ≡ session_tolds parts
    pub short_are : part.short ≡ short_in from parts

  -- the first of them alone: main found no memory for the next one, or no thread could be started for the last of them
  pub record IsCutBlock (time from : ℕ) (t : Together) (part : Part) : Type 0 where
    pub first : List SessionLines
    pub rest : List SessionLines
    pub all : t.sessions.items ≡ first ++ rest
    pub are : IsOfSessions time from first part

  -- ---- each statement
  abbrev pub IsPart : List AppText → ℕ → ℕ → Statement → Part → Type 0
  IsPart apps time from (statement.Together t) part = IsOfSessions time from t.sessions.items part
  IsPart apps time from (statement.Launch l) part = IsMains apps (statement.Launch l) part
  IsPart apps time from (statement.Hey h) part = IsMains apps (statement.Hey h) part
  IsPart apps time from (statement.Post p) part = IsMains apps (statement.Post p) part
  IsPart apps time from (statement.Lock l) part = IsMains apps (statement.Lock l) part

  -- of the first statements, one after the other, each has its part; main's time goes on by its steps, and sessions are numbered on
  abbrev pub AreParts : List AppText → ℕ → ℕ → List Statement → List Part → Type 0
  AreParts apps time from statements [] = Unit {0}
  AreParts apps time from (s ∷ statements) (part ∷ parts) = IsPart apps time from s part × AreParts apps (time_of time part.steps) (from + part.sessions) statements parts
  AreParts apps time from [] (part ∷ parts) = ⊥

  -- the statement is a block that was cut
  abbrev pub IsCut : ℕ → ℕ → Statement → Part → Type 0
  IsCut time from (statement.Together t) part = IsCutBlock time from t part
  IsCut time from _ part = ⊥

-- how many sessions were carried out
abbrev pub all_sessions : List Part → ℕ
all_sessions [] = 0
all_sessions (part ∷ parts) = part.sessions + all_sessions parts
