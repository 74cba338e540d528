-- The sessions of a block, as its lines come.
use Rattle.std.specs.Prelude.{ℕ, Bool, true, false, nat_lt, is_some, if◌then◌else◌, List, [], ◌∷◌, ◌++◌, length, Option, Some, None, option_map, Result, Err}
use Rattle.ak_base.specs.declared.ending.RefusalKind.{RefusalKind}
use Rattle.ak_base.specs.declared.ending.RefusalKind.TheVariants as refusal
use Rattle.ak_input.specs.declared.line.Word.{Word}
use Rattle.ak_describe.specs.Words.{ends}
use Rattle.ak_script.specs.Forms.{session_line_of}
use Rattle.ak_script.specs.Limits.{session_limit}
use Rattle.ak_script.specs.Statement.{SessionLineData, SessionData}

-- the sessions that are whole, and the lines of the one that has begun, where one has
pub record Block : Type 0 where
  pub sessions : List SessionData
  pub begun : Option (List SessionLineData)

-- before its first session
abbrev pub new_block : Block
new_block = record { sessions = []; begun = None }

abbrev pub with_begun : List SessionData → Option (List SessionLineData) → List SessionData
with_begun sessions None = sessions
with_begun sessions (Some lines) = sessions ++ (record { lines = lines }) ∷ []

-- all its sessions, the one that has begun too
abbrev pub closed : Block → List SessionData
closed b = with_begun b.sessions b.begun

-- how many have begun and are not whole
abbrev pub count_begun : {A : Type 0} → Option A → ℕ
count_begun None = 0
count_begun (Some x) = 1

-- ---- the line `session`
-- one has begun, and no line of it has come
abbrev pub is_bare : Option (List SessionLineData) → Bool
is_bare None = false
is_bare (Some []) = true
is_bare (Some (line ∷ lines)) = false

abbrev pub room_fault : List SessionData → Option RefusalKind
room_fault sessions = if nat_lt (length sessions) session_limit then None else Some refusal.Limit

-- it stands behind a session that has a line, or is the first, with no further word, and there are not 8
abbrev pub session_fault : Block → List (List ℕ) → Option RefusalKind
session_fault b words =
    if is_bare b.begun then Some refusal.UnknownLine else if ends words then room_fault (closed b) else Some refusal.BadValue

abbrev pub session_begun : Block → Block
session_begun b = record { sessions = closed b; begun = Some [] }

-- ---- the line `end`
-- a session has begun, and a line of it has come
abbrev pub has_line : Option (List SessionLineData) → Bool
has_line None = false
has_line (Some []) = false
has_line (Some (line ∷ lines)) = true

-- it stands behind a session that has a line, with no further word
abbrev pub end_fault : Block → List (List ℕ) → Option RefusalKind
end_fault b words = if has_line b.begun then (if ends words then None else Some refusal.BadValue) else Some refusal.UnknownLine

-- ---- lines of a session, which has begun
abbrev pub line_of : Block → List Word → Result SessionLineData RefusalKind
line_of b words = if is_some b.begun then session_line_of words else Err refusal.UnknownLine

abbrev pub more_lines : SessionLineData → List SessionLineData → List SessionLineData
more_lines line lines = lines ++ line ∷ []

abbrev pub line_added : Block → SessionLineData → Block
line_added b line = record b { begun = option_map (more_lines line) b.begun }
