-- What `read` tells of a script: how much is described, and how much is to be done.
use Rattle.std.specs.Prelude.{◌≡◌, ℕ, ◌-◌, List, [], ◌∷◌, ◌++◌, length, sum_by, codes, refl}
use Rattle.std.specs.Fmt.{decimal, digits}
use Rattle.ak_action.specs.declared.plan.PlanParts.{PlanParts}
use Rattle.ak_describe.specs.declared.described.AppText.{AppText}
use Rattle.ak_script.specs.Script.{ScriptData}
use Rattle.ak_script.specs.Statement.{LaunchData, SessionLineData, launch_statement, together_statement, lines_in}

-- the loopers of all applications
abbrev pub looper_count : List AppText → ℕ
looper_count apps = sum_by (λ (app : AppText). length app.loopers) apps

-- a looper's `handler` lines: each of its handlers has one but the first, which is the looper itself
abbrev pub handler_lines : PlanParts → ℕ
handler_lines looper = length looper.rows - 1

abbrev pub handlers_of : List PlanParts → ℕ
handlers_of loopers = sum_by handler_lines loopers

-- those of all applications
abbrev pub handler_count : List AppText → ℕ
handler_count apps = sum_by (λ (app : AppText). handlers_of app.loopers) apps

-- the line that is written, as `apps 1 loopers 1 handlers 0 statements 2`; a block counts as the lines of its sessions
abbrev pub summary : ScriptData → List ℕ
summary script =
    codes "apps " ++ decimal (length script.apps) ++ codes " loopers " ++ decimal (looper_count script.apps) ++ codes " handlers "
    ++ decimal (handler_count script.apps) ++ codes " statements " ++ decimal (lines_in script.statements) ++ 10 ∷ []

-- that of an empty input
pub empty_summary : summary (record { apps = []; statements = [] }) ≡ codes "apps 0 loopers 0 handlers 0 statements 0" ++ 10 ∷ []
unfolding digits
empty_summary = refl

-- that of a launch, and a block of two sessions of one and two lines
pub block_summary : (l : LaunchData) (a b c : SessionLineData)
    → summary (record { apps = []; statements = launch_statement l ∷ together_statement (record { sessions = record { lines = a ∷ [] } ∷ record { lines = b ∷ c ∷ [] } ∷ [] }) ∷ [] })
    ≡ codes "apps 0 loopers 0 handlers 0 statements 4" ++ 10 ∷ []
unfolding digits
block_summary l a b c = refl
