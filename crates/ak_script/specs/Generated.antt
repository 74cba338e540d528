-- The script that is made of a number: an application whose loopers count, four sessions that make them count side by side, and the
-- question how far each has counted.
use Rattle.std.specs.Prelude.{◌≡◌, ℕ, zero, suc, ◌+◌, ◌*◌, ◌%◌, ◌≤◌, false, pos, List, [], ◌∷◌, ◌++◌, length, All, codes, None}
use Rattle.ak_base.specs.Code.{code_of}
use Rattle.ak_base.specs.declared.app_word.AppWord.TheVariants as word
use Rattle.ak_base.specs.declared.code.Code.{Code}
use Rattle.ak_message.specs.declared.kind.Kind.TheVariants as k
use Rattle.ak_message.specs.declared.specifier.At.{At}
use Rattle.ak_message.specs.declared.specifier.At.TheVariants as at
use Rattle.ak_message.specs.Message.{ValueData, MessageData, int32_value}
use Rattle.ak_input.specs.Written.{coded}
use Rattle.ak_specifier.specs.Current.{with_specifier}
use Rattle.ak_property.specs.declared.table.PropertyRow.{PropertyRow}
use Rattle.ak_value.specs.Elements.{ElementsData, described}
use Rattle.ak_action.specs.declared.action.Action.TheVariants as action
use Rattle.ak_action.specs.declared.action.Reaction.{Reaction}
use Rattle.ak_action.specs.declared.number.Number.TheVariants as number
use Rattle.ak_action.specs.declared.plan.PlanParts.{PlanParts}
use Rattle.ak_action.specs.declared.plan.PlanRow.{PlanRow}
use Rattle.ak_action.specs.declared.template.Given.TheVariants as given
use Rattle.ak_action.specs.declared.template.Template.{Template}
use Rattle.ak_action.specs.Values.{one_value}
use Rattle.ak_roster.specs.declared.head.Mode.TheVariants as mode
use Rattle.ak_describe.specs.declared.described.AppText.{AppText}
use Rattle.ak_script.specs.Limits.{session_limit, statement_limit}
use Rattle.ak_script.specs.Script.{ScriptData}
use Rattle.ak_script.specs.Statement.{LaunchData, HeyData, hey_line, SessionData, TogetherData, StatementData, launch_statement, hey_statement, together_statement, lines_in}

-- the greatest number that a script is made of
abbrev pub generated_limit : ℕ
generated_limit = 500

-- what each number from 1 to this one gives, in order
abbrev pub up_to : {A : Type 0} → ℕ → (ℕ → A) → List A
up_to zero f = []
up_to (suc n) f = up_to n f ++ f (suc n) ∷ []

-- the code of these letters
abbrev pub letters : List ℕ → Code
letters code = coded (code_of code)

-- ---- the application
-- `looper NAME capacity N`: with no more than that
abbrev pub bare_row : List ℕ → PlanRow
bare_row name =
    record { name = name; next = None; suites = []; table = []; elements = []; filters = []; reactions = [] }

abbrev pub looper : ℕ → PlanRow → PlanParts
looper capacity row =
    record { name = row.name; capacity = capacity; quit_refused = false; preferred = None; common = []; rows = row ∷ [] }

abbrev pub zero_value : ValueData
zero_value = int32_value (pos 0)

-- `property Count LONG`
abbrev pub count_row : PropertyRow
count_row = record { name = codes "Count"; kind = k.Int32; commands = []; forms = []; usage = [] }

-- `element LONG:0`
abbrev pub count_elements : ElementsData
count_elements = described k.Int32 (([], zero_value) ∷ [])

-- `'RPLY' error=LONG:0`
abbrev pub no_error : Template
no_error =
    record { what = letters (codes "RPLY"); fields = (record { name = codes "error"; given = given.Values (one_value zero_value) }) ∷ [] }

-- `on 'incr'`, `add Count LONG:1`, `reply 'RPLY' error=LONG:0`
abbrev pub counts_up : Reaction
counts_up =
    record { what = letters (codes "incr"); actions = action.Add (codes "Count") (number.Int32 (pos 1)) ∷ action.Reply no_error ∷ [] }

abbrev pub counting_row : List ℕ → PlanRow
counting_row name =
    record (bare_row name) { table = count_row ∷ []; elements = count_elements ∷ []; reactions = counts_up ∷ [] }

-- its own looper, and three that count
abbrev pub loopers : List PlanParts
loopers =
    looper 2 (bare_row (codes "work"))
    ∷ looper 100 (counting_row (codes "w1"))
    ∷ looper 100 (counting_row (codes "w2"))
    ∷ looper 100 (counting_row (codes "w3"))
    ∷ []

-- `app /gen/work application/x-vnd.gen multiple`
abbrev pub app : AppText
app = record { path = codes "/gen/work"; signature = codes "application/x-vnd.gen"; mode = mode.Multiple; loopers = loopers }

-- ---- statements
-- `launch /gen/work`
abbrev pub launch : LaunchData
launch = record { word = word.Path (codes "/gen/work"); arguments = None }

-- a message of this code without fields
abbrev pub bare_message : List ℕ → MessageData
bare_message code = record { what = code_of code; fields = []; popped = 0 }

-- `of PROPERTY`, or of one of its elements
abbrev pub of_property : MessageData → List ℕ → At → MessageData
of_property m property at = with_specifier m (record { property = property; at = at })

-- `hey work`, and the message that is sent to the looper at that place
abbrev pub hey_looper : MessageData → ℕ → HeyData
hey_looper m place = record { app = word.Name (codes "work"); message = of_property m (codes "Looper") (at.Index (pos place)) }

-- `hey work 'incr' of Looper [PLACE]`
abbrev pub incr : ℕ → HeyData
incr place = hey_looper (bare_message (codes "incr")) place

-- `hey work get Count of Looper [PLACE]`
abbrev pub get_count : ℕ → HeyData
get_count place = hey_looper (of_property (bare_message (codes "PGET")) (codes "Count") at.Direct) place

-- the place of the looper that counts in statement i of session s
abbrev pub place_in : ℕ → ℕ → ℕ
place_in s i = 1 + (s + i) % 3

-- session s, of that many statements
abbrev pub session : ℕ → ℕ → SessionData
session n s = record { lines = up_to n (λ (i : ℕ). hey_line (incr (place_in s i))) }

-- four sessions
abbrev pub block : ℕ → TogetherData
block n = record { sessions = up_to 4 (session n) }

abbrev pub statements : ℕ → List StatementData
statements n =
    launch_statement launch ∷ together_statement (block n) ∷ up_to 3 (λ (place : ℕ). hey_statement (get_count place))

abbrev pub generated : ℕ → ScriptData
generated n = record { apps = app ∷ []; statements = statements n }

-- ---- how many there are
pub record CountsOf (n : ℕ) : Type 0 where
  -- four sessions, each of that many lines, within the limit of sessions
  pub sessions : length (block n).sessions ≡ 4
  pub few_sessions : length (block n).sessions ≤ session_limit
  pub session_lines : All (λ (s : SessionData). length s.lines ≡ n) (block n).sessions
  -- those of the sessions, the launch, and one question to each of the three, within the limit of lines
  pub lines : lines_in (generated n).statements ≡ 4 * n + 4
  pub few_lines : n ≤ generated_limit → lines_in (generated n).statements ≤ statement_limit
  -- one application, of four loopers
  pub apps : length (generated n).apps ≡ 1
  pub loopers : length app.loopers ≡ 4

abbrev pub GeneratedCounts : Type 0
GeneratedCounts = (n : ℕ) → CountsOf n
