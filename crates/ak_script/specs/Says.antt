-- Which words say a statement: what stands behind the first word, part by part.
use Rattle.std.specs.Prelude.{◌≡◌, ◌≢◌, ◌↔◌, ◌⊎◌, ℕ, ◌≤◌, true, List, [], ◌∷◌, ◌++◌, length, codes, Bool, false, Option, Some, None, Ok, Err}
use Rattle.ak_base.specs.declared.app_word.AppWord.{AppWord}
use Rattle.ak_base.specs.declared.app_word.AppWord.TheVariants as app
use Rattle.ak_base.specs.declared.ending.RefusalKind.TheVariants as refusal
use Rattle.ak_base.specs.declared.limited.Limited.TheVariants.{Within}
use Rattle.ak_base.specs.AppName.{is_path, is_signature}
use Rattle.ak_message.specs.Message.{MessageData}
use Rattle.ak_input.specs.Said.{WritesMessage, WritesText}
use Rattle.ak_input.specs.declared.line.Word.{Word}
use Rattle.ak_message.specs.declared.address.Target.{Target}
use Rattle.ak_message.specs.declared.address.Target.TheVariants as target
use Rattle.ak_message.specs.Limits.{value_limit}
use Rattle.ak_flatten.specs.Limits.{flat_limit}
use Rattle.ak_flatten.specs.Spelling.{spelling}
use Rattle.ak_describe.specs.Grammar.{SaysAppWord}
use Rattle.ak_describe.specs.Words.{texts}
use Rattle.ak_hey.specs.Grammar.{IsHey}
use Rattle.ak_hey.specs.Hey.{end_of}
use Rattle.ak_hey.specs.Laws.{IsFirstBad, EndsEarly}
use Rattle.ak_desk.specs.declared.entry.Edit.{Edit}
use Rattle.ak_desk.specs.declared.entry.Edit.TheVariants as edit
use Rattle.ak_base.specs.Word.{is_word}
use Rattle.ak_input.specs.Written.{WritesNumber}
use Rattle.ak_script.specs.Forms.{most_looper, most_token, or_zero, session_line_of, statement_of}
use Rattle.ak_script.specs.Messages.{arguments_of}
use Rattle.ak_script.specs.Statement.{LaunchData, PostData, LockData, SessionLineData, hey_line, post_line, lock_line, StatementData, launch_statement, hey_statement, post_statement, lock_statement, together_statement}

-- what is launched is named by a path or a signature
abbrev pub SaysLaunched : List ℕ → AppWord → Type 0
SaysLaunched word (app.Path path) = (word ≡ path) × (is_path word ≡ true)
SaysLaunched word (app.Signature signature) = (word ≡ signature) × (is_signature word ≡ true)
SaysLaunched word (app.Name name) = ⊥
SaysLaunched word (app.Team team) = ⊥

-- each word is a text in quotes, of at most 1,024 bytes
abbrev pub SayTexts : List (List ℕ) → List (List ℕ) → Type 0
SayTexts [] [] = Unit {0}
SayTexts (word ∷ words) (text ∷ texts) = WritesText word (Within text) × SayTexts words texts
SayTexts [] (text ∷ texts) = ⊥
SayTexts (word ∷ words) [] = ⊥

-- `args` and one text or more, at most 255, whose message has at most 4,096 bytes of flat text
pub record SayArguments (words : List (List ℕ)) (m : MessageData) : Type 0 where
  pub quoted : List (List ℕ)
  pub arguments : List (List ℕ)
  pub parts : words ≡ codes "args" ∷ quoted
  pub some : quoted ≢ []
  pub texts_are : SayTexts quoted arguments
  pub few : length arguments ≤ value_limit
  pub message_is : m ≡ arguments_of arguments
  pub short : length (spelling m) ≤ flat_limit

abbrev pub SayWhatIsTold : List (List ℕ) → Option MessageData → Type 0
SayWhatIsTold words None = words ≡ []
SayWhatIsTold words (Some m) = SayArguments words m

-- `WORD [args TEXT ..]`
pub record SaysLaunch (words : List (List ℕ)) (s : LaunchData) : Type 0 where
  pub named : List ℕ
  pub rest : List (List ℕ)
  pub parts : words ≡ named ∷ rest
  pub word_is : SaysLaunched named s.word
  pub told : SayWhatIsTold rest s.arguments

-- ---- parts that may be left out
-- a key and a number up to this one, or nothing
abbrev pub SayNumber : List ℕ → ℕ → List (List ℕ) → Option ℕ → Type 0
SayNumber key most words None = words ≡ []
SayNumber key most words (Some n) = (word : List ℕ) × (words ≡ key ∷ word ∷ []) × WritesNumber 0 most word n

-- the place of a looper, which is 0 where none is given
abbrev pub SayPlace : List (List ℕ) → ℕ → Type 0
SayPlace words place = (given : Option ℕ) × SayNumber (codes "looper") most_looper words given × (or_zero given ≡ place)

-- a key, or nothing
abbrev pub SayFlag : List ℕ → List (List ℕ) → Bool → Type 0
SayFlag key words true = words ≡ key ∷ []
SayFlag key words false = words ≡ []

-- ---- `post`
-- the token of a handler, or the preferred one where none is given
abbrev pub SayTarget : List (List ℕ) → Target → Type 0
SayTarget words target.Preferred = SayNumber (codes "token") most_token words None
SayTarget words (target.Token token) = SayNumber (codes "token") most_token words (Some token)

-- `APP [looper N] [token N] [dropped] [wait] MESSAGE`, whose message has at most 4,096 bytes of flat text
pub record SaysPost (words : List (List ℕ)) (s : PostData) : Type 0 where
  pub named : List ℕ
  pub place : List (List ℕ)
  pub for_whom : List (List ℕ)
  pub drops : List (List ℕ)
  pub waits : List (List ℕ)
  pub message : List (List ℕ)
  pub parts : words ≡ named ∷ (place ++ (for_whom ++ (drops ++ (waits ++ message))))
  pub app_is : SaysAppWord named s.app
  pub place_is : SayPlace place s.looper
  pub target_is : SayTarget for_whom s.target
  pub dropped_is : SayFlag (codes "dropped") drops s.dropped
  pub waits_is : SayFlag (codes "wait") waits s.waits
  pub message_is : WritesMessage message (Within s.message)
  pub short : length (spelling s.message) ≤ flat_limit

-- ---- `lock`
abbrev pub SaysToken : List ℕ → ℕ → Type 0
SaysToken word token = WritesNumber 0 most_token word token

-- a token, or `none`
abbrev pub SaysTokenOrNone : List ℕ → Option ℕ → Type 0
SaysTokenOrNone word None = word ≡ codes "none"
SaysTokenOrNone word (Some token) = (word ≢ codes "none") × SaysToken word token

-- `add W`, `remove N`, `next N N`, `next N none`, `prefer N` or `prefer none`
abbrev pub SaysEdit : List (List ℕ) → Edit → Type 0
SaysEdit words (edit.Add name) = (words ≡ codes "add" ∷ name ∷ []) × (is_word name ≡ true)
SaysEdit words (edit.Remove token) = (word : List ℕ) × (words ≡ codes "remove" ∷ word ∷ []) × SaysToken word token
SaysEdit words (edit.Next token next) =
    (word : List ℕ) × (last : List ℕ) × (words ≡ codes "next" ∷ word ∷ last ∷ []) × SaysToken word token × SaysTokenOrNone last next
SaysEdit words (edit.Prefer token) = (word : List ℕ) × (words ≡ codes "prefer" ∷ word ∷ []) × SaysTokenOrNone word token

-- `APP [looper N] EDIT`
pub record SaysLock (words : List (List ℕ)) (s : LockData) : Type 0 where
  pub named : List ℕ
  pub place : List (List ℕ)
  pub change : List (List ℕ)
  pub parts : words ≡ named ∷ (place ++ change)
  pub app_is : SaysAppWord named s.app
  pub place_is : SayPlace place s.looper
  pub edit_is : SaysEdit change s.edit

-- ---- all of them
-- behind a first word
abbrev pub Behind : List ℕ → List (List ℕ) → (List (List ℕ) → Type 0) → Type 0
Behind key words says = (rest : List (List ℕ)) × (words ≡ key ∷ rest) × says rest

-- these words, of which the first one says what it is, are the statement; no one line says a block
abbrev pub SaysStatement : List (List ℕ) → StatementData → Type 0
SaysStatement words (launch_statement s) = Behind (codes "launch") words (λ (rest : List (List ℕ)). SaysLaunch rest s)
SaysStatement words (hey_statement s) = IsHey words s.app (Within s.message)
SaysStatement words (post_statement s) = Behind (codes "post") words (λ (rest : List (List ℕ)). SaysPost rest s)
SaysStatement words (lock_statement s) = Behind (codes "lock") words (λ (rest : List (List ℕ)). SaysLock rest s)
SaysStatement words (together_statement s) = ⊥

-- these words are the line of a session
abbrev pub SaysSessionLine : List (List ℕ) → SessionLineData → Type 0
SaysSessionLine words (hey_line s) = IsHey words s.app (Within s.message)
SaysSessionLine words (post_line s) = Behind (codes "post") words (λ (rest : List (List ℕ)). SaysPost rest s)
SaysSessionLine words (lock_line s) = Behind (codes "lock") words (λ (rest : List (List ℕ)). SaysLock rest s)

-- exactly the words that say a statement are read as it, and so it is in sessions
abbrev pub StatementsAreRead : Type 0
StatementsAreRead = (words : List Word) (s : StatementData) → (statement_of words ≡ Ok s) ↔ SaysStatement (texts words) s

abbrev pub SessionLinesAreRead : Type 0
SessionLinesAreRead = (words : List Word) (s : SessionLineData) → (session_line_of words ≡ Ok s) ↔ SaysSessionLine (texts words) s

-- a line that begins with `hey` and is no hey line is told at the first word with which none goes on, or behind the last one where it
-- ends too early, and so it is in sessions
abbrev pub BadHeysAreTold : Type 0
BadHeysAreTold =
    (words : List Word) (rest : List (List ℕ)) (column : ℕ) → texts words ≡ codes "hey" ∷ rest → statement_of words ≡ Err (refusal.BadHey column)
    → IsFirstBad words column ⊎ EndsEarly (end_of words) words column

abbrev pub BadHeysInSessionsAreTold : Type 0
BadHeysInSessionsAreTold =
    (words : List Word) (rest : List (List ℕ)) (column : ℕ) → texts words ≡ codes "hey" ∷ rest → session_line_of words ≡ Err (refusal.BadHey column)
    → IsFirstBad words column ⊎ EndsEarly (end_of words) words column
