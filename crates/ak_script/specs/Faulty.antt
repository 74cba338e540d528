-- What is wrong with the words of a line: the first one begins no line that may stand there; or those behind it are of no form of
-- that, or pass a limit; or a hey line goes wrong at a word, or ends too early.
use Rattle.std.specs.Prelude.{◌≡◌, ◌≢◌, ◌↔◌, ◌⊎◌, ℕ, ◌<◌, List, [], ◌∷◌, ◌++◌, length, codes, Err}
use Rattle.std.specs.List.{All}
use Rattle.ak_base.specs.declared.app_word.AppWord.{AppWord}
use Rattle.ak_base.specs.declared.ending.RefusalKind.{RefusalKind}
use Rattle.ak_base.specs.declared.ending.RefusalKind.TheVariants as refusal
use Rattle.ak_base.specs.declared.limited.Limited.{Limited}
use Rattle.ak_base.specs.declared.limited.Limited.TheVariants.{Within, Over}
use Rattle.ak_input.specs.declared.line.Word.{Word}
use Rattle.ak_message.specs.Message.{MessageData}
use Rattle.ak_input.specs.Said.{WritesMessage, WritesText}
use Rattle.ak_flatten.specs.Limits.{flat_limit}
use Rattle.ak_flatten.specs.Spelling.{spelling}
use Rattle.ak_describe.specs.Grammar.{SaysAppWord}
use Rattle.ak_describe.specs.Words.{texts}
use Rattle.ak_hey.specs.Grammar.{IsHey}
use Rattle.ak_hey.specs.Hey.{end_of}
use Rattle.ak_hey.specs.Laws.{IsFirstBad, EndsEarly}
use Rattle.ak_script.specs.Forms.{Way, session_line_of, statement_of}
use Rattle.ak_script.specs.Says.{SaysLaunched, SayArguments, SayPlace, SayTarget, SayFlag, SaysLaunch, SaysPost, SaysLock}
use Rattle.ak_script.specs.Statement.{LaunchData, HeyData, PostData, LockData}

-- ---- of a form, but past a limit
-- a text in quotes, of any length
abbrev pub IsQuoted : List ℕ → Type 0
IsQuoted word = (text : Limited (List ℕ)) × WritesText word text

-- `args` and one text or more, which are no arguments within the limits: a text has over 1,024 bytes, or there are over 255, or the message
-- that tells of them has over 4,096 bytes of flat text
pub record ArgumentsPass (words : List (List ℕ)) : Type 0 where
  pub quoted : List (List ℕ)
  pub parts : words ≡ codes "args" ∷ quoted
  pub some : quoted ≢ []
  pub texts_are : All IsQuoted quoted
  pub pass : (m : MessageData) → SayArguments words m → ⊥

-- `WORD args TEXT ..`
pub record LaunchPasses (words : List (List ℕ)) : Type 0 where
  pub named : List ℕ
  pub rest : List (List ℕ)
  pub parts : words ≡ named ∷ rest
  pub word : AppWord
  pub word_is : SaysLaunched named word
  pub pass : ArgumentsPass rest

-- a message passes a limit, or its flat text has over 4,096 bytes
abbrev pub MessagePasses : Limited MessageData → Type 0
MessagePasses Over = Unit {0}
MessagePasses (Within m) = flat_limit < length (spelling m)

-- `APP [looper N] [token N] [dropped] [wait] MESSAGE`
pub record PostPasses (words : List (List ℕ)) : Type 0 where
  pub named : List ℕ
  pub place : List (List ℕ)
  pub for_whom : List (List ℕ)
  pub drops : List (List ℕ)
  pub waits : List (List ℕ)
  pub message : List (List ℕ)
  pub parts : words ≡ named ∷ (place ++ (for_whom ++ (drops ++ (waits ++ message))))
  pub word : AppWord
  pub way : Way
  pub app_is : SaysAppWord named word
  pub place_is : SayPlace place way.looper
  pub target_is : SayTarget for_whom way.target
  pub dropped_is : SayFlag (codes "dropped") drops way.dropped
  pub waits_is : SayFlag (codes "wait") waits way.waits
  pub read : Limited MessageData
  pub message_is : WritesMessage message read
  pub pass : MessagePasses read

-- ---- the first word
pub data Key : Type 0 where
  kit_key : Key
  script_key : Key
  launch_key : Key
  hey_key : Key
  post_key : Key
  lock_key : Key
  together_key : Key
  session_key : Key
  end_key : Key

abbrev pub word_of : Key → List ℕ
word_of kit_key = codes "kit"
word_of script_key = codes "script"
word_of launch_key = codes "launch"
word_of hey_key = codes "hey"
word_of post_key = codes "post"
word_of lock_key = codes "lock"
word_of together_key = codes "together"
word_of session_key = codes "session"
word_of end_key = codes "end"

-- what begins a statement of one line
abbrev pub IsStatementKey : Key → Type 0
IsStatementKey launch_key = Unit {0}
IsStatementKey hey_key = Unit {0}
IsStatementKey post_key = Unit {0}
IsStatementKey lock_key = Unit {0}
IsStatementKey kit_key = ⊥
IsStatementKey script_key = ⊥
IsStatementKey together_key = ⊥
IsStatementKey session_key = ⊥
IsStatementKey end_key = ⊥

-- what begins a line of a session
abbrev pub IsSessionKey : Key → Type 0
IsSessionKey hey_key = Unit {0}
IsSessionKey post_key = Unit {0}
IsSessionKey lock_key = Unit {0}
IsSessionKey launch_key = ⊥
IsSessionKey kit_key = ⊥
IsSessionKey script_key = ⊥
IsSessionKey together_key = ⊥
IsSessionKey session_key = ⊥
IsSessionKey end_key = ⊥

-- ---- the further words
-- they are of the form of the first one, within the limits of a line
abbrev pub AreOfForm : Key → List (List ℕ) → Type 0
AreOfForm kit_key words = words ≡ codes "1" ∷ []
AreOfForm script_key words = words ≡ []
AreOfForm launch_key words = (s : LaunchData) × SaysLaunch words s
AreOfForm hey_key words = (s : HeyData) × IsHey (codes "hey" ∷ words) s.app (Within s.message)
AreOfForm post_key words = (s : PostData) × SaysPost words s
AreOfForm lock_key words = (s : LockData) × SaysLock words s
AreOfForm together_key words = words ≡ []
AreOfForm session_key words = words ≡ []
AreOfForm end_key words = words ≡ []

-- they are of it, and pass a limit
abbrev pub PassLimit : Key → List (List ℕ) → Type 0
PassLimit launch_key words = LaunchPasses words
PassLimit hey_key words = (app : AppWord) × IsHey (codes "hey" ∷ words) app Over
PassLimit post_key words = PostPasses words
PassLimit lock_key words = ⊥
PassLimit kit_key words = ⊥
PassLimit script_key words = ⊥
PassLimit together_key words = ⊥
PassLimit session_key words = ⊥
PassLimit end_key words = ⊥

-- ---- faults, where these lines may stand
-- the first word begins one of them, and these are behind it
pub record Opens (may : Key → Type 0) (words : List (List ℕ)) (key : Key) (rest : List (List ℕ)) : Type 0 where
  pub all : words ≡ word_of key ∷ rest
  pub stands : may key

abbrev pub IsUnknown : (Key → Type 0) → List (List ℕ) → Type 0
IsUnknown may words = (key : Key) (rest : List (List ℕ)) → Opens may words key rest → ⊥

-- of no form; of a hey line that is told by its column
pub record IsBad (may : Key → Type 0) (words : List (List ℕ)) : Type 0 where
  pub key : Key
  pub rest : List (List ℕ)
  pub opens : Opens may words key rest
  pub no_hey : key ≢ hey_key
  pub no_form : ¬ (AreOfForm key rest)
  pub no_limit : ¬ (PassLimit key rest)

-- at the first word with which no hey line goes on, or behind the last one
pub record IsBadHey (may : Key → Type 0) (words : List Word) (column : ℕ) : Type 0 where
  pub rest : List (List ℕ)
  pub opens : Opens may (texts words) hey_key rest
  pub at : IsFirstBad words column ⊎ EndsEarly (end_of words) words column

pub record IsOver (may : Key → Type 0) (words : List (List ℕ)) : Type 0 where
  pub key : Key
  pub rest : List (List ℕ)
  pub opens : Opens may words key rest
  pub pass : PassLimit key rest

abbrev pub HasFault : (Key → Type 0) → List Word → RefusalKind → Type 0
HasFault may words refusal.UnknownLine = IsUnknown may (texts words)
HasFault may words (refusal.BadHey column) = IsBadHey may words column
HasFault may words refusal.BadValue = IsBad may (texts words)
HasFault may words refusal.Limit = IsOver may (texts words)
HasFault may words refusal.InputTooLong = ⊥
HasFault may words refusal.NotUtf8 = ⊥
HasFault may words refusal.BadWord = ⊥
HasFault may words refusal.NameInUse = ⊥
HasFault may words refusal.Unfinished = ⊥
HasFault may words refusal.UnknownName = ⊥
HasFault may words refusal.ChainLoop = ⊥
HasFault may words refusal.AskOrder = ⊥

-- exactly what is wrong with the words of a statement is told of them, and so it is in sessions
abbrev pub StatementFaultsAreTold : Type 0
StatementFaultsAreTold = (words : List Word) (kind : RefusalKind) → (statement_of words ≡ Err kind) ↔ HasFault IsStatementKey words kind

abbrev pub SessionFaultsAreTold : Type 0
SessionFaultsAreTold = (words : List Word) (kind : RefusalKind) → (session_line_of words ≡ Err kind) ↔ HasFault IsSessionKey words kind

-- ---- hey lines
-- where a line has a first word with which no hey line goes on, or ends too early, that is told, and so it is in sessions
abbrev pub FirstBadIsTold : Type 0
FirstBadIsTold =
    (words : List Word) (rest : List (List ℕ)) (column : ℕ) → texts words ≡ codes "hey" ∷ rest → IsFirstBad words column ⊎ EndsEarly (end_of words) words column
    → (statement_of words ≡ Err (refusal.BadHey column)) × (session_line_of words ≡ Err (refusal.BadHey column))

-- exactly where a line that begins with `hey` is a hey line whose message passes a limit, that is told, and so it is in sessions
abbrev pub LongHeysAreLimits : Type 0
LongHeysAreLimits =
    (words : List Word) (rest : List (List ℕ)) → texts words ≡ codes "hey" ∷ rest
    → ((statement_of words ≡ Err refusal.Limit) ↔ ((app : AppWord) × IsHey (texts words) app Over))
    × ((session_line_of words ≡ Err refusal.Limit) ↔ ((app : AppWord) × IsHey (texts words) app Over))
