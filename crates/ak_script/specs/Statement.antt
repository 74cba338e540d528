-- What a statement says.
use Rattle.std.specs.Prelude.{ℕ, ◌+◌, Bool, List, [], ◌∷◌, length, Option}
use Rattle.ak_base.specs.declared.app_word.AppWord.{AppWord}
use Rattle.ak_desk.specs.declared.entry.Edit.{Edit}
use Rattle.ak_message.specs.Message.{MessageData}
use Rattle.ak_message.specs.declared.address.Target.{Target}

-- which application is launched, and what its own looper is told of its arguments
pub record LaunchData : Type 0 where
  pub word : AppWord
  pub arguments : Option MessageData

-- which application is asked, and what
pub record HeyData : Type 0 where
  pub app : AppWord
  pub message : MessageData

-- to which looper of which application a message is posted, for whom, and how
pub record PostData : Type 0 where
  pub app : AppWord
  pub looper : ℕ
  pub target : Target
  pub dropped : Bool
  pub waits : Bool
  pub message : MessageData

-- which looper of which application is edited, and how
pub record LockData : Type 0 where
  pub app : AppWord
  pub looper : ℕ
  pub edit : Edit

-- one line of a session
pub data SessionLineData : Type 0 where
  hey_line : HeyData → SessionLineData
  post_line : PostData → SessionLineData
  lock_line : LockData → SessionLineData

-- what one session carries out, in order
pub record SessionData : Type 0 where
  pub lines : List SessionLineData

-- sessions that run side by side
pub record TogetherData : Type 0 where
  pub sessions : List SessionData

pub data StatementData : Type 0 where
  launch_statement : LaunchData → StatementData
  hey_statement : HeyData → StatementData
  post_statement : PostData → StatementData
  lock_statement : LockData → StatementData
  together_statement : TogetherData → StatementData

-- ---- how many lines say them
abbrev pub lines_of_sessions : List SessionData → ℕ
lines_of_sessions [] = 0
lines_of_sessions (s ∷ sessions) = length s.lines + lines_of_sessions sessions

abbrev pub lines_of : StatementData → ℕ
lines_of (launch_statement s) = 1
lines_of (hey_statement s) = 1
lines_of (post_statement s) = 1
lines_of (lock_statement s) = 1
lines_of (together_statement s) = lines_of_sessions s.sessions

abbrev pub lines_in : List StatementData → ℕ
lines_in [] = 0
lines_in (s ∷ statements) = lines_of s + lines_in statements
