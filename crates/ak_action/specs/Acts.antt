-- What the actions of a reaction come to, given all answers from outside at once.
use Rattle.std.specs.Prelude.{ℕ, ◌+◌, ◌==◌, Bool, true, false, if◌then◌else◌, is_some, List, [], ◌∷◌, ◌++◌, Option, None, Some}
use Rattle.ak_base.specs.declared.error.KitError.{KitError}
use Rattle.ak_base.specs.declared.error.KitError.TheVariants as error
use Rattle.ak_message.specs.declared.address.Address.{Address}
use Rattle.ak_message.specs.Message.{ValueData, MessageData}
use Rattle.ak_action.specs.declared.action.Action.{Action}
use Rattle.ak_action.specs.declared.answer.Answer.{Answer}
use Rattle.ak_action.specs.declared.answer.Answer.TheVariants as answer
use Rattle.ak_action.specs.declared.answer.AnswerWord.{AnswerWord}
use Rattle.ak_action.specs.declared.answer.AnswerWord.TheVariants as word
use Rattle.ak_action.specs.declared.answer.Want.{Want}
use Rattle.ak_action.specs.declared.answer.Want.TheVariants as want
use Rattle.ak_action.specs.declared.doing.Sending.{Sending}
use Rattle.ak_action.specs.declared.doing.Sending.TheVariants as sending
use Rattle.ak_action.specs.declared.state.DeskState.{DeskState}
use Rattle.ak_action.specs.Doing.{Doing, says, replies, puts, sends, finds, stops, quits, doing_of, row_of, with_row, preferred_of}
use Rattle.ak_action.specs.Properties.{with_first_at, with_result_at}

-- how it goes on: with the next action, with none, or not before there is an answer
pub data Course : Type 0 where
  goes_on : Course
  ended : Course
  waits : Course

pub record Acts : Type 0 where
  pub state : DeskState
  -- what was asked for outside
  pub wants : List Want
  -- what the journal says of each action
  pub words : List AnswerWord
  pub reply : Option MessageData
  pub quit : Bool
  pub course : Course
  -- the answers that are not used yet
  pub answers : List Answer

-- ---- what is said of an action
abbrev pub with_word : AnswerWord → Acts → Acts
with_word w p = record p { words = p.words ++ w ∷ [] }

abbrev pub with_error : KitError → Acts → Acts
with_error e p = with_word (word.Error e) p

abbrev pub with_course : Course → Acts → Acts
with_course c p = record p { course = c }

abbrev pub out_of_memory : Acts → Acts
out_of_memory p = with_course ended (with_error error.NoMemory p)

-- ---- what is asked for, and answered
abbrev pub heard : (Answer → Acts → Acts) → List Answer → Acts → Acts
heard go_on [] p = with_course waits p
heard go_on (answer.NoMemory ∷ rest) p = out_of_memory (record p { answers = rest })
heard go_on (a ∷ rest) p = go_on a (record p { answers = rest })

abbrev pub asks : Want → (Answer → Acts → Acts) → Acts → Acts
asks w go_on p = heard go_on p.answers (record p { wants = p.wants ++ w ∷ [] })

abbrev pub error_of : Answer → KitError
error_of (answer.Team _ _) = error.Ok
error_of answer.NoTeam = error.NoTeam
error_of (answer.Written _) = error.Ok
error_of answer.Full = error.WouldBlock
error_of answer.Closed = error.BadPortId
error_of answer.Spent = error.Spent
error_of answer.TooLong = error.TooLong
error_of (answer.Reply _ _) = error.Ok
error_of answer.NoMemory = error.NoMemory

-- ---- the state
abbrev pub put : DeskState → ℕ → ℕ → ValueData → DeskState
put s token place value = with_row s token (record (row_of s token) { elements = with_first_at (row_of s token).elements place value })

-- the property that an ask names gets the result of its reply
abbrev pub taken_in : DeskState → ℕ → Option ℕ → MessageData → DeskState
taken_in s token None reply = s
taken_in s token (Some place) reply =
    with_row s token (record (row_of s token) { elements = with_result_at (row_of s token).elements place reply })

-- ---- sending
abbrev pub want_of : Address → Sending → MessageData → Want
want_of to (sending.Post back) m = want.Post to m back
want_of to (sending.Ask _) m = want.Ask to m

abbrev pub sent : ℕ → Sending → Answer → Acts → Acts
sent token (sending.Ask into) (answer.Reply flat m) p = with_word (word.Reply flat) (record p { state = taken_in p.state token into m })
sent token how a p = with_error (error_of a) p

abbrev pub found : ℕ → Sending → MessageData → Answer → Acts → Acts
found token how m (answer.Team team first) p = asks (want_of (preferred_of first) how m) (sent token how) (with_word (word.Team team) p)
found token how m _ p = with_error error.NoTeam (with_word word.NoTeam p)

-- ---- each action
abbrev pub carried_out : ℕ → Doing → Acts → Acts
carried_out token (says e) p = with_error e p
carried_out token (replies m) p = with_error error.Ok (record p { reply = Some m })
carried_out token (puts place value) p = with_error error.Ok (record p { state = put p.state token place value })
carried_out token (sends to how m) p = asks (want_of to how m) (sent token how) p
carried_out token (finds w how m) p = asks (want.Find w) (found token how m) p
carried_out token stops p = with_course ended (with_error error.Ok p)
carried_out token quits p = with_error error.Ok (record p { quit = true })

abbrev pub act : ℕ → MessageData → Action → Acts → Acts
act token m a p = carried_out token (doing_of p.state token m (is_some p.reply) a) p

-- the rest, unless it has ended or waits
abbrev pub while_going : (Acts → Acts) → Course → Acts → Acts
while_going on goes_on p = on p
while_going on ended p = p
while_going on waits p = p

abbrev pub then_on : (Acts → Acts) → Acts → Acts
then_on on p = while_going on p.course p

abbrev pub is_at : Option ℕ → ℕ → Bool
is_at None place = false
is_at (Some at) place = at == place

-- the actions from a place on, in order; the one at the place `memory`, if one is named, finds no memory
abbrev pub acts_on : ℕ → MessageData → Option ℕ → ℕ → List Action → Acts → Acts
acts_on token m memory place [] p = p
acts_on token m memory place (a ∷ rest) p =
    if is_at memory place then out_of_memory p
    else then_on (acts_on token m memory (place + 1) rest) (act token m a p)

abbrev pub opened : DeskState → List Answer → Acts
opened s answers = record { state = s; wants = []; words = []; reply = None; quit = false; course = goes_on; answers = answers }

-- the actions of a reaction of the handler with that token, on the message, with these answers; where one is named by its place, it
-- finds no memory
abbrev pub acts : DeskState → ℕ → MessageData → List Action → List Answer → Option ℕ → Acts
acts s token m actions answers memory = acts_on token m memory 0 actions (opened s answers)
