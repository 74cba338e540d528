-- One reaction carried out action by action: what it wants next, and what an answer makes of it.
use Rattle.std.specs.Prelude.{◌≡◌, ℕ, ◌+◌, Bool, true, false, if◌then◌else◌, is_some, List, [], ◌∷◌, ◌++◌, drop, Option, None, Some, slice_get}
use Rattle.ak_base.specs.declared.error.KitError.{KitError}
use Rattle.ak_base.specs.declared.error.KitError.TheVariants as error
use Rattle.ak_flatten.specs.Laws.{Spells}
use Rattle.ak_message.specs.Popped.{unpopped}
use Rattle.ak_message.specs.Message.{MessageData}
use Rattle.ak_action.specs.declared.action.Action.{Action}
use Rattle.ak_action.specs.declared.action.Action.TheVariants as action
use Rattle.ak_action.specs.declared.action.Reaction.{Reaction}
use Rattle.ak_action.specs.declared.answer.Answer.{Answer}
use Rattle.ak_action.specs.declared.answer.Answer.TheVariants as answer
use Rattle.ak_action.specs.declared.answer.AnswerWord.{AnswerWord}
use Rattle.ak_action.specs.declared.answer.AnswerWord.TheVariants as word
use Rattle.ak_action.specs.declared.answer.Want.{Want}
use Rattle.ak_action.specs.declared.answer.Want.TheVariants as want
use Rattle.ak_action.specs.declared.doing.Sending.{Sending}
use Rattle.ak_action.specs.declared.doing.Sending.TheVariants as sending
use Rattle.ak_action.specs.declared.interp.Stage.{Stage}
use Rattle.ak_action.specs.declared.interp.Stage.TheVariants as stage
use Rattle.ak_action.specs.declared.state.DeskState.{DeskState}
use Rattle.ak_action.specs.Acts.{error_of, is_at, put, taken_in, want_of}
use Rattle.ak_action.specs.Doing.{Doing, says, replies, puts, sends, finds, stops, quits, doing_of, row_of, preferred_of}

pub record InterpData : Type 0 where
  pub message : MessageData
  pub token : ℕ
  pub reaction : ℕ
  -- of the action that is next, or that waits for its answer
  pub place : ℕ
  pub stage : Stage
  pub words : List AnswerWord
  pub reply : Option MessageData
  pub quit : Bool

abbrev pub started : MessageData → ℕ → ℕ → InterpData
started m token reaction =
    record { message = m; token = token; reaction = reaction; place = 0; stage = stage.Ready; words = []; reply = None; quit = false }

-- ---- what is asked of a caller
-- no want is without its answer
abbrev pub MayGoOnFrom : Stage → Type 0
MayGoOnFrom stage.Ready = Unit {0}
MayGoOnFrom (stage.Finding _ _) = ⊥
MayGoOnFrom (stage.Found _ _ _) = Unit {0}
MayGoOnFrom (stage.Sent _) = ⊥
MayGoOnFrom stage.Ended = Unit {0}

abbrev pub MayGoOn : InterpData → Type 0
MayGoOn i = MayGoOnFrom i.stage

abbrev pub AnswersFind : Answer → Type 0
AnswersFind (answer.Team _ _) = Unit {0}
AnswersFind answer.NoTeam = Unit {0}
AnswersFind answer.NoMemory = Unit {0}
AnswersFind _ = ⊥

abbrev pub AnswersSend : Sending → Answer → Type 0
AnswersSend how (answer.Team _ _) = ⊥
AnswersSend how answer.NoTeam = ⊥
AnswersSend (sending.Post _) (answer.Written _) = Unit {0}
AnswersSend (sending.Ask _) (answer.Written _) = ⊥
AnswersSend (sending.Post _) answer.Full = Unit {0}
AnswersSend (sending.Ask _) answer.Full = ⊥
AnswersSend how answer.Closed = Unit {0}
AnswersSend how answer.Spent = Unit {0}
AnswersSend how answer.TooLong = Unit {0}
AnswersSend (sending.Post _) (answer.Reply _ _) = ⊥
-- the flat text spells the message
AnswersSend (sending.Ask _) (answer.Reply flat m) = Spells flat m
AnswersSend how answer.NoMemory = Unit {0}

-- the answer is one to the last want
abbrev pub AnswersStage : Stage → Answer → Type 0
AnswersStage stage.Ready a = ⊥
AnswersStage (stage.Finding _ _) a = AnswersFind a
AnswersStage (stage.Found _ _ _) a = ⊥
AnswersStage (stage.Sent how) a = AnswersSend how a
AnswersStage stage.Ended a = ⊥

abbrev pub Answers : InterpData → Answer → Type 0
Answers i a = AnswersStage i.stage a

abbrev pub HasEnded : InterpData → Type 0
HasEnded i = i.stage ≡ stage.Ended

-- ---- what is said of an action
abbrev pub with_word : AnswerWord → InterpData → InterpData
with_word w i = record i { words = i.words ++ w ∷ [] }

abbrev pub with_stage : Stage → InterpData → InterpData
with_stage at i = record i { stage = at }

-- the action at the place is done, and the next one is ready
abbrev pub past : KitError → InterpData → InterpData
past e i = record i { words = i.words ++ word.Error e ∷ []; place = i.place + 1; stage = stage.Ready }

abbrev pub out_of_memory : InterpData → InterpData
out_of_memory i = with_stage stage.Ended (with_word (word.Error error.NoMemory) i)

-- ---- what it wants next
pub data Nexted : Type 0 where
  nexted : Want → InterpData → DeskState → Nexted
  -- an action found no memory
  failed : InterpData → DeskState → Nexted

-- after an action: the next one is ready, or this is wanted
pub data Carried : Type 0 where
  goes : InterpData → DeskState → Carried
  wants : Want → InterpData → DeskState → Carried

abbrev pub carried : Doing → InterpData → DeskState → Carried
carried (says e) i s = goes (past e i) s
carried (replies m) i s = goes (past error.Ok (record i { reply = Some m })) s
carried (puts place value) i s = goes (past error.Ok i) (put s i.token place value)
carried (sends to how m) i s = wants (want_of to how m) (with_stage (stage.Sent how) i) s
carried (finds w how m) i s = wants (want.Find w) (with_stage (stage.Finding how m) i) s
carried stops i s = wants want.Done (with_stage stage.Ended (past error.Ok i)) s
carried quits i s = goes (past error.Ok (record i { quit = true })) s

abbrev pub then_go_on : (InterpData → DeskState → Nexted) → Carried → Nexted
then_go_on go_on (goes i s) = go_on i s
then_go_on go_on (wants w i s) = nexted w i s

-- the actions from the place on; the one at the place `memory`, if one is named, finds no memory
abbrev pub go_on : Option ℕ → List Action → InterpData → DeskState → Nexted
go_on memory [] i s = nexted want.Done (with_stage stage.Ended i) s
go_on memory (a ∷ rest) i s =
    if is_at memory i.place then failed (out_of_memory i) s
    else then_go_on (go_on memory rest) (carried (doing_of s i.token i.message (is_some i.reply) a) i s)

abbrev pub reaction_actions : Option Reaction → List Action
reaction_actions None = []
reaction_actions (Some r) = r.actions

-- the actions of that reaction of the handler with that token
abbrev pub actions_of : DeskState → ℕ → ℕ → List Action
actions_of s token reaction = reaction_actions (slice_get (row_of s token).reactions reaction)

abbrev pub next_at : Stage → Option ℕ → InterpData → DeskState → Nexted
next_at (stage.Found looper how m) memory i s = nexted (want_of (preferred_of looper) how m) (with_stage (stage.Sent how) i) s
next_at stage.Ready memory i s = go_on memory (drop i.place (actions_of s i.token i.reaction)) i s
next_at _ memory i s = nexted want.Done (with_stage stage.Ended i) s

abbrev pub next_of : Option ℕ → InterpData → DeskState → Nexted
next_of memory i s = next_at i.stage memory i s

-- ---- where no memory may be found
-- an action that makes or copies something
abbrev pub TakesMemory : Action → Type 0
TakesMemory (action.Reply _) = Unit {0}
TakesMemory (action.Post _ _ _) = Unit {0}
TakesMemory (action.Ask _ _ _) = Unit {0}
TakesMemory (action.Set _ _) = Unit {0}
TakesMemory (action.Add _ _) = ⊥
TakesMemory action.Stop = ⊥
TakesMemory action.Quit = ⊥

-- there is an action, and it is such a one
abbrev pub MayFail : Option Action → Type 0
MayFail None = ⊥
MayFail (Some a) = TakesMemory a

-- ---- what an answer makes of it
pub record Given : Type 0 where
  pub interp : InterpData
  pub state : DeskState

abbrev given : InterpData → DeskState → Given
given i s = record { interp = i; state = s }

abbrev pub hear_of_team : Sending → MessageData → InterpData → Answer → InterpData
hear_of_team how m i (answer.Team team first) = with_stage (stage.Found first how m) (with_word (word.Team team) i)
hear_of_team how m i answer.NoMemory = out_of_memory i
hear_of_team how m i _ = past error.NoTeam (with_word word.NoTeam i)

abbrev pub hear_of_send : Sending → InterpData → DeskState → Answer → Given
hear_of_send how i s answer.NoMemory = given (out_of_memory i) s
hear_of_send (sending.Ask into) i s (answer.Reply flat m) =
    given (record i { words = i.words ++ word.Reply flat ∷ []; place = i.place + 1; stage = stage.Ready }) (taken_in s i.token into m)
hear_of_send how i s a = given (past (error_of a) i) s

abbrev pub give_at : Stage → InterpData → DeskState → Answer → Given
give_at (stage.Finding how m) i s a = given (hear_of_team how m i a) s
give_at (stage.Sent how) i s a = hear_of_send how i s a
give_at _ i s a = given i s

abbrev pub give_of : InterpData → DeskState → Answer → Given
give_of i s a = give_at i.stage i s a
