-- What an answer makes of a reaction that waits for it.
use Rattle.std.proofs.Common.{◌≢◌, ℕ, ◌+◌, List, [], ◌∷◌, ◌++◌, Option}
use Rattle.ak_base.specs.declared.error.KitError.{KitError}
use Rattle.ak_base.specs.declared.error.KitError.TheVariants as error
use Rattle.ak_message.specs.Message.{MessageData}
use Rattle.ak_action.specs.declared.answer.Answer.{Answer}
use Rattle.ak_action.specs.declared.answer.Answer.TheVariants as answer
use Rattle.ak_action.specs.declared.answer.AnswerWord.TheVariants as word
use Rattle.ak_action.specs.declared.doing.Sending.{Sending}
use Rattle.ak_action.specs.declared.doing.Sending.TheVariants as sending
use Rattle.ak_action.specs.declared.interp.Stage.TheVariants as stage
use Rattle.ak_action.specs.declared.state.DeskState.{DeskState}
use Rattle.ak_action.specs.Acts.{taken_in}
use Rattle.ak_action.specs.Interp.{InterpData, hear_of_send, hear_of_team, out_of_memory, past, with_stage, with_word}

module _ (P : InterpData → DeskState → Type 0) (i : InterpData) (s : DeskState) (spent : P (out_of_memory i) s) where
  -- a team is found, or there is none
  pub heard_of_team : (how : Sending) (m : MessageData) → ((team first : ℕ) → P (with_stage (stage.Found first how m) (with_word (word.Team team) i)) s) → P (past error.NoTeam (with_word word.NoTeam i)) s
      → (a : Answer) → P (hear_of_team how m i a) s
  heard_of_team how m found none (answer.Team team first) = found team first
  heard_of_team how m found none answer.NoMemory = spent
  heard_of_team how m found none _ = none

  -- who asked has a reply, or it goes on with an error
  pub heard_of_send : (how : Sending) → ((e : KitError) → e ≢ error.NoMemory → P (past e i) s)
      → ((into : Option ℕ) (flat : List ℕ) (message : MessageData) → P (record i { words = i.words ++ word.Reply flat ∷ []; place = i.place + 1; stage = stage.Ready }) (taken_in s i.token into message))
      → (a : Answer) → P (hear_of_send how i s a).interp (hear_of_send how i s a).state
  heard_of_send how on replied (answer.Team team first) = on error.Ok (λ e. absurd cc)
  heard_of_send how on replied answer.NoTeam = on error.NoTeam (λ e. absurd cc)
  heard_of_send how on replied (answer.Written at) = on error.Ok (λ e. absurd cc)
  heard_of_send how on replied answer.Full = on error.WouldBlock (λ e. absurd cc)
  heard_of_send how on replied answer.Closed = on error.BadPortId (λ e. absurd cc)
  heard_of_send how on replied answer.Spent = on error.Spent (λ e. absurd cc)
  heard_of_send how on replied answer.TooLong = on error.TooLong (λ e. absurd cc)
  heard_of_send (sending.Post back) on replied (answer.Reply flat message) = on error.Ok (λ e. absurd cc)
  heard_of_send (sending.Ask into) on replied (answer.Reply flat message) = replied into flat message
  heard_of_send how on replied answer.NoMemory = spent
