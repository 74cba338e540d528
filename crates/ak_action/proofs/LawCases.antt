-- What holds of what actions come to, by the cases in which an action ends.
use Rattle.std.proofs.Common.{◌≡◌, ℕ, ◌+◌, Bool, true, false, cond, List, [], ◌∷◌, Option, refl}
use Rattle.ak_base.specs.declared.error.KitError.{KitError}
use Rattle.ak_base.specs.declared.error.KitError.TheVariants as error
use Rattle.ak_message.specs.Message.{MessageData}
use Rattle.ak_action.specs.declared.action.Action.{Action}
use Rattle.ak_action.specs.declared.answer.Answer.{Answer}
use Rattle.ak_action.specs.declared.answer.Answer.TheVariants as answer
use Rattle.ak_action.specs.declared.answer.AnswerWord.TheVariants as word
use Rattle.ak_action.specs.declared.doing.Sending.{Sending}
use Rattle.ak_action.specs.declared.doing.Sending.TheVariants as sending
use Rattle.ak_action.specs.declared.state.DeskState.{DeskState}
use Rattle.ak_action.specs.Acts.{Acts, Course, goes_on, ended, waits, act, acts_on, asks, error_of, found, heard, is_at, out_of_memory, sent, taken_in, then_on, want_of, while_going, with_course, with_error, with_word}
use Rattle.ak_action.specs.Doing.{preferred_of}

module _ (Q : Acts → Type 0) where
  -- there is no answer, one of no memory, or another
  pub heard_by : (hears : Answer → Acts → Acts) (answers : List Answer) (p : Acts) → (answers ≡ [] → Q (with_course waits p)) → ((rest : List Answer) → answers ≡ answer.NoMemory ∷ rest → Q (out_of_memory (record p { answers = rest }))) → ((a : Answer) (rest : List Answer) → answers ≡ a ∷ rest → Q (hears a (record p { answers = rest }))) → Q (heard hears answers p)
  heard_by hears [] p none failed next = none refl
  heard_by hears (answer.NoMemory ∷ rest) p none failed next = failed rest refl
  heard_by hears (answer.Team team first ∷ rest) p none failed next = next (answer.Team team first) rest refl
  heard_by hears (answer.NoTeam ∷ rest) p none failed next = next answer.NoTeam rest refl
  heard_by hears (answer.Written at ∷ rest) p none failed next = next (answer.Written at) rest refl
  heard_by hears (answer.Full ∷ rest) p none failed next = next answer.Full rest refl
  heard_by hears (answer.Closed ∷ rest) p none failed next = next answer.Closed rest refl
  heard_by hears (answer.Spent ∷ rest) p none failed next = next answer.Spent rest refl
  heard_by hears (answer.TooLong ∷ rest) p none failed next = next answer.TooLong rest refl
  heard_by hears (answer.Reply flat m ∷ rest) p none failed next = next (answer.Reply flat m) rest refl

  -- a message that was sent has a reply that changes the state, or one word more
  pub sent_by : (token : ℕ) (how : Sending) (a : Answer) (p : Acts) → ((e : KitError) → Q (with_error e p)) → ((flat : List ℕ) (s : DeskState) → Q (with_word (word.Reply flat) (record p { state = s }))) → Q (sent token how a p)
  sent_by token (sending.Post back) a p refused replied = refused (error_of a)
  sent_by token (sending.Ask into) (answer.Reply flat m) p refused replied = replied flat (taken_in p.state token into m)
  sent_by token (sending.Ask into) (answer.Team team first) p refused replied = refused error.Ok
  sent_by token (sending.Ask into) answer.NoTeam p refused replied = refused error.NoTeam
  sent_by token (sending.Ask into) (answer.Written at) p refused replied = refused error.Ok
  sent_by token (sending.Ask into) answer.Full p refused replied = refused error.WouldBlock
  sent_by token (sending.Ask into) answer.Closed p refused replied = refused error.BadPortId
  sent_by token (sending.Ask into) answer.Spent p refused replied = refused error.Spent
  sent_by token (sending.Ask into) answer.TooLong p refused replied = refused error.TooLong
  sent_by token (sending.Ask into) answer.NoMemory p refused replied = refused error.NoMemory

  -- an application is found, and the message sent to it, or not
  pub found_by : (token : ℕ) (how : Sending) (m : MessageData) (a : Answer) (p : Acts) → Q (with_error error.NoTeam (with_word word.NoTeam p)) → ((team first : ℕ) → Q (asks (want_of (preferred_of first) how m) (sent token how) (with_word (word.Team team) p))) → Q (found token how m a p)
  found_by token how m (answer.Team team first) p none there = there team first
  found_by token how m answer.NoTeam p none there = none
  found_by token how m (answer.Written at) p none there = none
  found_by token how m answer.Full p none there = none
  found_by token how m answer.Closed p none there = none
  found_by token how m answer.Spent p none there = none
  found_by token how m answer.TooLong p none there = none
  found_by token how m (answer.Reply flat message) p none there = none
  found_by token how m answer.NoMemory p none there = none

-- P holds before the actions that are left, Q after an action, before it is seen whether it goes on, and R at the end
module _ (token : ℕ) (m : MessageData) (memory : Option ℕ) (P Q : List Action → Acts → Type 0) (R : Acts → Type 0) (last : (p : Acts) → P [] p → R p) (fails : (a : Action) (rest : List Action) (p : Acts) → P (a ∷ rest) p → R (out_of_memory p)) (step : (a : Action) (rest : List Action) (p : Acts) → P (a ∷ rest) p → Q rest (act token m a p)) (on : (rest : List Action) (p : Acts) → p.course ≡ goes_on → Q rest p → P rest p) (off : (rest : List Action) (p : Acts) → Q rest p → R p) where
  by_course : (rest : List Action) (onward : Acts → Acts) → ((p : Acts) → P rest p → R (onward p)) → (c : Course) (p : Acts) → p.course ≡ c → Q rest p → R (while_going onward c p)
  by_course rest onward holds goes_on p is h = holds p (on rest p is h)
  by_course rest onward holds ended p is h = off rest p h
  by_course rest onward holds waits p is h = off rest p h

  by_memory : (b : Bool) (p q : Acts) → R p → R q → R (cond b p q)
  by_memory true p q failed done = failed
  by_memory false p q failed done = done

  pub actions_by : (actions : List Action) (place : ℕ) (p : Acts) → P actions p → R (acts_on token m memory place actions p)
  actions_by [] place p h = last p h
  actions_by (a ∷ rest) place p h =
      by_memory (is_at memory place) (out_of_memory p) (then_on (acts_on token m memory (place + 1) rest) (act token m a p)) (fails a rest p h)
      (by_course rest (acts_on token m memory (place + 1) rest) (λ q k. actions_by rest (place + 1) q k) (act token m a p).course (act token m a p) refl (step a rest p h))
