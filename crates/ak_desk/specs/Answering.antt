-- Which answers may come to what is wanted from outside.
use Rattle.std.specs.Prelude.{ℕ, List, [], ◌∷◌, Option}
use Rattle.ak_message.specs.declared.address.Address.{Address}
use Rattle.ak_action.specs.declared.answer.Answer.{Answer}
use Rattle.ak_action.specs.declared.answer.Answer.TheVariants as answer
use Rattle.ak_action.specs.declared.answer.Want.{Want}
use Rattle.ak_action.specs.declared.answer.Want.TheVariants as want
use Rattle.ak_action.specs.declared.doing.Sending.TheVariants as sending
use Rattle.ak_action.specs.Interp.{AnswersFind, AnswersSend}

-- what answers a message that is sent on: its port was written to, is closed or is spent, or there was no memory
abbrev pub AnswersForward : Answer → Type 0
AnswersForward (answer.Written _) = Unit {0}
AnswersForward answer.Closed = Unit {0}
AnswersForward answer.Spent = Unit {0}
AnswersForward answer.NoMemory = Unit {0}
AnswersForward _ = ⊥

-- what answers a message that is sent without waiting, and one whose reply is waited for
abbrev pub AnswersPost : Answer → Type 0
AnswersPost a = (back : Option Address) → AnswersSend (sending.Post back) a

abbrev pub AnswersAsk : Answer → Type 0
AnswersAsk a = (into : Option ℕ) → AnswersSend (sending.Ask into) a

-- the answer is one to that want; where nothing is wanted there is none
abbrev pub AnswersWant : Want → Answer → Type 0
AnswersWant (want.Find _) a = AnswersFind a
AnswersWant (want.Post _ _ _) a = AnswersPost a
AnswersWant (want.Ask _ _) a = AnswersAsk a
AnswersWant (want.Forward _ _) a = AnswersForward a
AnswersWant want.Done a = ⊥

-- each want has the answer at its place, and there are no more
abbrev pub AreAnswered : List Want → List Answer → Type 0
AreAnswered [] [] = Unit {0}
AreAnswered (w ∷ asked) (a ∷ heard) = AnswersWant w a × AreAnswered asked heard
AreAnswered _ _ = ⊥
