-- Where a reaction stands behind what it wants: it has ended, or takes a reply.
use Rattle.std.proofs.Common.{◌≡◌, ℕ, List, None, subst}
use Rattle.ak_flatten.specs.Laws.{Spells}
use Rattle.ak_message.specs.Message.{MessageData}
use Rattle.ak_message.specs.declared.address.Address.{Address}
use Rattle.ak_action.specs.declared.answer.Answer.TheVariants as answer
use Rattle.ak_action.specs.declared.answer.Want.TheVariants as want
use Rattle.ak_action.specs.declared.doing.Sending.{Sending}
use Rattle.ak_action.specs.declared.doing.Sending.TheVariants as sending
use Rattle.ak_action.specs.declared.interp.Stage.{Stage}
use Rattle.ak_action.specs.declared.interp.Stage.TheVariants as stage
use Rattle.ak_action.specs.declared.state.DeskState.{DeskState}
use Rattle.ak_action.specs.Interp.{InterpData, nexted, Given, Answers, AnswersSend, AnswersStage, HasEnded, MayGoOn, give_at, give_of, hear_of_send, next_of}
use Rattle.ak_action.proofs.Surface.{IsAsked, IsAsking, NextStands, next_stands, sent_so}

pub done_has_ended : (i : InterpData) (s : DeskState) (j : InterpData) (t : DeskState) → next_of None i s ≡ nexted want.Done j t → HasEnded j
done_has_ended i s j t e = subst NextStands e (next_stands None i s)

-- ---- the reply to an ask
takes_by : (how : Sending) → IsAsking how → (flat : List ℕ) (r : MessageData) → Spells flat r → AnswersSend how (answer.Reply flat r)
takes_by (sending.Post back) h flat r spells = absurd h
takes_by (sending.Ask into) h flat r spells = spells

takes : (at : Stage) → IsAsked at → (flat : List ℕ) (r : MessageData) → Spells flat r → AnswersStage at (answer.Reply flat r)
takes at h flat r spells = sent_so IsAsking (λ at. AnswersStage at (answer.Reply flat r)) (λ how so. takes_by how so flat r spells) at h

pub asks_take_replies : (i : InterpData) (s : DeskState) (to : Address) (m : MessageData) (j : InterpData) (t : DeskState) → next_of None i s ≡ nexted (want.Ask to m) j t → (flat : List ℕ) (r : MessageData) → Spells flat r → Answers j (answer.Reply flat r)
asks_take_replies i s to m j t e flat r spells = takes j.stage (subst NextStands e (next_stands None i s)) flat r spells

sent_goes_on : (how : Sending) (i : InterpData) (s : DeskState) (flat : List ℕ) (r : MessageData) → MayGoOn (hear_of_send how i s (answer.Reply flat r)).interp
sent_goes_on (sending.Post back) i s flat r = tt
sent_goes_on (sending.Ask into) i s flat r = tt

goes_on_at : (at : Stage) (i : InterpData) (s : DeskState) (flat : List ℕ) (r : MessageData) → AnswersStage at (answer.Reply flat r) → MayGoOn (give_at at i s (answer.Reply flat r)).interp
goes_on_at stage.Ready i s flat r h = absurd h
goes_on_at (stage.Finding how m) i s flat r h = absurd h
goes_on_at (stage.Found looper how m) i s flat r h = absurd h
goes_on_at (stage.Sent how) i s flat r h = sent_goes_on how i s flat r
goes_on_at stage.Ended i s flat r h = absurd h

pub a_reply_goes_on : (i : InterpData) (s : DeskState) (flat : List ℕ) (r : MessageData) (j : InterpData) (t : DeskState) → Answers i (answer.Reply flat r) → give_of i s (answer.Reply flat r) ≡ record { interp = j; state = t } → MayGoOn j
a_reply_goes_on i s flat r j t h e = subst (λ (g : Given). MayGoOn g.interp) e (goes_on_at i.stage i s flat r h)
