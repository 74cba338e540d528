-- What is wanted next, and what an answer makes of it, stage by stage.
use Rattle.std.proofs.Common.{◌≡◌, ℕ, drop, Option, refl, ap}
use Rattle.ak_message.specs.Message.{MessageData}
use Rattle.ak_action.specs.declared.answer.Answer.{Answer}
use Rattle.ak_action.specs.declared.answer.Want.TheVariants as want
use Rattle.ak_action.specs.declared.doing.Sending.{Sending}
use Rattle.ak_action.specs.declared.interp.Stage.{Stage}
use Rattle.ak_action.specs.declared.interp.Stage.TheVariants as stage
use Rattle.ak_action.specs.declared.state.DeskState.{DeskState}
use Rattle.ak_action.specs.Acts.{want_of}
use Rattle.ak_action.specs.Doing.{preferred_of}
use Rattle.ak_action.specs.Interp.{InterpData, Given, actions_of, give_at, give_of, go_on, hear_of_send, nexted, next_at, next_of, with_stage}
use Rattle.ak_action.specs.Steps.{IsFinding, team_heard}
use Rattle.ak_action.proofs.Rooms.{place_where_finding, place_where_sent}

module _ (memory : Option ℕ) (i : InterpData) (s : DeskState) where
  pub next-ready : i.stage ≡ stage.Ready → next_of memory i s ≡ go_on memory (drop i.place (actions_of s i.token i.reaction)) i s
  next-ready e = ap (λ (at : Stage). next_at at memory i s) e

  pub next-found : (looper : ℕ) (how : Sending) (m : MessageData) → i.stage ≡ stage.Found looper how m → next_of memory i s ≡ nexted (want_of (preferred_of looper) how m) (with_stage (stage.Sent how) i) s
  next-found looper how m e = ap (λ (at : Stage). next_at at memory i s) e

  pub next-ended : i.stage ≡ stage.Ended → next_of memory i s ≡ nexted want.Done (with_stage stage.Ended i) s
  next-ended e = ap (λ (at : Stage). next_at at memory i s) e

module _ (i : InterpData) (s : DeskState) (a : Answer) where
  heard_at : (at : Stage) → IsFinding at → give_at at i s a ≡ record { interp = team_heard at i a; state = s }
  heard_at stage.Ready finding = absurd finding
  heard_at (stage.Finding how m) finding = refl
  heard_at (stage.Found looper how m) finding = absurd finding
  heard_at (stage.Sent how) finding = absurd finding
  heard_at stage.Ended finding = absurd finding

  pub give-finding : IsFinding i.stage → give_of i s a ≡ record { interp = team_heard i.stage i a; state = s }
  give-finding finding = heard_at i.stage finding

  pub give-sent : (how : Sending) → i.stage ≡ stage.Sent how → give_of i s a ≡ hear_of_send how i s a
  give-sent how e = ap (λ (at : Stage). give_at at i s a) e

pub ruleset stages = (next-ready, next-found, next-ended, give-finding, give-sent, place_where_finding, place_where_sent)
