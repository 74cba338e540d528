-- Where a reaction stands behind what it wants.
use Rattle.std.proofs.Common.{◌≡◌, ℕ, Bool, true, false, List, [], ◌∷◌, drop, Option, Some, is_some, cond, refl}
use Rattle.ak_base.specs.declared.error.KitError.TheVariants as error
use Rattle.ak_message.specs.Message.{MessageData}
use Rattle.ak_action.specs.declared.action.Action.{Action}
use Rattle.ak_action.specs.declared.answer.Want.{Want}
use Rattle.ak_action.specs.declared.answer.Want.TheVariants as want
use Rattle.ak_action.specs.declared.doing.Sending.{Sending}
use Rattle.ak_action.specs.declared.doing.Sending.TheVariants as sending
use Rattle.ak_action.specs.declared.interp.Stage.{Stage}
use Rattle.ak_action.specs.declared.interp.Stage.TheVariants as stage
use Rattle.ak_action.specs.declared.state.DeskState.{DeskState}
use Rattle.ak_action.specs.Acts.{is_at, put, want_of}
use Rattle.ak_action.specs.Doing.{Doing, says, replies, puts, sends, finds, stops, quits, doing_of, preferred_of}
use Rattle.ak_action.specs.Interp.{InterpData, Nexted, nexted, failed, actions_of, carried, go_on, next_at, next_of, out_of_memory, past, then_go_on, with_stage}
use Rattle.ak_action.specs.Steps.{IsFinding}

-- ---- where it stands: a want has no answer yet
abbrev pub IsWaiting : Stage → Type 0
IsWaiting (stage.Finding _ _) = Unit {0}
IsWaiting (stage.Sent _) = Unit {0}
IsWaiting _ = ⊥

-- it was sent, and so
abbrev pub IsSentAs : (Sending → Type 0) → Stage → Type 0
IsSentAs IsSo (stage.Sent how) = IsSo how
IsSentAs IsSo _ = ⊥

pub sent_so : (IsSo : Sending → Type 0) (P : Stage → Type 0) → ((how : Sending) → IsSo how → P (stage.Sent how)) → (at : Stage) → IsSentAs IsSo at → P at
sent_so IsSo P sent stage.Ready h = absurd h
sent_so IsSo P sent (stage.Finding how m) h = absurd h
sent_so IsSo P sent (stage.Found looper how m) h = absurd h
sent_so IsSo P sent (stage.Sent how) h = sent how h
sent_so IsSo P sent stage.Ended h = absurd h

abbrev pub IsPosting : Sending → Type 0
IsPosting (sending.Post _) = Unit {0}
IsPosting (sending.Ask _) = ⊥

abbrev pub IsPosted : Stage → Type 0
IsPosted at = IsSentAs IsPosting at

abbrev pub IsAsking : Sending → Type 0
IsAsking (sending.Post _) = ⊥
IsAsking (sending.Ask _) = Unit {0}

abbrev pub IsAsked : Stage → Type 0
IsAsked at = IsSentAs IsAsking at

abbrev pub StandsBehind : Want → Stage → Type 0
StandsBehind want.Done at = at ≡ stage.Ended
StandsBehind (want.Find _) at = IsFinding at
StandsBehind (want.Post _ _ _) at = IsPosted at
StandsBehind (want.Ask _ _) at = IsAsked at
StandsBehind (want.Forward _ _) at = ⊥

abbrev pub NextStands : Nexted → Type 0
NextStands (nexted w i s) = StandsBehind w i.stage
NextStands (failed i s) = i.stage ≡ stage.Ended

sent_stands : (to : _) (how : Sending) (m : MessageData) (i : InterpData) (s : DeskState) → NextStands (nexted (want_of to how m) (with_stage (stage.Sent how) i) s)
sent_stands to (sending.Post back) m i s = tt
sent_stands to (sending.Ask into) m i s = tt

module _ (memory : Option ℕ) where
  carried_stands : (rest : List Action) → ((i : InterpData) (s : DeskState) → NextStands (go_on memory rest i s)) → (d : Doing) (i : InterpData) (s : DeskState) → NextStands (then_go_on (go_on memory rest) (carried d i s))
  carried_stands rest on (says e) i s = on (past e i) s
  carried_stands rest on (replies m) i s = on (past error.Ok (record i { reply = Some m })) s
  carried_stands rest on (puts place value) i s = on (past error.Ok i) (put s i.token place value)
  carried_stands rest on (sends to how m) i s = sent_stands to how m i s
  carried_stands rest on (finds w how m) i s = tt
  carried_stands rest on stops i s = refl
  carried_stands rest on quits i s = on (past error.Ok (record i { quit = true })) s

  step_stands : (b : Bool) (x y : Nexted) → NextStands x → NextStands y → NextStands (cond b x y)
  step_stands true x y h g = h
  step_stands false x y h g = g

  go_on_stands : (list : List Action) (i : InterpData) (s : DeskState) → NextStands (go_on memory list i s)
  go_on_stands [] i s = refl
  go_on_stands (a ∷ rest) i s =
      step_stands (is_at memory i.place) (failed (out_of_memory i) s)
      (then_go_on (go_on memory rest) (carried (doing_of s i.token i.message (is_some i.reply) a) i s)) refl
      (carried_stands rest (go_on_stands rest) (doing_of s i.token i.message (is_some i.reply) a) i s)

  at_stands : (at : Stage) (i : InterpData) (s : DeskState) → NextStands (next_at at memory i s)
  at_stands stage.Ready i s = go_on_stands (drop i.place (actions_of s i.token i.reaction)) i s
  at_stands (stage.Finding how m) i s = refl
  at_stands (stage.Found looper how m) i s = sent_stands (preferred_of looper) how m i s
  at_stands (stage.Sent how) i s = refl
  at_stands stage.Ended i s = refl

  pub next_stands : (i : InterpData) (s : DeskState) → NextStands (next_of memory i s)
  next_stands i s = at_stands i.stage i s
