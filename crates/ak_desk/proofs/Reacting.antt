-- How a reaction goes on: of which handler and which of its reactions it is, what its last word tells, and where the result of a reply
-- goes.
use Rattle.std.proofs.Common.{◌≡◌, ◌≢◌, ℕ, zero, suc, ◌+◌, ◌-◌, Bool, true, false, List, [], ◌∷◌, ◌++◌, drop, length, Option, None, Some, option_map, slice_get, is_some, unwrap_or, refl, sym, ap, subst, ◌∙◌, arith}
use Rattle.std.proofs.lemmas.List.{length_push}
use Rattle.ak_base.specs.declared.error.KitError.{KitError}
use Rattle.ak_base.specs.declared.error.KitError.TheVariants as error
use Rattle.ak_handler.specs.Handlers.{token_named}
use Rattle.ak_message.specs.Message.{MessageData, ValueData, kind_of}
use Rattle.ak_value.specs.declared.fault.ElementFault.{ElementFault}
use Rattle.ak_value.specs.declared.fault.ElementFault.TheVariants as fault
use Rattle.ak_value.specs.Elements.{ElementsData, set_first_fault}
use Rattle.ak_route.specs.declared.outcome.Route.{Route}
use Rattle.ak_route.specs.declared.outcome.Route.TheVariants as route
use Rattle.ak_route.specs.declared.outcome.Taker.TheVariants as taker
use Rattle.ak_action.specs.declared.action.Action.{Action}
use Rattle.ak_action.specs.declared.action.Action.TheVariants as action
use Rattle.ak_action.specs.declared.action.Dest.{Dest}
use Rattle.ak_action.specs.declared.action.Dest.TheVariants as dest
use Rattle.ak_action.specs.declared.answer.Answer.{Answer}
use Rattle.ak_action.specs.declared.answer.AnswerWord.{AnswerWord}
use Rattle.ak_action.specs.declared.answer.AnswerWord.TheVariants as word
use Rattle.ak_action.specs.declared.answer.Want.{Want}
use Rattle.ak_action.specs.declared.answer.Want.TheVariants as want
use Rattle.ak_action.specs.declared.doing.Sending.{Sending}
use Rattle.ak_action.specs.declared.doing.Sending.TheVariants as sending
use Rattle.ak_action.specs.declared.interp.Stage.{Stage}
use Rattle.ak_action.specs.declared.interp.Stage.TheVariants as stage
use Rattle.ak_action.specs.declared.number.Number.{Number}
use Rattle.ak_action.specs.declared.row.DeskRow.{DeskRow}
use Rattle.ak_action.specs.declared.state.DeskState.{DeskState}
use Rattle.ak_action.specs.declared.template.Template.{Template}
use Rattle.ak_action.specs.Acts.{put}
use Rattle.ak_action.specs.Building.{built, first_given}
use Rattle.ak_action.specs.Doing.{Doing, says, replies, puts, sends, finds, stops, quits, add_to, back_to, doing_of, into_place, put_at, put_in, put_sum, refused_or_put, reply_of, row_of, sent_to, set_to, sum_with, to_handler, to_looper}
use Rattle.ak_action.specs.Interp.{InterpData, Nexted, nexted, failed, AnswersStage, actions_of, carried, give_at, go_on, hear_of_send, hear_of_team, next_at, next_of, out_of_memory, past, started, then_go_on, with_word}
use Rattle.ak_action.specs.Laws.{by_want, unanswered}
use Rattle.ak_action.specs.Laws as law
use Rattle.ak_action.specs.Number.{number_of, number_value}
use Rattle.ak_action.specs.Row.{first_of, place_of_property}
use Rattle.ak_action.specs.State.{looper_named}
use Rattle.ak_action.proofs.Surface.{actions-put, heard_of_send, heard_of_team, next_drop}
use Rattle.ak_desk.specs.declared.task.Task.{Task}
use Rattle.ak_desk.specs.declared.task.Task.TheVariants as task
use Rattle.ak_desk.specs.BuiltIns.{built_in_quits, built_in_reply}
use Rattle.ak_desk.specs.Desk.{AsksInto, actions_told}
use Rattle.ak_desk.specs.Dispatch.{is_no_memory, ran_out}
use Rattle.ak_desk.specs.Properties.{property_replied}
use Rattle.ak_desk.specs.Task.{Comes, IsNoReaction, wants, wants_none, heard_of, next_wanted, task_by, want_of}
use Rattle.ak_desk.specs.Task as the

-- ---- what the tasks of a reaction want
pub record IsNext (x : Nexted) (w : Want) (u : Task) (v : DeskState) : Type 0 where
  pub interp : InterpData
  pub is : x ≡ nexted w interp v
  pub task_is : u ≡ task.Reaction interp

pub next_is : (x : Nexted) (w : Want) (u : Task) (v : DeskState) → next_wanted x ≡ wants w u v → IsNext x w u v
next_is (nexted w' i s) w u v e =
    let same : w' ≡ w = cc in
    let task_same : u ≡ task.Reaction i = cc in
    let state_same : s ≡ v = cc in
    record { interp = i; is = ap (λ (x : Want). nexted x i s) same ∙ ap (λ (t : DeskState). nexted w i t) state_same; task_is = task_same }
next_is (failed i s) w u v e = absurd cc

pub record IsFailed (x : Nexted) (u : Task) (v : DeskState) : Type 0 where
  pub interp : InterpData
  pub is : x ≡ failed interp v
  pub task_is : u ≡ task.Reaction interp

pub failed_is : (x : Nexted) (u : Task) (v : DeskState) → next_wanted x ≡ wants_none u v → IsFailed x u v
failed_is (nexted w i s) u v e = absurd cc
failed_is (failed i s) u v e =
    let task_same : u ≡ task.Reaction i = cc in
    let state_same : s ≡ v = cc in
    record { interp = i; is = ap (failed i) state_same; task_is = task_same }

-- ---- the last word
word_at_end : (words : List AnswerWord) (w : AnswerWord) → slice_get (words ++ w ∷ []) (length words) ≡ Some w
word_at_end [] w = refl
word_at_end (x ∷ words) w = word_at_end words w

pub ran_out-push : (words : List AnswerWord) (w : AnswerWord) → ran_out (words ++ w ∷ []) ≡ is_no_memory w
ran_out-push words w =
    let last : length (words ++ w ∷ []) - 1 ≡ length words = omega (arith, length_push words w) in
    ap (λ (n : ℕ). unwrap_or (option_map is_no_memory (slice_get (words ++ w ∷ []) n)) false) last
    ∙ ap (λ (o : Option AnswerWord). unwrap_or (option_map is_no_memory o) false) (word_at_end words w)

-- ---- how many actions its words tell
told_error : (words : List AnswerWord) (e : KitError) → actions_told (words ++ word.Error e ∷ []) ≡ actions_told words + 1
told_error [] e = refl
told_error (word.Error x ∷ words) e = ap (λ (n : ℕ). n + 1) (told_error words e)
told_error (word.Reply flat ∷ words) e = ap (λ (n : ℕ). n + 1) (told_error words e)
told_error (word.Team team ∷ words) e = told_error words e
told_error (word.NoTeam ∷ words) e = told_error words e

told_reply : (words : List AnswerWord) (flat : List ℕ) → actions_told (words ++ word.Reply flat ∷ []) ≡ actions_told words + 1
told_reply [] flat = refl
told_reply (word.Error x ∷ words) flat = ap (λ (n : ℕ). n + 1) (told_reply words flat)
told_reply (word.Reply other ∷ words) flat = ap (λ (n : ℕ). n + 1) (told_reply words flat)
told_reply (word.Team team ∷ words) flat = told_reply words flat
told_reply (word.NoTeam ∷ words) flat = told_reply words flat

told_team : (words : List AnswerWord) (team : ℕ) → actions_told (words ++ word.Team team ∷ []) ≡ actions_told words
told_team [] team = refl
told_team (word.Error x ∷ words) team = ap (λ (n : ℕ). n + 1) (told_team words team)
told_team (word.Reply flat ∷ words) team = ap (λ (n : ℕ). n + 1) (told_team words team)
told_team (word.Team other ∷ words) team = told_team words team
told_team (word.NoTeam ∷ words) team = told_team words team

told_no_team : (words : List AnswerWord) → actions_told (words ++ word.NoTeam ∷ []) ≡ actions_told words
told_no_team [] = refl
told_no_team (word.Error x ∷ words) = ap (λ (n : ℕ). n + 1) (told_no_team words)
told_no_team (word.Reply flat ∷ words) = ap (λ (n : ℕ). n + 1) (told_no_team words)
told_no_team (word.Team team ∷ words) = told_no_team words
told_no_team (word.NoTeam ∷ words) = told_no_team words

-- the words tell the actions before the place, and the last of them does not tell that memory ran out
pub record Tells (place : ℕ) (words : List AnswerWord) : Type 0 where
  pub clear : ran_out words ≡ false
  pub told : place ≡ actions_told words

tells_error : (place : ℕ) (words : List AnswerWord) (e : KitError) → is_no_memory (word.Error e) ≡ false → Tells place words → Tells (place + 1) (words ++ word.Error e ∷ [])
tells_error place words e other t =
    record { clear = ran_out-push words (word.Error e) ∙ other; told = ap (λ (n : ℕ). n + 1) t.told ∙ sym (told_error words e) }

-- unless it has ended, they do
abbrev pub IsClear : Stage → ℕ → List AnswerWord → Type 0
IsClear stage.Ready place words = Tells place words
IsClear (stage.Finding how m) place words = Tells place words
IsClear (stage.Found looper how m) place words = Tells place words
IsClear (stage.Sent how) place words = Tells place words
IsClear stage.Ended place words = Unit {0}

clear_at : (at : Stage) (place : ℕ) (words : List AnswerWord) → Tells place words → IsClear at place words
clear_at stage.Ready place words h = h
clear_at (stage.Finding how m) place words h = h
clear_at (stage.Found looper how m) place words h = h
clear_at (stage.Sent how) place words h = h
clear_at stage.Ended place words h = tt

pub waiting_tells : (at : Stage) (a : Answer) (place : ℕ) (words : List AnswerWord) → AnswersStage at a → IsClear at place words → Tells place words
waiting_tells stage.Ready a place words h t = absurd h
waiting_tells (stage.Finding how m) a place words h t = t
waiting_tells (stage.Found looper how m) a place words h t = absurd h
waiting_tells (stage.Sent how) a place words h t = t
waiting_tells stage.Ended a place words h t = absurd h

-- ---- where the result of a reply goes
abbrev pub AimsBy : Sending → DeskState → ℕ → ℕ → ℕ → Type 0
AimsBy (sending.Post back) s token reaction place = Unit {0}
AimsBy (sending.Ask into) s token reaction place = AsksInto s token reaction place into

abbrev pub AimsAt : Stage → DeskState → ℕ → ℕ → ℕ → Type 0
AimsAt stage.Ready s token reaction place = Unit {0}
AimsAt (stage.Finding how m) s token reaction place = AimsBy how s token reaction place
AimsAt (stage.Found looper how m) s token reaction place = AimsBy how s token reaction place
AimsAt (stage.Sent how) s token reaction place = AimsBy how s token reaction place
AimsAt stage.Ended s token reaction place = Unit {0}

-- ---- what one action does: no answer that is known at once tells that memory ran out, and what is sent goes by the action
module _ (s : DeskState) (token reaction at_place : ℕ) where
  abbrev IsSuited : Doing → Type 0
  IsSuited (says e) = is_no_memory (word.Error e) ≡ false
  IsSuited (replies m) = Unit {0}
  IsSuited (puts place value) = Unit {0}
  IsSuited (sends to how m) = AimsBy how s token reaction at_place
  IsSuited (finds w how m) = AimsBy how s token reaction at_place
  IsSuited stops = Unit {0}
  IsSuited quits = Unit {0}

  put_suits : (place : ℕ) (value : ValueData) (o : Option ElementFault) → IsSuited (refused_or_put place value o)
  put_suits place value None = tt
  put_suits place value (Some fault.BadScript) = refl
  put_suits place value (Some fault.BadValue) = refl
  put_suits place value (Some fault.BadType) = refl
  put_suits place value (Some fault.NameNotFound) = refl
  put_suits place value (Some fault.BadIndex) = refl
  put_suits place value (Some fault.ElementLimit) = refl
  put_suits place value (Some fault.NoMemory) = refl

  in_suits : (place : ℕ) (o : Option ElementsData) (value : ValueData) → IsSuited (put_in place o value)
  in_suits place None value = refl
  in_suits place (Some e) value = put_suits place value (set_first_fault e (kind_of value))

  at_suits : (row : DeskRow) (o : Option ℕ) (value : ValueData) → IsSuited (put_at row o value)
  at_suits row None value = refl
  at_suits row (Some place) value = in_suits place (slice_get row.elements place) value

  set_suits : (row : DeskRow) (property : List ℕ) (o : Option ValueData) → IsSuited (set_to row property o)
  set_suits row property None = refl
  set_suits row property (Some value) = at_suits row (place_of_property row property) value

  sum_suits : (row : DeskRow) (property : List ℕ) (o : Option Number) → IsSuited (put_sum row property o)
  sum_suits row property None = refl
  sum_suits row property (Some sum) = at_suits row (place_of_property row property) (number_value sum)

  add_suits : (row : DeskRow) (property : List ℕ) (o : Option ValueData) (amount : Number) → IsSuited (add_to row property o amount)
  add_suits row property None amount = refl
  add_suits row property (Some value) amount = sum_suits row property (sum_with (number_of value) amount)

  looper_suits : (o : Option ℕ) (how : Sending) (m : MessageData) → AimsBy how s token reaction at_place → IsSuited (to_looper o how m)
  looper_suits None how m h = refl
  looper_suits (Some looper) how m h = h

  handler_suits : (looper : ℕ) (o : Option ℕ) (how : Sending) (m : MessageData) → AimsBy how s token reaction at_place → IsSuited (to_handler looper o how m)
  handler_suits looper None how m h = refl
  handler_suits looper (Some at) how m h = h

  sent_suits : (to : Dest) (how : Sending) (m : MessageData) → AimsBy how s token reaction at_place → IsSuited (sent_to s to how m)
  sent_suits dest.Own how m h = h
  sent_suits (dest.Looper name) how m h = looper_suits (looper_named s name) how m h
  sent_suits (dest.Handler name) how m h = handler_suits s.looper (token_named s.handlers.list name) how m h
  sent_suits (dest.App app) how m h = h

  reply_suits : (row : DeskRow) (m : MessageData) (t : Template) (replied : Bool) → IsSuited (reply_of row m t replied)
  reply_suits row m t true = refl
  reply_suits row m t false = tt

  action_suits : (a : Action) → slice_get (actions_of s token reaction) at_place ≡ Some a → (m : MessageData) (replied : Bool) → IsSuited (doing_of s token m replied a)
  action_suits (action.Reply t) there m replied = reply_suits (row_of s token) m t replied
  action_suits (action.Post to t back) there m replied = sent_suits to (sending.Post (back_to s token back)) (built (row_of s token) m t) tt
  action_suits (action.Ask to t into) there m replied =
      sent_suits to (sending.Ask (into_place (row_of s token) into)) (built (row_of s token) m t)
      (record { to = to; message = t; property = into; action_is = there; into_is = refl })
  action_suits (action.Set property value) there m replied = set_suits (row_of s token) property (first_given (row_of s token) m value)
  action_suits (action.Add property amount) there m replied = add_suits (row_of s token) property (first_of (row_of s token) property) amount
  action_suits action.Stop there m replied = tt
  action_suits action.Quit there m replied = tt

-- the first one of those from a place on is the one there
at_drop : {A : Type 0} (n : ℕ) (all : List A) (x : A) (rest : List A) → drop n all ≡ x ∷ rest → slice_get all n ≡ Some x
at_drop zero [] x rest e = absurd cc
at_drop zero (y ∷ all) x rest e = cc
at_drop (suc n) [] x rest e = absurd cc
at_drop (suc n) (y ∷ all) x rest e = at_drop n all x rest e

-- ---- what it is and tells, as it goes on
pub record Keeps (token reaction : ℕ) (i : InterpData) (s : DeskState) : Type 0 where
  pub token_is : i.token ≡ token
  pub reaction_is : i.reaction ≡ reaction
  pub clear : IsClear i.stage i.place i.words
  pub aims : AimsAt i.stage s i.token i.reaction i.place

-- behind a want, also where it has ended
record KeepsClear (token reaction : ℕ) (i : InterpData) (s : DeskState) : Type 0 where
  token_is : i.token ≡ token
  reaction_is : i.reaction ≡ reaction
  tells : Tells i.place i.words
  aims : AimsAt i.stage s i.token i.reaction i.place

-- where memory does not run out, no action finds none
abbrev NextKeeps : ℕ → ℕ → Nexted → Type 0
NextKeeps token reaction (nexted w j v) = KeepsClear token reaction j v
NextKeeps token reaction (failed j v) = ⊥

abbrev GoesOnKeeping : List Action → Type 0
GoesOnKeeping list =
    (i : InterpData) (s : DeskState) → drop i.place (actions_of s i.token i.reaction) ≡ list → Tells i.place i.words → NextKeeps i.token i.reaction (go_on None list i s)

carried_keeps : (rest : List Action) → GoesOnKeeping rest → (d : Doing) (i : InterpData) (s : DeskState) → drop (i.place + 1) (actions_of s i.token i.reaction) ≡ rest → Tells i.place i.words → IsSuited s i.token i.reaction i.place d → NextKeeps i.token i.reaction (then_go_on (go_on None rest) (carried d i s))
carried_keeps rest on (says e) i s behind t h = on (past e i) s behind (tells_error i.place i.words e h t)
carried_keeps rest on (replies m) i s behind t h = on (past error.Ok (record i { reply = Some m })) s behind (tells_error i.place i.words error.Ok refl t)
carried_keeps rest on (puts place value) i s behind t h =
    on (past error.Ok i) (put s i.token place value) (ap (drop (i.place + 1)) (actions-put s i.token i.reaction place value) ∙ behind) (tells_error i.place i.words error.Ok refl t)
carried_keeps rest on (sends to how m) i s behind t h = record { token_is = refl; reaction_is = refl; tells = t; aims = h }
carried_keeps rest on (finds w how m) i s behind t h = record { token_is = refl; reaction_is = refl; tells = t; aims = h }
carried_keeps rest on stops i s behind t h = record { token_is = refl; reaction_is = refl; tells = tells_error i.place i.words error.Ok refl t; aims = tt }
carried_keeps rest on quits i s behind t h = on (past error.Ok (record i { quit = true })) s behind (tells_error i.place i.words error.Ok refl t)

go_on_keeps : (list : List Action) → GoesOnKeeping list
go_on_keeps [] i s there t = record { token_is = refl; reaction_is = refl; tells = t; aims = tt }
go_on_keeps (a ∷ rest) i s there t =
    carried_keeps rest (go_on_keeps rest) (doing_of s i.token i.message (is_some i.reply) a) i s (next_drop i.place (actions_of s i.token i.reaction) a rest there) t
    (action_suits s i.token i.reaction i.place a (at_drop i.place (actions_of s i.token i.reaction) a rest there) i.message (is_some i.reply))

ready_keeps : (i : InterpData) (s : DeskState) → Tells i.place i.words → NextKeeps i.token i.reaction (next_at stage.Ready None i s)
ready_keeps i s t = go_on_keeps (drop i.place (actions_of s i.token i.reaction)) i s refl t

-- nothing is wanted where it is done
asks_none : {X : Type 0} (w : Want) (i j : InterpData) (s v : DeskState) → law.IsAsking w → nexted want.Done i s ≡ nexted w j v → X
asks_none w i j s v asking e =
    let same : want.Done ≡ w = cc in
    absurd (subst law.IsAsking (sym same) asking)

wants_keeps : (at : Stage) (i : InterpData) (s : DeskState) (w : Want) (j : InterpData) (v : DeskState) → IsClear at i.place i.words → AimsAt at s i.token i.reaction i.place → law.IsAsking w → next_at at None i s ≡ nexted w j v → KeepsClear i.token i.reaction j v
wants_keeps stage.Ready i s w j v clear aims asking e = subst (NextKeeps i.token i.reaction) e (ready_keeps i s clear)
wants_keeps (stage.Finding how m) i s w j v clear aims asking e = asks_none w _ j s v asking e
wants_keeps (stage.Found looper how m) i s w j v clear aims asking e =
    let here : NextKeeps i.token i.reaction (next_at (stage.Found looper how m) None i s) = record { token_is = refl; reaction_is = refl; tells = clear; aims = aims } in
    subst (NextKeeps i.token i.reaction) e here
wants_keeps (stage.Sent how) i s w j v clear aims asking e = asks_none w _ j s v asking e
wants_keeps stage.Ended i s w j v clear aims asking e = asks_none w _ j s v asking e

-- where an action found no memory, with memory the last word of what comes then does not tell so
run_clear : (token reaction : ℕ) (n : Nexted) → NextKeeps token reaction n → ran_out (by_want unanswered [] n).words ≡ false
run_clear token reaction (nexted want.Done j v) h = h.tells.clear
run_clear token reaction (nexted (want.Find w) j v) h = h.tells.clear
run_clear token reaction (nexted (want.Post to m back) j v) h = h.tells.clear
run_clear token reaction (nexted (want.Ask to m) j v) h = h.tells.clear
run_clear token reaction (nexted (want.Forward looper popped) j v) h = h.tells.clear
run_clear token reaction (failed j v) h = absurd h

pub clear_without : (place : ℕ) (at : Stage) (i : InterpData) (s : DeskState) (j : InterpData) (v : DeskState) → IsClear at i.place i.words → next_at at (Some place) i s ≡ failed j v → ran_out (by_want unanswered [] (next_at at None i s)).words ≡ false
clear_without place stage.Ready i s j v clear e = run_clear i.token i.reaction (next_at stage.Ready None i s) (ready_keeps i s clear)
clear_without place (stage.Finding how m) i s j v clear e = absurd cc
clear_without place (stage.Found looper how m) i s j v clear e = absurd cc
clear_without place (stage.Sent how) i s j v clear e = absurd cc
clear_without place stage.Ended i s j v clear e = absurd cc

-- ---- behind an answer
past_keeps : (e : KitError) (i : InterpData) (s : DeskState) → is_no_memory (word.Error e) ≡ false → Tells i.place i.words → Keeps i.token i.reaction (past e i) s
past_keeps e i s other t = record { token_is = refl; reaction_is = refl; clear = tells_error i.place i.words e other t; aims = tt }

spent_keeps : (i : InterpData) (s : DeskState) → Keeps i.token i.reaction (out_of_memory i) s
spent_keeps i s = record { token_is = refl; reaction_is = refl; clear = tt; aims = tt }

no_team_keeps : (i : InterpData) (s : DeskState) → Tells i.place i.words → Keeps i.token i.reaction (past error.NoTeam (with_word word.NoTeam i)) s
no_team_keeps i s t =
    past_keeps error.NoTeam (with_word word.NoTeam i) s refl (record { clear = ran_out-push i.words word.NoTeam; told = t.told ∙ sym (told_no_team i.words) })

team_keeps : (how : Sending) (m : MessageData) (i : InterpData) (s : DeskState) (a : Answer) → AimsBy how s i.token i.reaction i.place → Tells i.place i.words → Keeps i.token i.reaction (hear_of_team how m i a) s
team_keeps how m i s a aims t =
    heard_of_team (Keeps i.token i.reaction) i s (spent_keeps i s) how m
    (λ team first. record { token_is = refl; reaction_is = refl; clear = record { clear = ran_out-push i.words (word.Team team); told = t.told ∙ sym (told_team i.words team) }; aims = aims })
    (no_team_keeps i s t) a

other_error : (e : KitError) → e ≢ error.NoMemory → is_no_memory (word.Error e) ≡ false
other_error error.NoMemory other = absurd (other refl)
other_error _ other = refl

send_keeps : (how : Sending) (i : InterpData) (s : DeskState) (a : Answer) → Tells i.place i.words → Keeps i.token i.reaction (hear_of_send how i s a).interp (hear_of_send how i s a).state
send_keeps how i s a t =
    heard_of_send (Keeps i.token i.reaction) i s (spent_keeps i s) how (λ e other. past_keeps e i s (other_error e other) t)
    (λ into flat said.
    record {
      token_is = refl;
      reaction_is = refl;
      clear = record { clear = ran_out-push i.words (word.Reply flat); told = ap (λ (n : ℕ). n + 1) t.told ∙ sym (told_reply i.words flat) };
      aims = tt;
    })
    a

gives_keep : (at : Stage) (i : InterpData) (s : DeskState) (a : Answer) → AimsAt at s i.token i.reaction i.place → IsClear at i.place i.words → AnswersStage at a → Keeps i.token i.reaction (give_at at i s a).interp (give_at at i s a).state
gives_keep stage.Ready i s a aims t h = absurd h
gives_keep (stage.Finding how m) i s a aims t h = team_keeps how m i s a aims t
gives_keep (stage.Found looper how m) i s a aims t h = absurd h
gives_keep (stage.Sent how) i s a aims t h = send_keeps how i s a t
gives_keep stage.Ended i s a aims t h = absurd h

-- ---- from the beginning on
abbrev pub TaskKeeps : ℕ → ℕ → Task → DeskState → Type 0
TaskKeeps token reaction (task.Reaction i) s = Keeps token reaction i s
TaskKeeps token reaction _ s = ⊥

module _ (s0 : DeskState) (m : MessageData) (token reaction : ℕ) where
  abbrev first : Task
  first = task.Reaction (started m token reaction)

  pub keeps_on : (asked : List Want) (heard : List Answer) (t : Task) (s : DeskState) → Comes s0 first asked heard t s → TaskKeeps token reaction t s
  keeps_on _ _ _ _ the.begun = record { token_is = refl; reaction_is = refl; clear = record { clear = refl; told = refl }; aims = tt }
  keeps_on _ _ _ _ (the.wanted asked heard (task.Reaction i) s w u v c may asking e) =
      let n = next_is (next_of None i s) w u v e in
      let before : Keeps token reaction i s = keeps_on asked heard (task.Reaction i) s c in
      let after : KeepsClear i.token i.reaction n.interp v = wants_keeps i.stage i s w n.interp v before.clear before.aims asking n.is in
      let kept : Keeps token reaction n.interp v =
      record {
        token_is = after.token_is ∙ before.token_is;
        reaction_is = after.reaction_is ∙ before.reaction_is;
        clear = clear_at n.interp.stage n.interp.place n.interp.words after.tells;
        aims = after.aims;
      } in
      subst (λ (x : Task). TaskKeeps token reaction x v) (sym n.task_is) kept
  keeps_on _ _ _ _ (the.given asked heard (task.Reaction i) s a c h) =
      let before : Keeps token reaction i s = keeps_on asked heard (task.Reaction i) s c in
      let after = gives_keep i.stage i s a before.aims before.clear h in
      record { token_is = after.token_is ∙ before.token_is; reaction_is = after.reaction_is ∙ before.reaction_is; clear = after.clear; aims = after.aims }
  keeps_on _ _ _ _ (the.wanted asked heard (task.Property at place said) s w u v c may asking e) = absurd (keeps_on asked heard (task.Property at place said) s c)
  keeps_on _ _ _ _ (the.wanted asked heard (task.BuiltIn at said) s w u v c may asking e) = absurd (keeps_on asked heard (task.BuiltIn at said) s c)
  keeps_on _ _ _ _ (the.wanted asked heard (task.Forward looper popped spare) s w u v c may asking e) = absurd (keeps_on asked heard (task.Forward looper popped spare) s c)
  keeps_on _ _ _ _ (the.wanted asked heard (task.Forwarding spare) s w u v c may asking e) = absurd (keeps_on asked heard (task.Forwarding spare) s c)
  keeps_on _ _ _ _ (the.wanted asked heard (task.Done last reply quit) s w u v c may asking e) = absurd (keeps_on asked heard (task.Done last reply quit) s c)
  keeps_on _ _ _ _ (the.given asked heard (task.Property at place said) s a c h) = absurd h
  keeps_on _ _ _ _ (the.given asked heard (task.BuiltIn at said) s a c h) = absurd h
  keeps_on _ _ _ _ (the.given asked heard (task.Forward looper popped spare) s a c h) = absurd h
  keeps_on _ _ _ _ (the.given asked heard (task.Forwarding spare) s a c h) = absurd (keeps_on asked heard (task.Forwarding spare) s c)
  keeps_on _ _ _ _ (the.given asked heard (task.Done last reply quit) s a c h) = absurd h

-- ---- what begins as no reaction does not come to one
none_wanted : (t : Task) (s : DeskState) (w : Want) (u : Task) (v : DeskState) → want_of None t s ≡ wants w u v → IsNoReaction t → IsNoReaction u
none_wanted (task.Reaction i) s w u v e h = absurd h
none_wanted (task.Property token place m) s w u v e h =
    let same : task.Done None (Some (property_replied s token place m).reply) false ≡ u = cc in
    subst IsNoReaction same tt
none_wanted (task.BuiltIn token m) s w u v e h =
    let same : task.Done None (Some (built_in_reply s token m)) (built_in_quits s m) ≡ u = cc in
    subst IsNoReaction same tt
none_wanted (task.Forward looper popped spare) s w u v e h =
    let same : task.Forwarding spare ≡ u = cc in
    subst IsNoReaction same tt
none_wanted (task.Forwarding spare) s w u v e h =
    let same : task.Forwarding spare ≡ u = cc in
    subst IsNoReaction same tt
none_wanted (task.Done last reply quit) s w u v e h =
    let same : task.Done last reply quit ≡ u = cc in
    subst IsNoReaction same tt

none_heard : (t : Task) (s : DeskState) (a : Answer) → IsNoReaction t → IsNoReaction (heard_of t s a).task
none_heard (task.Reaction i) s a h = absurd h
none_heard (task.Property token place m) s a h = tt
none_heard (task.BuiltIn token m) s a h = tt
none_heard (task.Forward looper popped spare) s a h = tt
none_heard (task.Forwarding spare) s a h = tt
none_heard (task.Done last reply quit) s a h = tt

none_comes : (before : DeskState) (t0 : Task) (asked : List Want) (heard : List Answer) (t : Task) (s : DeskState) → Comes before t0 asked heard t s → IsNoReaction t0 → IsNoReaction t
none_comes before t0 _ _ _ _ the.begun h = h
none_comes before t0 _ _ _ _ (the.wanted asked heard t s w u v c may asking e) h = none_wanted t s w u v e (none_comes before t0 asked heard t s c h)
none_comes before t0 _ _ _ _ (the.given asked heard t s a c takes) h = none_heard t s a (none_comes before t0 asked heard t s c h)

-- ---- by its route
-- the route is to that reaction of that handler, and what is asked goes by it
pub record IsRouted (r : Route) (i : InterpData) (s : DeskState) : Type 0 where
  pub route_is : r ≡ route.Deliver i.token (taker.Reaction i.reaction)
  pub clear : IsClear i.stage i.place i.words
  pub aims : AimsAt i.stage s i.token i.reaction i.place

pub routed_so : (s0 : DeskState) (m : MessageData) (r : Route) (asked : List Want) (heard : List Answer) (i : InterpData) (s : DeskState) → Comes s0 (task_by s0.first m r) asked heard (task.Reaction i) s → IsRouted r i s
routed_so s0 m (route.Deliver token (taker.Reaction place)) asked heard i s c =
    let kept : Keeps token place i s = keeps_on s0 m token place asked heard (task.Reaction i) s c in
    record {
      route_is =
          ap (λ (n : ℕ). route.Deliver n (taker.Reaction place)) (sym kept.token_is)
          ∙ ap (λ (n : ℕ). route.Deliver i.token (taker.Reaction n)) (sym kept.reaction_is);
      clear = kept.clear;
      aims = kept.aims;
    }
routed_so s0 m (route.Deliver token (taker.Property place)) asked heard i s c = absurd (none_comes s0 (task.Property token place m) asked heard (task.Reaction i) s c tt)
routed_so s0 m (route.Deliver token taker.BuiltIn) asked heard i s c = absurd (none_comes s0 (task.BuiltIn token m) asked heard (task.Reaction i) s c tt)
routed_so s0 m route.Skipped asked heard i s c = absurd (none_comes s0 (task_by s0.first m route.Skipped) asked heard (task.Reaction i) s c tt)
routed_so s0 m route.Dropped asked heard i s c = absurd (none_comes s0 (task_by s0.first m route.Dropped) asked heard (task.Reaction i) s c tt)
routed_so s0 m route.NotUnderstood asked heard i s c = absurd (none_comes s0 (task_by s0.first m route.NotUnderstood) asked heard (task.Reaction i) s c tt)
routed_so s0 m (route.Forward looper) asked heard i s c = absurd (none_comes s0 (task_by s0.first m (route.Forward looper)) asked heard (task.Reaction i) s c tt)
