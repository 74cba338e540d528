-- What was asked for and what was heard are in step: each want has an answer that may come to it, but for one that is still open.
use Rattle.std.proofs.Common.{◌≡◌, ℕ, false, List, [], ◌∷◌, ◌++◌, None, Some, ap, sym, subst, ◌∙◌}
use Rattle.ak_message.specs.Message.{MessageData}
use Rattle.ak_action.specs.declared.answer.Answer.{Answer}
use Rattle.ak_action.specs.declared.answer.Answer.TheVariants as answer
use Rattle.ak_action.specs.declared.answer.Want.{Want}
use Rattle.ak_action.specs.declared.answer.Want.TheVariants as want
use Rattle.ak_action.specs.declared.doing.Sending.{Sending}
use Rattle.ak_action.specs.declared.doing.Sending.TheVariants as sending
use Rattle.ak_action.specs.declared.interp.Stage.{Stage}
use Rattle.ak_action.specs.declared.interp.Stage.TheVariants as stage
use Rattle.ak_action.specs.declared.state.DeskState.{DeskState}
use Rattle.ak_action.specs.Interp.{InterpData, nexted, failed, AnswersFind, AnswersSend, AnswersStage, MayGoOnFrom, next_at, next_of, with_stage}
use Rattle.ak_action.specs.Laws as law
use Rattle.ak_route.specs.declared.outcome.Route.{Route}
use Rattle.ak_route.specs.declared.outcome.Route.TheVariants as route
use Rattle.ak_route.specs.declared.outcome.Taker.TheVariants as taker
use Rattle.ak_desk.specs.declared.task.Task.{Task}
use Rattle.ak_desk.specs.declared.task.Task.TheVariants as task
use Rattle.ak_desk.specs.Answering.{AnswersAsk, AnswersPost, AnswersWant, AreAnswered}
use Rattle.ak_desk.specs.BuiltIns.{built_in_quits, built_in_reply}
use Rattle.ak_desk.specs.Properties.{property_replied}
use Rattle.ak_desk.specs.Task.{Awaits, Comes, IsDone, MayWant, TakesAnswer, wants, wants_none, heard_of, task_by, want_of}
use Rattle.ak_desk.specs.Task as the
use Rattle.ak_action.proofs.Surface.{IsAsked, IsAsking, IsPosted, IsPosting, IsWaiting, NextStands, StandsBehind, next_stands, sent_so}
use Rattle.ak_action.specs.Steps.{IsFinding}
use Rattle.ak_desk.proofs.Coming.{asking_awaits, give_may, may_not, not_answered, reaction_awaits}
use Rattle.ak_desk.proofs.Reacting.{failed_is, next_is}

-- ---- one more
pub answered_push : (asked : List Want) (heard : List Answer) (w : Want) (a : Answer) → AreAnswered asked heard → AnswersWant w a → AreAnswered (asked ++ w ∷ []) (heard ++ a ∷ [])
answered_push [] [] w a h g = (g, tt)
answered_push [] (b ∷ heard) w a h g = absurd h
answered_push (v ∷ asked) [] w a h g = absurd h
answered_push (v ∷ asked) (b ∷ heard) w a (first, rest) g = (first, answered_push asked heard w a rest g)

-- ---- a task that takes no answer, and one that waits for one
abbrev TakesNone : Task → Type 0
TakesNone t = (a : Answer) → TakesAnswer t a → ⊥

abbrev IsOpen : Task → Type 0
IsOpen (task.Reaction i) = IsWaiting i.stage
IsOpen (task.Forwarding _) = Unit {0}
IsOpen _ = ⊥

may_take_none : (t : Task) → MayWant t → TakesNone t
may_take_none (task.Reaction i) may a takes = not_answered i.stage a may takes
may_take_none (task.Property token place m) may a takes = absurd takes
may_take_none (task.BuiltIn token m) may a takes = absurd takes
may_take_none (task.Forward looper popped spare) may a takes = absurd takes
may_take_none (task.Forwarding spare) may a takes = absurd may
may_take_none (task.Done word reply quit) may a takes = absurd takes

open_may_not : {X : Type 0} (t : Task) → IsOpen t → MayWant t → X
open_may_not (task.Reaction i) h may = may_not i.stage h may
open_may_not (task.Property token place m) h may = absurd h
open_may_not (task.BuiltIn token m) h may = absurd h
open_may_not (task.Forward looper popped spare) h may = absurd h
open_may_not (task.Forwarding spare) h may = absurd may
open_may_not (task.Done word reply quit) h may = absurd h

-- ---- what a task takes behind a want answers it
posted_so : (how : Sending) (a : Answer) → IsPosting how → AnswersSend how a → AnswersPost a
posted_so (sending.Post back) (answer.Team team first) at h = absurd h
posted_so (sending.Post back) answer.NoTeam at h = absurd h
posted_so (sending.Post back) (answer.Written position) at h = λ _. tt
posted_so (sending.Post back) answer.Full at h = λ _. tt
posted_so (sending.Post back) answer.Closed at h = λ _. tt
posted_so (sending.Post back) answer.Spent at h = λ _. tt
posted_so (sending.Post back) answer.TooLong at h = λ _. tt
posted_so (sending.Post back) (answer.Reply flat m) at h = absurd h
posted_so (sending.Post back) answer.NoMemory at h = λ _. tt
posted_so (sending.Ask into) a at h = absurd at

asked_so : (how : Sending) (a : Answer) → IsAsking how → AnswersSend how a → AnswersAsk a
asked_so (sending.Ask into) (answer.Team team first) at h = absurd h
asked_so (sending.Ask into) answer.NoTeam at h = absurd h
asked_so (sending.Ask into) (answer.Written position) at h = absurd h
asked_so (sending.Ask into) answer.Full at h = absurd h
asked_so (sending.Ask into) answer.Closed at h = λ _. tt
asked_so (sending.Ask into) answer.Spent at h = λ _. tt
asked_so (sending.Ask into) answer.TooLong at h = λ _. tt
asked_so (sending.Ask into) (answer.Reply flat m) at h = λ _. h
asked_so (sending.Ask into) answer.NoMemory at h = λ _. tt
asked_so (sending.Post back) a at h = absurd at

found_behind : (at : Stage) (a : Answer) → IsFinding at → AnswersStage at a → AnswersFind a
found_behind stage.Ready a at h = absurd h
found_behind (stage.Finding how m) a at h = h
found_behind (stage.Found looper how m) a at h = absurd h
found_behind (stage.Sent how) a at h = absurd at
found_behind stage.Ended a at h = absurd h

posted_behind : (at : Stage) (a : Answer) → IsPosted at → AnswersStage at a → AnswersPost a
posted_behind at a h = sent_so IsPosting (λ at. AnswersStage at a → AnswersPost a) (λ how so. posted_so how a so) at h

asked_behind : (at : Stage) (a : Answer) → IsAsked at → AnswersStage at a → AnswersAsk a
asked_behind at a h = sent_so IsAsking (λ at. AnswersStage at a → AnswersAsk a) (λ how so. asked_so how a so) at h

stage_behind : (w : Want) (at : Stage) → law.IsAsking w → StandsBehind w at → (a : Answer) → AnswersStage at a → AnswersWant w a
stage_behind want.Done at asking h a takes = absurd asking
stage_behind (want.Find word) at asking h a takes = found_behind at a h takes
stage_behind (want.Post to m back) at asking h a takes = posted_behind at a h takes
stage_behind (want.Ask to m) at asking h a takes = asked_behind at a h takes
stage_behind (want.Forward looper popped) at asking h a takes = absurd h

-- the task waits, and what it takes is what answers the want
record Behind (w : Want) (t : Task) : Type 0 where
  open_is : IsOpen t
  takes : (a : Answer) → TakesAnswer t a → AnswersWant w a
  may : (a : Answer) → AnswersWant w a → TakesAnswer t a

may_come : (w : Want) (t : Task) → law.IsAsking w → Awaits w t → (a : Answer) → AnswersWant w a → TakesAnswer t a
may_come want.Done t asking h a g = absurd asking
may_come (want.Find word) t asking h a g = h a g
may_come (want.Post to m back) t asking h a g = h a g
may_come (want.Ask to m) t asking h a g = h a g
may_come (want.Forward looper popped) t asking h a g = h a g

-- nothing is wanted where it is done
asks_something : {X : Type 0} (w : Want) → law.IsAsking w → want.Done ≡ w → X
asks_something w asking e = absurd (subst law.IsAsking (sym e) asking)

behind_want : (t : Task) (s : DeskState) (w : Want) (u : Task) (v : DeskState) → MayWant t → law.IsAsking w → want_of None t s ≡ wants w u v → Behind w u
behind_want (task.Reaction i) s w u v may asking e =
    let n = next_is (next_of None i s) w u v e in
    let stands = subst NextStands n.is (next_stands None i s) in
    let behind : Behind w (task.Reaction n.interp) =
    record {
      open_is = asking_awaits w n.interp.stage asking stands;
      takes = stage_behind w n.interp.stage asking stands;
      may = may_come w (task.Reaction n.interp) asking (reaction_awaits w i n.interp s v n.is);
    } in
    subst (Behind w) (sym n.task_is) behind
behind_want (task.Property token place m) s w u v may asking e = asks_something w asking cc
behind_want (task.BuiltIn token m) s w u v may asking e = asks_something w asking cc
behind_want (task.Forward looper popped spare) s w u v may asking e =
    let want_same : want.Forward looper popped ≡ w = cc in
    let task_same : task.Forwarding spare ≡ u = cc in
    subst (λ (x : Want). Behind x u) want_same
    (subst (Behind (want.Forward looper popped)) task_same (record { open_is = tt; takes = λ a takes. takes; may = λ a takes. takes }))
behind_want (task.Forwarding spare) s w u v may asking e = absurd may
behind_want (task.Done word reply quit) s w u v may asking e = asks_something w asking cc

-- ---- where it is done
pub done_so : (t : Task) (s : DeskState) (u : Task) (v : DeskState) → MayWant t → want_of None t s ≡ wants want.Done u v → IsDone u
done_so (task.Reaction i) s u v may e =
    let n = next_is (next_of None i s) want.Done u v e in
    subst IsDone (sym n.task_is) (subst NextStands n.is (next_stands None i s))
done_so (task.Property token place m) s u v may e =
    let same : task.Done None (Some (property_replied s token place m).reply) false ≡ u = cc in
    subst IsDone same tt
done_so (task.BuiltIn token m) s u v may e =
    let same : task.Done None (Some (built_in_reply s token m)) (built_in_quits s m) ≡ u = cc in
    subst IsDone same tt
done_so (task.Forward looper popped spare) s u v may e =
    let never : want.Forward looper popped ≡ want.Done = cc in
    absurd cc
done_so (task.Forwarding spare) s u v may e = absurd may
done_so (task.Done word reply quit) s u v may e =
    let same : task.Done word reply quit ≡ u = cc in
    subst IsDone same tt

pub failed_so : (place : ℕ) (t : Task) (s : DeskState) (u : Task) (v : DeskState) → MayWant t → want_of (Some place) t s ≡ wants_none u v → IsDone u
failed_so place (task.Reaction i) s u v may e =
    let n = failed_is (next_of (Some place) i s) u v e in
    subst IsDone (sym n.task_is) (subst NextStands n.is (next_stands (Some place) i s))
failed_so place (task.Property token at m) s u v may e =
    let same : the.starved false ≡ u = cc in
    subst IsDone same tt
failed_so place (task.BuiltIn token m) s u v may e =
    let same : the.starved (built_in_quits s m) ≡ u = cc in
    subst IsDone same tt
failed_so place (task.Forward looper popped spare) s u v may e = absurd cc
failed_so place (task.Forwarding spare) s u v may e = absurd cc
failed_so place (task.Done word reply quit) s u v may e = absurd cc

-- ---- an answer
pub heard_may : (t : Task) (s : DeskState) (a : Answer) → TakesAnswer t a → MayWant (heard_of t s a).task
heard_may (task.Reaction i) s a takes = give_may i.stage i s a takes
heard_may (task.Property token place m) s a takes = absurd takes
heard_may (task.BuiltIn token m) s a takes = absurd takes
heard_may (task.Forward looper popped spare) s a takes = absurd takes
heard_may (task.Forwarding spare) s a takes = tt
heard_may (task.Done word reply quit) s a takes = absurd takes

-- ---- how many
one_too_few : {X : Type 0} (asked : List Want) (heard : List Answer) (w : Want) → AreAnswered asked heard → AreAnswered (asked ++ w ∷ []) heard → X
one_too_few [] [] w h g = absurd g
one_too_few [] (b ∷ heard) w h g = absurd h
one_too_few (v ∷ asked) [] w h g = absurd h
one_too_few (v ∷ asked) (b ∷ heard) w (first, rest) (second, more) = one_too_few asked heard w rest more

pub one_too_many : {X : Type 0} (asked : List Want) (heard : List Answer) (a : Answer) → AreAnswered asked heard → AreAnswered asked (heard ++ a ∷ []) → X
one_too_many [] [] a h g = absurd g
one_too_many [] (b ∷ heard) a h g = absurd h
one_too_many (v ∷ asked) [] a h g = absurd h
one_too_many (v ∷ asked) (b ∷ heard) a (first, rest) (second, more) = one_too_many asked heard a rest more

last_answers : (asked : List Want) (heard : List Answer) (w : Want) (a : Answer) → AreAnswered asked heard → AreAnswered (asked ++ w ∷ []) (heard ++ a ∷ []) → AnswersWant w a
last_answers [] [] w a h (g, more) = g
last_answers [] (b ∷ heard) w a h g = absurd h
last_answers (v ∷ asked) [] w a h g = absurd h
last_answers (v ∷ asked) (b ∷ heard) w a (first, rest) (second, more) = last_answers asked heard w a rest more

-- ---- all of it
data InStep : List Want → List Answer → Task → Type 0 where
  settled : (asked : List Want) (heard : List Answer) (t : Task) → AreAnswered asked heard → MayWant t → InStep asked heard t
  waiting : (asked : List Want) (heard : List Answer) (t : Task) (w : Want) → AreAnswered asked heard → Behind w t → InStep (asked ++ w ∷ []) heard t

wants_in_step : (asked : List Want) (heard : List Answer) (t u : Task) (w : Want) → InStep asked heard t → MayWant t → Behind w u → InStep (asked ++ w ∷ []) heard u
wants_in_step _ _ _ u w (settled asked heard t h on) may behind = waiting asked heard u w h behind
wants_in_step _ _ _ u w (waiting asked heard t w0 h open_at) may behind = open_may_not t open_at.open_is may

hears_in_step : (asked : List Want) (heard : List Answer) (t u : Task) (a : Answer) → InStep asked heard t → TakesAnswer t a → MayWant u → InStep asked (heard ++ a ∷ []) u
hears_in_step _ _ _ u a (settled asked heard t h on) takes now = absurd (may_take_none t on a takes)
hears_in_step _ _ _ u a (waiting asked heard t w h open_at) takes now =
    settled (asked ++ w ∷ []) (heard ++ a ∷ []) u (answered_push asked heard w a h (open_at.takes a takes)) now

may_by : (asked : List Want) (heard : List Answer) (t : Task) → InStep asked heard t → AreAnswered asked heard → MayWant t
may_by _ _ _ (settled asked heard t h on) all = on
may_by _ _ _ (waiting asked heard t w h open_at) all = one_too_few asked heard w h all

takes_by : (asked : List Want) (heard : List Answer) (t : Task) (a : Answer) → InStep asked heard t → AreAnswered asked (heard ++ a ∷ []) → TakesAnswer t a
takes_by _ _ _ a (settled asked heard t h on) all = one_too_many asked heard a h all
takes_by _ _ _ a (waiting asked heard t w h open_at) all = open_at.may a (last_answers asked heard w a h all)

module _ (before : DeskState) (first : Task) (may0 : MayWant first) where
  in_step : (asked : List Want) (heard : List Answer) (t : Task) (s : DeskState) → Comes before first asked heard t s → InStep asked heard t
  in_step _ _ _ _ the.begun = settled [] [] first tt may0
  in_step _ _ _ _ (the.wanted asked heard t s w u v c may asking e) =
      wants_in_step asked heard t u w (in_step asked heard t s c) may (behind_want t s w u v may asking e)
  in_step _ _ _ _ (the.given asked heard t s a c takes) =
      hears_in_step asked heard t (heard_of t s a).task a (in_step asked heard t s c) takes (heard_may t s a takes)

  -- where each want has its answer, it may go on
  pub comes_may : (asked : List Want) (heard : List Answer) (t : Task) (s : DeskState) → Comes before first asked heard t s → AreAnswered asked heard → MayWant t
  comes_may asked heard t s c all = may_by asked heard t (in_step asked heard t s c) all

  -- and where it has with one more, it takes that
  pub comes_takes : (asked : List Want) (heard : List Answer) (t : Task) (s : DeskState) (a : Answer) → Comes before first asked heard t s → AreAnswered asked (heard ++ a ∷ []) → TakesAnswer t a
  comes_takes asked heard t s a c all = takes_by asked heard t a (in_step asked heard t s c) all

-- ---- what is done stays so
pub done_may : (t : Task) → IsDone t → MayWant t
done_may (task.Reaction i) done = subst MayGoOnFrom (sym done) tt
done_may (task.Property token place m) done = absurd done
done_may (task.BuiltIn token m) done = absurd done
done_may (task.Forward looper popped spare) done = absurd done
done_may (task.Forwarding spare) done = absurd done
done_may (task.Done word reply quit) done = tt

pub done_wants : (t : Task) (s : DeskState) (w : Want) (u : Task) (v : DeskState) → IsDone t → want_of None t s ≡ wants w u v → (w ≡ want.Done) × ((u ≡ t) × (v ≡ s))
done_wants (task.Reaction i) s w u v done e =
    let n = next_is (next_of None i s) w u v e in
    let is : nexted want.Done (with_stage stage.Ended i) s ≡ nexted w n.interp v = sym (ap (λ (at : Stage). next_at at None i s) done) ∙ n.is in
    let want_same : w ≡ want.Done = cc in
    let interp_same : n.interp ≡ with_stage stage.Ended i = cc in
    let state_same : v ≡ s = cc in
    (want_same, (n.task_is ∙ ap (λ (j : InterpData). task.Reaction j) (interp_same ∙ ap (λ (at : Stage). with_stage at i) (sym done)), state_same))
done_wants (task.Property token place m) s w u v done e = absurd done
done_wants (task.BuiltIn token m) s w u v done e = absurd done
done_wants (task.Forward looper popped spare) s w u v done e = absurd done
done_wants (task.Forwarding spare) s w u v done e = absurd done
done_wants (task.Done word reply quit) s w u v done e =
    let want_same : w ≡ want.Done = cc in
    let task_same : u ≡ task.Done word reply quit = cc in
    let state_same : v ≡ s = cc in
    (want_same, (task_same, state_same))

pub done_never_fails : {X : Type 0} (place : ℕ) (t : Task) (s : DeskState) (u : Task) (v : DeskState) → IsDone t → want_of (Some place) t s ≡ wants_none u v → X
done_never_fails place (task.Reaction i) s u v done e =
    let n = failed_is (next_of (Some place) i s) u v e in
    let is : nexted want.Done (with_stage stage.Ended i) s ≡ failed n.interp v = sym (ap (λ (at : Stage). next_at at (Some place) i s) done) ∙ n.is in
    absurd cc
done_never_fails place (task.Property token at m) s u v done e = absurd done
done_never_fails place (task.BuiltIn token m) s u v done e = absurd done
done_never_fails place (task.Forward looper popped spare) s u v done e = absurd done
done_never_fails place (task.Forwarding spare) s u v done e = absurd done
done_never_fails place (task.Done word reply quit) s u v done e = absurd cc

-- a message begins with no want open
pub first_may : (first : ℕ) (m : MessageData) (r : Route) → MayWant (task_by first m r)
first_may first m (route.Deliver token (taker.Property place)) = tt
first_may first m (route.Deliver token (taker.Reaction place)) = tt
first_may first m (route.Deliver token taker.BuiltIn) = tt
first_may first m route.Skipped = tt
first_may first m route.Dropped = tt
first_may first m route.NotUnderstood = tt
first_may first m (route.Forward looper) = tt
