-- What is still to do for a message, step by step: what is wanted next, and what an answer makes of it.
use Rattle.std.specs.Prelude.{◌≡◌, ℕ, ◌+◌, Bool, false, is_some, if◌then◌else◌, List, [], ◌∷◌, ◌++◌, Option, None, Some, unwrap_or}
use Rattle.ak_base.specs.declared.error.KitError.{KitError}
use Rattle.ak_base.specs.declared.error.KitError.TheVariants as error
use Rattle.ak_message.specs.Message.{MessageData}
use Rattle.ak_route.specs.declared.outcome.Route.{Route}
use Rattle.ak_route.specs.declared.outcome.Route.TheVariants as route
use Rattle.ak_route.specs.declared.outcome.Taker.{Taker}
use Rattle.ak_route.specs.declared.outcome.Taker.TheVariants as taker
use Rattle.ak_route.specs.Routing.{Routed}
use Rattle.ak_action.specs.declared.answer.Answer.{Answer}
use Rattle.ak_action.specs.declared.answer.AnswerWord.{AnswerWord}
use Rattle.ak_action.specs.declared.answer.AnswerWord.TheVariants as word
use Rattle.ak_action.specs.declared.answer.Want.{Want}
use Rattle.ak_action.specs.declared.answer.Want.TheVariants as want
use Rattle.ak_action.specs.declared.state.DeskState.{DeskState}
use Rattle.ak_action.specs.Acts.{error_of}
use Rattle.ak_action.specs.Interp.{started, Nexted, nexted, failed, Given, next_of, give_of, MayGoOn, Answers, AnswersFind, HasEnded}
use Rattle.ak_action.specs.Laws.{IsAsking}
use Rattle.ak_desk.specs.declared.task.Task.{Task}
use Rattle.ak_desk.specs.declared.task.Task.TheVariants as task
use Rattle.ak_desk.specs.Answering.{AnswersAsk, AnswersForward, AnswersPost}
use Rattle.ak_desk.specs.BuiltIns.{built_in_reply, built_in_quits}
use Rattle.ak_desk.specs.Dispatch.{Came, forward_reply}
use Rattle.ak_desk.specs.Properties.{property_replied}
use Rattle.ak_desk.specs.Replies.{none_reply, not_understood}

-- ---- how a message begins
abbrev pub taken_as : ℕ → MessageData → Taker → Task
taken_as token m (taker.Property place) = task.Property token place m
taken_as token m (taker.Reaction place) = task.Reaction (started m token place)
taken_as token m taker.BuiltIn = task.BuiltIn token m

abbrev pub ready : MessageData → Task
ready reply = task.Done None (Some reply) false

-- by its route; `first` is the number of the application's first looper
abbrev pub task_by : ℕ → MessageData → Route → Task
task_by first m (route.Deliver token t) = taken_as token m t
task_by first m route.Skipped = ready none_reply
task_by first m route.Dropped = ready none_reply
task_by first m route.NotUnderstood = ready not_understood
task_by first m (route.Forward looper) = task.Forward (first + looper) m.popped tt

abbrev pub task_of : ℕ → Routed → Task
task_of first r = task_by first r.message r.route

-- ---- what is asked of a caller
-- no want is without its answer
abbrev pub MayWant : Task → Type 0
MayWant (task.Reaction i) = MayGoOn i
MayWant (task.Forwarding _) = ⊥
MayWant _ = Unit {0}

-- the answer is one to the last want
abbrev pub TakesAnswer : Task → Answer → Type 0
TakesAnswer (task.Reaction i) a = Answers i a
TakesAnswer (task.Forwarding _) a = AnswersForward a
TakesAnswer _ a = ⊥

-- nothing is left to do
abbrev pub IsDone : Task → Type 0
IsDone (task.Reaction i) = HasEnded i
IsDone (task.Done _ _ _) = Unit {0}
IsDone _ = ⊥

abbrev pub IsNoReaction : Task → Type 0
IsNoReaction (task.Reaction _) = ⊥
IsNoReaction _ = Unit {0}

-- what is sent on, or is to be, keeps a reply for a refusal
abbrev pub spare_in : Task → Option (Unit {0})
spare_in (task.Forward looper popped spare) = Some spare
spare_in (task.Forwarding spare) = Some spare
spare_in _ = None

-- ---- what is wanted next
pub data Wanted : Type 0 where
  wants : Want → Task → DeskState → Wanted
  -- there was no memory
  wants_none : Task → DeskState → Wanted

abbrev pub next_wanted : Nexted → Wanted
next_wanted (nexted w i s) = wants w (task.Reaction i) s
next_wanted (failed i s) = wants_none (task.Reaction i) s

-- where memory ran out in it
abbrev pub place_in : Task → ℕ
place_in (task.Reaction i) = i.place
place_in _ = 0

-- without memory for its reply its word is that, and nothing changes
abbrev pub starved : Bool → Task
starved quit = task.Done (Some error.NoMemory) (Some none_reply) quit

abbrev pub answered_by : DeskState → MessageData → Bool → Wanted
answered_by s reply quit = wants want.Done (task.Done None (Some reply) quit) s

-- where `memory` is a place, it runs out: at the action of that place, or, of what has no actions, at its reply
abbrev pub want_of : Option ℕ → Task → DeskState → Wanted
want_of memory (task.Reaction i) s = next_wanted (next_of memory i s)
want_of memory (task.Property token place m) s =
    if is_some memory then wants_none (starved false) s
    else answered_by (property_replied s token place m).state (property_replied s token place m).reply false
want_of memory (task.BuiltIn token m) s =
    if is_some memory then wants_none (starved (built_in_quits s m)) s
    else answered_by s (built_in_reply s token m) (built_in_quits s m)
want_of memory (task.Forward looper popped spare) s = wants (want.Forward looper popped) (task.Forwarding spare) s
want_of memory (task.Forwarding spare) s = wants want.Done (task.Forwarding spare) s
want_of memory (task.Done w reply quit) s = wants want.Done (task.Done w reply quit) s

-- ---- behind a want
-- where that is wanted, each answer to it may come, and where nothing is, nothing is left to do
abbrev pub Awaits : Want → Task → Type 0
Awaits want.Done t = IsDone t
Awaits (want.Find _) t = (a : Answer) → AnswersFind a → TakesAnswer t a
Awaits (want.Post _ _ _) t = (a : Answer) → AnswersPost a → TakesAnswer t a
Awaits (want.Ask _ _) t = (a : Answer) → AnswersAsk a → TakesAnswer t a
Awaits (want.Forward _ _) t = (a : Answer) → AnswersForward a → TakesAnswer t a

-- ---- what an answer makes of it
pub record Heard : Type 0 where
  pub task : Task
  pub state : DeskState

abbrev pub reaction_heard : Given → Heard
reaction_heard g = record { task = task.Reaction g.interp; state = g.state }

abbrev pub heard_of : Task → DeskState → Answer → Heard
heard_of (task.Reaction i) s a = reaction_heard (give_of i s a)
heard_of (task.Forwarding _) s a = record { task = task.Done (Some (error_of a)) (forward_reply a) false; state = s }
heard_of t s a = record { task = t; state = s }

-- ---- what it came to
abbrev pub word_list : Option KitError → List AnswerWord
word_list None = []
word_list (Some e) = word.Error e ∷ []

abbrev pub words_of : Task → List AnswerWord
words_of (task.Reaction i) = i.words
words_of (task.Done w reply quit) = word_list w
words_of _ = []

-- none where the message was sent on
abbrev pub reply_of : Task → Option MessageData
reply_of (task.Reaction i) = Some (unwrap_or i.reply none_reply)
reply_of (task.Done w reply quit) = reply
reply_of _ = None

abbrev pub quits : Task → Bool
quits (task.Reaction i) = i.quit
quits (task.Done w reply quit) = quit
quits _ = false

abbrev pub came_of : Task → Came
came_of t = record { words = words_of t; reply = reply_of t; quit = quits t }

-- ---- the calls, from the beginning on
-- after these wants, and these answers to them in order, while something is left to do; `first` is what there was to do at first
pub data Comes (before : DeskState) (first : Task) : List Want → List Answer → Task → DeskState → Type 0 where
  begun : Comes before first [] [] first before
  wanted : (asked : List Want) (heard : List Answer) (t : Task) (s : DeskState) (w : Want) (u : Task) (v : DeskState) → Comes before first asked heard t s → MayWant t → IsAsking w → want_of None t s ≡ wants w u v → Comes before first (asked ++ w ∷ []) heard u v
  given : (asked : List Want) (heard : List Answer) (t : Task) (s : DeskState) (a : Answer) → Comes before first asked heard t s → TakesAnswer t a → Comes before first asked (heard ++ a ∷ []) (heard_of t s a).task (heard_of t s a).state
