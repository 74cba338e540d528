-- What holds of all reactions: carried out action by action, one comes to what its actions come to with all answers at once; and what
-- the words of the journal, the reply, the wants and the answers have to do with one another.
use Rattle.std.specs.Prelude.{◌≡◌, ℕ, ◌+◌, ◌*◌, ◌≤◌, ◌↔◌, Bool, true, false, List, [], ◌∷◌, ◌++◌, length, drop, All, Option, None, Some}
use Rattle.ak_flatten.specs.Laws.{Spells}
use Rattle.ak_message.specs.Message.{MessageData}
use Rattle.ak_action.specs.declared.action.Action.{Action}
use Rattle.ak_action.specs.declared.action.Action.TheVariants as action
use Rattle.ak_action.specs.declared.answer.Answer.{Answer}
use Rattle.ak_action.specs.declared.answer.Answer.TheVariants as answer
use Rattle.ak_action.specs.declared.answer.AnswerWord.{AnswerWord}
use Rattle.ak_action.specs.declared.answer.Want.{Want}
use Rattle.ak_action.specs.declared.answer.Want.TheVariants as want
use Rattle.ak_action.specs.declared.state.DeskState.{DeskState}
use Rattle.ak_action.specs.declared.template.Template.{Template}
use Rattle.ak_action.specs.Acts.{Acts, Course, goes_on, ended, waits, acts, acts_on, is_at}
use Rattle.ak_action.specs.Building.{built}
use Rattle.ak_action.specs.Doing.{row_of}
use Rattle.ak_action.specs.Interp.{InterpData, Nexted, nexted, failed, Given, started, next_of, give_of, actions_of}

-- what a whole run of a reaction came to
pub record Ran : Type 0 where
  pub state : DeskState
  -- what it wanted, in order
  pub wants : List Want
  pub words : List AnswerWord
  pub reply : Option MessageData
  pub quit : Bool
  -- the answers that it did not take
  pub answers : List Answer
  -- whether the last want got no answer
  pub waits : Bool

-- ---- step by step
abbrev pub finished : InterpData → DeskState → List Answer → Ran
finished i s answers =
    record { state = s; wants = []; words = i.words; reply = i.reply; quit = i.quit; answers = answers; waits = false }

abbrev pub unanswered : Want → InterpData → DeskState → Ran
unanswered w i s = record { state = s; wants = w ∷ []; words = i.words; reply = i.reply; quit = i.quit; answers = []; waits = true }

abbrev pub wanting : Want → Ran → Ran
wanting w r = record r { wants = w ∷ r.wants }

abbrev pub answered_so : (InterpData → DeskState → Ran) → Want → Given → Ran
answered_so on w g = wanting w (on g.interp g.state)

-- it is done, or wants something
abbrev pub by_want : (Want → InterpData → DeskState → Ran) → List Answer → Nexted → Ran
by_want on answers (nexted want.Done i s) = finished i s answers
by_want on answers (nexted (want.Find w) i s) = on (want.Find w) i s
by_want on answers (nexted (want.Post to m back) i s) = on (want.Post to m back) i s
by_want on answers (nexted (want.Ask to m) i s) = on (want.Ask to m) i s
by_want on answers (nexted (want.Forward looper popped) i s) = on (want.Forward looper popped) i s
by_want on answers (failed i s) = finished i s answers

-- it is asked what it wants and given the next answer, until it wants nothing more
abbrev pub run : Option ℕ → List Answer → InterpData → DeskState → Ran
run memory [] i s = by_want unanswered [] (next_of memory i s)
run memory (a ∷ rest) i s =
    by_want (λ (w : Want) (j : InterpData) (t : DeskState). answered_so (run memory rest) w (give_of j t a)) (a ∷ rest) (next_of memory i s)

-- ---- all at once
abbrev pub is_waiting : Course → Bool
is_waiting goes_on = false
is_waiting ended = false
is_waiting waits = true

abbrev pub ran_of : Acts → Ran
ran_of p =
    record {
      state = p.state;
      wants = p.wants;
      words = p.words;
      reply = p.reply;
      quit = p.quit;
      answers = p.answers;
      waits = is_waiting p.course;
    }

abbrev pub RunsAct : Type 0
RunsAct =
    (s : DeskState) (m : MessageData) (token reaction : ℕ) (answers : List Answer) (memory : Option ℕ)
    → run memory answers (started m token reaction) s ≡ ran_of (acts s token m (actions_of s token reaction) answers memory)

-- ---- what a reaction leaves behind
pub record Outcome : Type 0 where
  pub state : DeskState
  pub reply : Option MessageData
  pub quit : Bool

abbrev pub outcome_of : Acts → Outcome
outcome_of p = record { state = p.state; reply = p.reply; quit = p.quit }

-- the message of a reply is what its flat text spells
abbrev pub IsSpelled : Answer → Type 0
IsSpelled (answer.Reply flat m) = Spells flat m
IsSpelled _ = Unit {0}

-- it follows from the words alone, whatever the answers were and wherever an action found no memory
abbrev pub WordsReplay : Type 0
WordsReplay =
    (s : DeskState) (token : ℕ) (m : MessageData) (actions : List Action) (answers others : List Answer) (memory other : Option ℕ)
    → All IsSpelled answers
    → All IsSpelled others
    → (acts s token m actions answers memory).words ≡ (acts s token m actions others other).words
    → outcome_of (acts s token m actions answers memory) ≡ outcome_of (acts s token m actions others other)

-- ---- words and answers are no more than the actions and the wants
abbrev pub TwoWordsAnAction : Type 0
TwoWordsAnAction =
    (s : DeskState) (token : ℕ) (m : MessageData) (actions : List Action) (answers : List Answer) (memory : Option ℕ)
    → length (acts s token m actions answers memory).words ≤ 2 * length actions

-- where it waits, its last want has no answer, and no answer is left; else each want has the answer at its place, and the answers
-- behind those are left
abbrev pub UsesBy : Course → List Answer → Acts → Type 0
UsesBy waits answers p = (length p.wants ≡ length answers + 1) × (p.answers ≡ [])
UsesBy _ answers p = (length p.wants ≤ length answers) × (p.answers ≡ drop (length p.wants) answers)

abbrev pub AnswersInOrder : Type 0
AnswersInOrder =
    (s : DeskState) (token : ℕ) (m : MessageData) (actions : List Action) (answers : List Answer) (memory : Option ℕ)
    → UsesBy (acts s token m actions answers memory).course answers (acts s token m actions answers memory)

-- ---- the reply
-- once there is one, no further action makes another
abbrev pub FirstReplyStays : Type 0
FirstReplyStays =
    (token : ℕ) (m : MessageData) (memory : Option ℕ) (place : ℕ) (actions : List Action) (p : Acts) (reply : MessageData)
    → p.reply ≡ Some reply
    → (acts_on token m memory place actions p).reply ≡ Some reply

-- it is made by a reply action that is come to with no reply made before, and that finds memory
pub record IsFirstReply (s : DeskState) (token : ℕ) (m : MessageData) (actions : List Action) (answers : List Answer) (memory : Option ℕ) (reply : MessageData) : Type 0 where
  pub before : List Action
  pub template : Template
  pub behind : List Action
  pub parts : actions ≡ before ++ action.Reply template ∷ behind
  pub comes : (acts s token m before answers memory).course ≡ goes_on
  pub none_before : (acts s token m before answers memory).reply ≡ None
  pub has_memory : is_at memory (length before) ≡ false
  -- of what its handler holds then
  pub made : reply ≡ built (row_of (acts s token m before answers memory).state token) m template

abbrev pub ReplyIsFirst : Type 0
ReplyIsFirst =
    (s : DeskState) (token : ℕ) (m : MessageData) (actions : List Action) (answers : List Answer) (memory : Option ℕ) (reply : MessageData)
    → ((acts s token m actions answers memory).reply ≡ Some reply) ↔ IsFirstReply s token m actions answers memory reply

-- ---- the calls, as a caller makes them
abbrev pub IsAsking : Want → Type 0
IsAsking want.Done = ⊥
IsAsking _ = Unit {0}

-- with the answers that are still to come: it is asked what it wants and given an answer, in turn, until it is done, an action of it
-- finds no memory, or there is no answer
pub data Calls : List Answer → InterpData → DeskState → Ran → Type 0 where
  is_done : (answers : List Answer) (i : InterpData) (s : DeskState) (j : InterpData) (t : DeskState) → next_of None i s ≡ nexted want.Done j t → Calls answers i s (finished j t answers)
  found_none : (answers : List Answer) (i : InterpData) (s : DeskState) (j : InterpData) (t : DeskState) → next_of (Some j.place) i s ≡ failed j t → Calls answers i s (finished j t answers)
  got_none : (i : InterpData) (s : DeskState) (w : Want) (j : InterpData) (t : DeskState) → IsAsking w → next_of None i s ≡ nexted w j t → Calls [] i s (unanswered w j t)
  got_one : (a : Answer) (rest : List Answer) (i : InterpData) (s : DeskState) (w : Want) (j : InterpData) (t : DeskState) (r : Ran) → IsAsking w → next_of None i s ≡ nexted w j t → Calls rest (give_of j t a).interp (give_of j t a).state r → Calls (a ∷ rest) i s (wanting w r)

-- where none of its actions found no memory, or the one at some place
abbrev pub CallsAct : Type 0
CallsAct =
    (s : DeskState) (m : MessageData) (token reaction : ℕ) (answers : List Answer) (r : Ran)
    → Calls answers (started m token reaction) s r
    → (memory : Option ℕ) × (r ≡ ran_of (acts s token m (actions_of s token reaction) answers memory))
