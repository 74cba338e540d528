-- What contracts see of a desk, and what each call makes of it.
use Rattle.std.specs.Prelude.{◌≡◌, ℕ, ◌+◌, ◌≤◌, Bool, true, false, is_some, if◌then◌else◌, List, [], ◌∷◌, ◌++◌, Option, None, Some, IsSome, option_map, slice_get}
use Rattle.ak_base.specs.declared.thread.ThreadId.{ThreadId}
use Rattle.ak_flatten.specs.Item.{ItemData, message_of}
use Rattle.ak_flatten.specs.declared.item.Taken.{Taken}
use Rattle.ak_turn.specs.declared.clock.Clock.{Clock}
use Rattle.ak_turn.specs.Called as at_lock
use Rattle.ak_turn.specs.Entries.{last_stamp_of}
use Rattle.ak_message.specs.Fields.{specifier_count}
use Rattle.ak_message.specs.Message.{MessageData}
use Rattle.ak_route.specs.declared.outcome.Route.TheVariants as routes
use Rattle.ak_route.specs.declared.outcome.Taker.TheVariants as taker
use Rattle.ak_action.specs.declared.action.Action.TheVariants as action
use Rattle.ak_action.specs.declared.action.Dest.{Dest}
use Rattle.ak_action.specs.declared.answer.Answer.{Answer}
use Rattle.ak_action.specs.declared.answer.AnswerWord.{AnswerWord}
use Rattle.ak_action.specs.declared.answer.AnswerWord.TheVariants as answer_word
use Rattle.ak_action.specs.declared.answer.Answer.TheVariants as answer
use Rattle.ak_action.specs.declared.answer.Want.{Want}
use Rattle.ak_action.specs.declared.answer.Want.TheVariants as want
use Rattle.ak_action.specs.declared.state.DeskState.{DeskState}
use Rattle.ak_action.specs.declared.template.Template.{Template}
use Rattle.ak_action.specs.Acts.{taken_in}
use Rattle.ak_action.specs.Doing.{into_place, row_of}
use Rattle.ak_action.specs.Interp.{AnswersFind, actions_of}
use Rattle.ak_desk.specs.declared.entry.DeskEvent.{DeskEvent}
use Rattle.ak_desk.specs.declared.entry.DeskEvent.TheVariants as event
use Rattle.ak_desk.specs.declared.entry.Edit.{Edit}
use Rattle.ak_desk.specs.declared.entry.EditAnswer.{EditAnswer}
use Rattle.ak_desk.specs.declared.entry.EditAnswer.TheVariants as answered
use Rattle.ak_desk.specs.declared.entry.EntryRoute.{EntryRoute}
use Rattle.ak_desk.specs.declared.entry.EntryRoute.TheVariants as went
use Rattle.ak_desk.specs.declared.made.Made.{Made}
use Rattle.ak_desk.specs.Answering.{AnswersAsk, AnswersForward, AnswersPost, AreAnswered}
use Rattle.ak_desk.specs.Dispatch.{Came, Dispatch, came_to, dispatch_of, entry_route, fitting, ran_out}
use Rattle.ak_desk.specs.Entry.{EntryData}
use Rattle.ak_desk.specs.Machine.{Dispatches, Edited, IsHistory, Replies, dispatches, edit_of, gave_up}
use Rattle.ak_desk.specs.Place.{routed_of}
use Rattle.ak_desk.specs.Replies.{none_reply}

-- a message that is being carried out
pub record BegunData : Type 0 where
  pub position : ℕ
  pub item : ItemData
  -- the state in which it began
  pub before : DeskState
  pub route : EntryRoute
  -- what was asked for outside, and what was answered, in order
  pub asked : List Want
  pub heard : List Answer
  -- what it came to, once nothing is left to do
  pub came : Option Came

pub record DeskData : Type 0 where
  pub opening : DeskState
  pub state : DeskState
  pub entries : List EntryData
  pub begun : Option BegunData

abbrev pub opened : DeskState → DeskData
opened s = record { opening = s; state = s; entries = []; begun = None }

-- ---- beginning
abbrev pub begun_at : DeskState → Taken → BegunData
begun_at s taken =
    record {
      position = taken.position;
      item = taken.item;
      before = s;
      route = entry_route s (routed_of s taken.item).route;
      asked = [];
      heard = [];
      came = None;
    }

abbrev pub begun_with : DeskData → Taken → DeskData
begun_with d taken = record d { begun = Some (begun_at d.state taken) }

-- ---- what a message that is begun has come to
-- it waits for an answer, having asked for these, and no answer is left
pub record IsWaiting (p : Dispatch) (asked : List Want) (s : DeskState) : Type 0 where
  pub wants : p.wants ≡ asked
  pub state : p.state ≡ s
  pub used : p.answers ≡ []
  pub waits : p.waits ≡ true

abbrev pub StandsAt : Dispatch → List Want → DeskState → Option Came → Type 0
StandsAt p asked s None = IsWaiting p asked s
StandsAt p asked s (Some c) = p ≡ came_to asked c s

-- it and the handlers are what its dispatch makes of them with the answers so far, where memory ran out at that place or nowhere
abbrev pub IsCarried : Option ℕ → BegunData → DeskState → Type 0
IsCarried memory b s = StandsAt (dispatch_of b.before b.item b.heard memory) b.asked s b.came

-- ---- going on
abbrev pub OfBegun : (BegunData → Type 0) → Option BegunData → Type 0
OfBegun p None = ⊥
OfBegun p (Some b) = p b

-- from the message and the handlers before to those after
abbrev pub Turns : (BegunData → DeskState → BegunData → DeskState → Type 0) → DeskData → DeskData → Type 0
Turns p d d' = OfBegun (λ (b : BegunData). OfBegun (λ (b' : BegunData). p b d.state b' d'.state) d'.begun) d.begun

-- nothing was left to do, and all stays
pub record StaysDone (w : Want) (b : BegunData) (s : DeskState) (b' : BegunData) (s' : DeskState) : Type 0 where
  pub done : w ≡ want.Done
  pub message : b' ≡ b
  pub state : s' ≡ s

-- it came to an end
pub record Ends (memory : Option ℕ) (b b' : BegunData) (s' : DeskState) : Type 0 where
  pub came : Came
  pub message : b' ≡ record b { came = Some came }
  pub carried : IsCarried memory b' s'

-- that is what it asks for next
pub record Asks (w : Want) (b b' : BegunData) (s' : DeskState) : Type 0 where
  pub message : b' ≡ record b { asked = b.asked ++ w ∷ [] }
  pub carried : IsCarried None b' s'

abbrev pub GoesOn : Option Came → Want → BegunData → DeskState → BegunData → DeskState → Type 0
GoesOn (Some c) w b s b' s' = StaysDone w b s b' s'
GoesOn None want.Done b s b' s' = Ends None b b' s'
GoesOn None (want.Find word) b s b' s' = Asks (want.Find word) b b' s'
GoesOn None (want.Post to m back) b s b' s' = Asks (want.Post to m back) b b' s'
GoesOn None (want.Ask to m) b s b' s' = Asks (want.Ask to m) b b' s'
GoesOn None (want.Forward looper popped) b s b' s' = Asks (want.Forward looper popped) b b' s'

-- the answer to `want`: what is wanted next, or that nothing is left to do; what was asked so far, and the handlers, are what the
-- dispatch has with the answers so far
abbrev pub Wants : Want → BegunData → DeskState → BegunData → DeskState → Type 0
Wants w b s b' s' = GoesOn b.came w b s b' s'

-- it came to an end where memory ran out at that place, which its last word tells; with memory there, these answers would not have it
-- tell so
pub record RunsOut (b b' : BegunData) (s' : DeskState) : Type 0 where
  pub place : ℕ
  pub ends : Ends (Some place) b b' s'
  pub word : ran_out ends.came.words ≡ true
  pub without : ran_out (dispatch_of b.before b.item b.heard None).words ≡ false

abbrev pub FailsFrom : Option Came → BegunData → DeskState → BegunData → DeskState → Type 0
FailsFrom (Some c) b s b' s' = ⊥
FailsFrom None b s b' s' = RunsOut b b' s'

abbrev pub Fails : BegunData → DeskState → BegunData → DeskState → Type 0
Fails b s b' s' = FailsFrom b.came b s b' s'

-- the action at that place of that reaction of the handler asks, and has the result of its reply go there: into that property, or
-- nowhere
pub record AsksInto (s : DeskState) (token reaction place : ℕ) (into : Option ℕ) : Type 0 where
  pub to : Dest
  pub message : Template
  pub property : Option (List ℕ)
  pub action_is : slice_get (actions_of s token reaction) place ≡ Some (action.Ask to message property)
  pub into_is : into ≡ into_place (row_of s token) property

-- how many actions are carried out, by the words for them: an application that is looked for is a word of its own before the last one
abbrev pub actions_told : List AnswerWord → ℕ
actions_told [] = 0
actions_told (answer_word.Error e ∷ words) = actions_told words + 1
actions_told (answer_word.Reply flat ∷ words) = actions_told words + 1
actions_told (answer_word.Team team ∷ words) = actions_told words
actions_told (answer_word.NoTeam ∷ words) = actions_told words

-- the result of the reply goes where the ask that waits has it go: the action of the reaction behind those that are carried out
pub record TakesIn (m : MessageData) (b : BegunData) (s s' : DeskState) : Type 0 where
  pub token : ℕ
  pub reaction : ℕ
  pub goes_to : b.route ≡ went.To token
  pub routed : (routed_of b.before b.item).route ≡ routes.Deliver token (taker.Reaction reaction)
  pub into : Option ℕ
  pub asks : AsksInto s token reaction (actions_told (dispatch_of b.before b.item b.heard None).words) into
  pub state : s' ≡ taken_in s token into m

-- another answer leaves the handlers as they are
abbrev pub IsTakenIn : Answer → BegunData → DeskState → DeskState → Type 0
IsTakenIn (answer.Reply flat m) b s s' = TakesIn m b s s'
IsTakenIn _ b s s' = s' ≡ s

-- the answer is one more that was heard
pub record Hears (a : Answer) (b : BegunData) (s : DeskState) (b' : BegunData) (s' : DeskState) : Type 0 where
  pub message : b' ≡ record b { heard = b.heard ++ a ∷ [] }
  pub state : IsTakenIn a b s s'

-- what is sent on has as many specifiers popped as the item or more, and no more than its message has
abbrev pub Forwards : Want → BegunData → Type 0
Forwards (want.Forward looper popped) b = (b.item.popped ≤ popped) × (popped ≤ specifier_count (message_of b.item).fields)
Forwards _ b = Unit {0}

-- ---- what is asked of a caller
-- a message is begun, and each want has its answer
abbrev pub DeskMayWant : DeskData → Type 0
DeskMayWant d = OfBegun (λ (b : BegunData). AreAnswered b.asked b.heard) d.begun

-- with this answer each want has its answer
abbrev pub DeskTakes : DeskData → Answer → Type 0
DeskTakes d a = OfBegun (λ (b : BegunData). AreAnswered b.asked (b.heard ++ a ∷ [])) d.begun

-- nothing is left to do
abbrev pub DeskIsDone : DeskData → Type 0
DeskIsDone d = OfBegun (λ (b : BegunData). IsSome b.came) d.begun

-- each answer to that want may come, and where nothing is wanted, nothing is left to do
abbrev pub DeskAwaits : Want → DeskData → Type 0
DeskAwaits want.Done d = DeskIsDone d
DeskAwaits (want.Find _) d = (a : Answer) → AnswersFind a → DeskTakes d a
DeskAwaits (want.Post _ _ _) d = (a : Answer) → AnswersPost a → DeskTakes d a
DeskAwaits (want.Ask _ _) d = (a : Answer) → AnswersAsk a → DeskTakes d a
DeskAwaits (want.Forward _ _) d = (a : Answer) → AnswersForward a → DeskTakes d a

-- ---- a new entry, in the words for every object
abbrev pub stamp_number : EntryData → ℕ
stamp_number entry = entry.plain.stamp

-- the entry with that stamp, thread and event, and the item of a dispatch
abbrev pub entry_with : Option ItemData → ℕ → ThreadId → DeskEvent → EntryData
entry_with item stamp by e = record { plain = record { stamp = stamp; by = by; event = e }; item = item }

abbrev pub stamp_in : List EntryData → ℕ
stamp_in entries = last_stamp_of stamp_number entries

abbrev pub stamp_after : List EntryData → Clock → ℕ
stamp_after entries clock = at_lock.stamp_due stamp_number clock entries

-- the clock of the thread, and the item of a dispatch
abbrev pub entry_after : List EntryData → Clock → DeskEvent → Option ItemData → EntryData
entry_after entries clock e item = at_lock.entry_now stamp_number (entry_with item) clock entries e

abbrev pub with_entry : DeskData → Clock → DeskEvent → Option ItemData → DeskData
with_entry d clock e item = record d { entries = d.entries ++ entry_after d.entries clock e item ∷ [] }

abbrev pub clock_after : DeskData → Clock → Clock
clock_after d clock = at_lock.clock_after stamp_number clock d.entries

-- ---- ending
abbrev pub words_in : Option Came → List AnswerWord
words_in None = []
words_in (Some c) = c.words

abbrev pub quit_in : Option Came → Bool
quit_in None = false
quit_in (Some c) = c.quit

abbrev pub ended_event : BegunData → DeskEvent
ended_event b = event.Dispatched b.position b.route (words_in b.came) (quit_in b.came)

abbrev pub ended_by : DeskData → Clock → Option BegunData → DeskData
ended_by d clock None = d
ended_by d clock (Some b) = with_entry (record d { begun = None }) clock (ended_event b) (Some b.item)

-- with the entry of what was begun
abbrev pub ended : DeskData → Clock → DeskData
ended d clock = ended_by d clock d.begun

abbrev pub made_of : Came → Made
made_of c =
    record {
      reply = option_map fitting c.reply;
      forwarded = if is_some c.reply then false else true;
      quit = c.quit;
      no_memory = ran_out c.words;
    }

-- nothing came of it
abbrev pub made_nothing : Made
made_nothing = record { reply = None; forwarded = false; quit = false; no_memory = false }

abbrev pub made_in : Option Came → Made
made_in None = made_nothing
made_in (Some c) = made_of c

abbrev pub made_by : Option BegunData → Made
made_by None = made_nothing
made_by (Some b) = made_in b.came

abbrev pub dispatched_entry : List EntryData → Clock → ℕ → ItemData → DeskState → List AnswerWord → Bool → EntryData
dispatched_entry entries clock position item before words quit =
    entry_after entries clock (event.Dispatched position (entry_route before (routed_of before item).route) words quit) (Some item)

-- The message at that position was dispatched: the list leads from the opening to the state before it, and goes on by its one entry,
-- with the route of that state, the words and the quit mark, to the state after it; what it made is told by these and by the one reply
-- that goes with them. It asked for these, and heard these answers
pub record HasDispatched (clock clock' : Clock) (position : ℕ) (item : ItemData) (asked : List Want) (heard : List Answer) (opening before after : DeskState) (entries entries' : List EntryData) (made : Made) : Type 0 where
  pub history : IsHistory opening entries before
  pub position_is : position ≡ dispatches entries
  pub words : List AnswerWord
  pub quit : Bool
  pub dispatch : Dispatches before item words quit after
  pub heard_are : dispatch.answers ≡ heard
  pub asked_are : (dispatch_of before item dispatch.answers dispatch.memory).wants ≡ asked
  pub reply : Option MessageData
  pub told : (dispatch_of before item dispatch.answers dispatch.memory).reply ≡ reply
  pub replies : Replies before item words reply
  pub grown : entries' ≡ entries ++ dispatched_entry entries clock position item before words quit ∷ []
  pub goes_on : IsHistory opening entries' after
  pub clocked : clock' ≡ at_lock.clock_after stamp_number clock entries
  pub made_is : made ≡ made_of (record { words = words; reply = reply; quit = quit })

-- of what was begun
abbrev pub EndsDispatch : Clock → Clock → DeskData → DeskData → Made → BegunData → Type 0
EndsDispatch clock clock' d d' made b = HasDispatched clock clock' b.position b.item b.asked b.heard d.opening b.before d'.state d.entries d'.entries made

-- ---- giving up
abbrev pub given_up_event : ℕ → DeskEvent
given_up_event position = event.Dispatched position went.NoMemory [] false

abbrev pub given_up : DeskData → Clock → Taken → DeskData
given_up d clock taken = with_entry d clock (given_up_event taken.position) None

-- the reply is NONE
abbrev pub made_without_memory : Made
made_without_memory = record { reply = Some none_reply; forwarded = false; quit = false; no_memory = true }

-- it is paired with no message
abbrev pub given_up_entry : List EntryData → Clock → ℕ → EntryData
given_up_entry entries clock position = entry_after entries clock (given_up_event position) None

-- The message at that position was given up, as none was before: the list leads from the opening to the state, and goes on by the one
-- entry, without words, to the same state
pub record HasGivenUp (clock clock' : Clock) (position : ℕ) (opening state : DeskState) (entries entries' : List EntryData) (made : Made) : Type 0 where
  pub history : IsHistory opening entries state
  pub once : gave_up entries ≡ false
  pub position_is : position ≡ dispatches entries
  pub grown : entries' ≡ entries ++ given_up_entry entries clock position ∷ []
  pub goes_on : IsHistory opening entries' state
  pub clocked : clock' ≡ at_lock.clock_after stamp_number clock entries
  pub made_is : made ≡ made_without_memory

abbrev pub GivesUp : Clock → Clock → DeskData → DeskData → Taken → Made → Type 0
GivesUp clock clock' d d' taken made = HasGivenUp clock clock' taken.position d.opening d.state d.entries d'.entries made

-- ---- edits
abbrev pub edited_to : DeskData → Clock → Edit → Edited → DeskData
edited_to d clock e r = with_entry (record d { state = record d.state { handlers = r.handlers } }) clock (event.Edited e r.answer) None

-- without memory nothing changes; else it is what the handlers give, and there is an entry, also of a refusal
abbrev pub Edits : DeskData → Clock → Edit → EditAnswer → DeskData → Clock → Type 0
Edits d clock e answered.NoMemory d' clock' = (d' ≡ d) × (clock' ≡ clock)
Edits d clock e answer d' clock' =
    (answer ≡ (edit_of d.state.handlers e).answer) × (d' ≡ edited_to d clock e (edit_of d.state.handlers e)) × (clock' ≡ clock_after d clock)

-- the entry that an edit's answer tells; none without memory
abbrev pub edit_entry : Edit → EditAnswer → Option DeskEvent
edit_entry e answered.NoMemory = None
edit_entry e answer = Some (event.Edited e answer)

-- that entry more; the handlers may be others
abbrev pub HasOneMore : DeskData → EntryData → DeskData → Type 0
HasOneMore d entry d' = (d'.opening ≡ d.opening) × (d'.entries ≡ d.entries ++ entry ∷ []) × (d'.begun ≡ d.begun)

-- one entry more of no message, or none
abbrev pub HasAdded : Option DeskEvent → Clock → Clock → DeskData → DeskData → Type 0
HasAdded e clock clock' d d' = at_lock.HasAdded stamp_number (entry_with None) (λ (x : DeskData). x.entries) HasOneMore e clock clock' d d'
