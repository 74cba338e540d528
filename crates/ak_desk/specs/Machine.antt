-- The machine of a desk: which entry may follow, and what it makes of the handlers.
use Rattle.std.specs.Prelude.{◌≡◌, ℕ, ◌+◌, Bool, true, false, List, [], ◌∷◌, All, Option, None, Some}
use Rattle.std.specs.List.{list_any}
use Rattle.ak_base.specs.Thread.{looper_thread}
use Rattle.ak_handler.specs.declared.fault.HandlerFault.{HandlerFault}
use Rattle.ak_handler.specs.declared.fault.HandlerFault.TheVariants as fault
use Rattle.ak_handler.specs.Handlers.{HandlersData}
use Rattle.ak_handler.specs.Changes.{add_fault, with_handler, remove_fault, without_handler, next_fault, with_next, preferred_fault}
use Rattle.ak_flatten.specs.Item.{ItemData}
use Rattle.ak_message.specs.Message.{MessageData}
use Rattle.ak_action.specs.declared.answer.Answer.{Answer}
use Rattle.ak_action.specs.declared.answer.AnswerWord.{AnswerWord}
use Rattle.ak_action.specs.declared.state.DeskState.{DeskState}
use Rattle.ak_action.specs.Laws.{IsSpelled}
use Rattle.ak_action.specs.declared.row.DeskRow.{DeskRow}
use Rattle.ak_action.specs.Row.{empty_row}
use Rattle.ak_turn.specs.Stamps.{Rise}
use Rattle.ak_desk.specs.declared.entry.DeskEvent.{DeskEvent}
use Rattle.ak_desk.specs.declared.entry.DeskEvent.TheVariants as event
use Rattle.ak_desk.specs.declared.entry.Edit.{Edit}
use Rattle.ak_desk.specs.declared.entry.Edit.TheVariants as edit
use Rattle.ak_desk.specs.declared.entry.EditAnswer.{EditAnswer}
use Rattle.ak_desk.specs.declared.entry.EditAnswer.TheVariants as answered
use Rattle.ak_desk.specs.declared.entry.EntryRoute.{EntryRoute}
use Rattle.ak_desk.specs.declared.entry.EntryRoute.TheVariants as went
use Rattle.ak_desk.specs.Answering.{AreAnswered}
use Rattle.ak_desk.specs.Dispatch.{dispatch_of, entry_route}
use Rattle.ak_desk.specs.Entry.{EntryData}
use Rattle.ak_desk.specs.Place.{routed_of}
use Rattle.ak_desk.specs.Replies.{none_reply}

-- ---- edits
pub record Edited : Type 0 where
  pub answer : EditAnswer
  pub handlers : HandlersData DeskRow

-- refused, which changes nothing, or done
abbrev pub edited : HandlersData DeskRow → Option HandlerFault → EditAnswer → HandlersData DeskRow → Edited
edited h (Some f) answer t = record { answer = answered.Refused f; handlers = h }
edited h None answer t = record { answer = answer; handlers = t }

abbrev pub edit_of : HandlersData DeskRow → Edit → Edited
edit_of h (edit.Add name) = edited h (add_fault h name) (answered.Token h.next_token) (with_handler h name empty_row)
edit_of h (edit.Remove token) = edited h (remove_fault h token) answered.Done (without_handler h token)
edit_of h (edit.Next token next) = edited h (next_fault h token next) answered.Done (with_next h token next)
edit_of h (edit.Prefer token) = edited h (preferred_fault h token) answered.Done (record h { preferred = token })

abbrev pub is_no_memory : EditAnswer → Bool
is_no_memory answered.NoMemory = true
is_no_memory _ = false

abbrev pub refusal : HandlerFault → EditAnswer
refusal fault.NoMemory = answered.NoMemory
refusal f = answered.Refused f

-- without memory nothing changes
abbrev pub EditsHandlers : HandlersData DeskRow → Edit → EditAnswer → HandlersData DeskRow → Type 0
EditsHandlers h e answered.NoMemory t = t ≡ h
EditsHandlers h e answer t = edit_of h e ≡ record { answer = answer; handlers = t }

-- ---- dispatches
-- for some answers, each to the want at its place, that were all used, and where memory may have run out at some place, it comes to
-- these words, this quit mark and this state
pub record Dispatches (s : DeskState) (item : ItemData) (words : List AnswerWord) (quit : Bool) (t : DeskState) : Type 0 where
  pub answers : List Answer
  pub memory : Option ℕ
  -- the flat text of a reply spells its message
  pub spelled : All IsSpelled answers
  -- each is one that may come to the want at its place
  pub answered : AreAnswered (dispatch_of s item answers memory).wants answers
  pub waits : (dispatch_of s item answers memory).waits ≡ false
  pub used : (dispatch_of s item answers memory).answers ≡ []
  pub words_are : (dispatch_of s item answers memory).words ≡ words
  pub quit_is : (dispatch_of s item answers memory).quit ≡ quit
  pub state_is : (dispatch_of s item answers memory).state ≡ t

-- that is its reply, before it is made to fit; none where the message was sent on
pub record Replies (s : DeskState) (item : ItemData) (words : List AnswerWord) (reply : Option MessageData) : Type 0 where
  pub quit : Bool
  pub leaves : DeskState
  pub dispatch : Dispatches s item words quit leaves
  pub is : (dispatch_of s item dispatch.answers dispatch.memory).reply ≡ reply

-- what an entry of a dispatch of that item is paired with: the item; nothing where there was no memory to begin with it
abbrev pub paired : EntryRoute → ItemData → Option ItemData
paired went.NoMemory item = None
paired r item = Some item

-- an entry of a dispatch has its item; where there was no memory to begin it has no item and no words, and nothing changes
abbrev pub DispatchStep : DeskState → EntryRoute → Option ItemData → List AnswerWord → Bool → DeskState → Type 0
DispatchStep s went.NoMemory None words quit t = (words ≡ []) × ((quit ≡ false) × (t ≡ s))
DispatchStep s went.NoMemory (Some item) words quit t = ⊥
DispatchStep s r None words quit t = ⊥
DispatchStep s r (Some item) words quit t = (r ≡ entry_route s (routed_of s item).route) × Dispatches s item words quit t

-- the reply of such an entry; where there was no memory to begin, it is NONE, whatever the item
abbrev pub StepReplies : DeskState → EntryRoute → Option ItemData → List AnswerWord → Option MessageData → Type 0
StepReplies s went.NoMemory item words reply = reply ≡ Some none_reply
StepReplies s r None words reply = ⊥
StepReplies s r (Some item) words reply = Replies s item words reply

-- ---- one entry, of the looper with that number, after so many dispatches
abbrev pub EventStep : ℕ → DeskState → DeskEvent → Option ItemData → DeskState → Type 0
EventStep n s (event.Dispatched position r words quit) item t = (position ≡ n) × DispatchStep s r item words quit t
EventStep n s (event.Edited e answer) item t = (item ≡ None) × ((edit_of s.handlers e).answer ≡ answer) × (t ≡ record s { handlers = (edit_of s.handlers e).handlers })

-- a dispatch is by the looper's own thread
abbrev pub IsBy : ℕ → ℕ → DeskEvent → Type 0
IsBy looper by (event.Dispatched _ _ _ _) = by ≡ looper_thread looper
IsBy looper by (event.Edited _ _) = Unit {0}

pub record DeskStep (looper n : ℕ) (s : DeskState) (entry : EntryData) (t : DeskState) : Type 0 where
  pub by : IsBy looper entry.plain.by.0 entry.plain.event
  pub event : EventStep n s entry.plain.event entry.item t

-- ---- the whole list
abbrev pub counted : ℕ → DeskEvent → ℕ
counted n (event.Dispatched _ _ _ _) = n + 1
counted n (event.Edited _ _) = n

-- with so many before
abbrev pub counted_all : ℕ → List EntryData → ℕ
counted_all n [] = n
counted_all n (entry ∷ entries) = counted_all (counted n entry.plain.event) entries

-- how many messages were dispatched
abbrev pub dispatches : List EntryData → ℕ
dispatches entries = counted_all 0 entries

-- from one state, with so many dispatches before, the list leads to another
abbrev pub Replays : ℕ → ℕ → DeskState → List EntryData → DeskState → Type 0
Replays looper n s [] t = t ≡ s
Replays looper n s (entry ∷ entries) t =
    (u : DeskState) × (DeskStep looper n s entry u × Replays looper (counted n entry.plain.event) u entries t)

-- the stamps rise, from past the one before
abbrev pub StampsRise : ℕ → List EntryData → Type 0
StampsRise last entries = Rise (λ (entry : EntryData). entry.plain.stamp) last entries

-- from that opening the list leads to this state
pub record IsHistory (opening : DeskState) (entries : List EntryData) (state : DeskState) : Type 0 where
  pub replays : Replays opening.looper 0 opening entries state
  pub stamps : StampsRise 0 entries

-- ---- there was no memory to begin a dispatch
abbrev pub gives_up : DeskEvent → Bool
gives_up (event.Dispatched position went.NoMemory words quit) = true
gives_up _ = false

abbrev pub gave_up : List EntryData → Bool
gave_up entries = list_any (λ entry. gives_up entry.plain.event) entries
