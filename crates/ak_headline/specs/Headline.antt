-- What holds of every run that ended, whatever the schedule: clause by clause.
use Rattle.std.specs.Prelude.{◌≡◌, ◌<◌, ◌⊎◌, ◌||◌, ℕ, suc, Bool, true, false, List, [], ◌∷◌, ◌++◌, length, Contains, None, Some}
use Rattle.ak_flatten.specs.Item.{ItemData}
use Rattle.ak_roster.specs.declared.head.AppHead.{AppHead}
use Rattle.ak_port.specs.declared.reply_entry.ReplyEntry.{ReplyEntry}
use Rattle.ak_port.specs.declared.reply_entry.ReplyEvent.TheVariants as slot
use Rattle.ak_port.specs.PortCalls.{PortData}
use Rattle.ak_action.specs.declared.answer.AnswerWord.{AnswerWord}
use Rattle.ak_action.specs.declared.state.DeskState.{DeskState}
use Rattle.ak_desk.specs.declared.entry.DeskEvent.{DeskEvent}
use Rattle.ak_desk.specs.declared.entry.DeskEvent.TheVariants as desk_event
use Rattle.ak_desk.specs.declared.entry.EntryRoute.{EntryRoute}
use Rattle.ak_desk.specs.Desk.{DeskData}
use Rattle.ak_desk.specs.Dispatch.{entry_route, ran_out}
use Rattle.ak_desk.specs.Entry.{EntryData}
use Rattle.ak_desk.specs.Machine.{Dispatches, IsHistory, dispatches, gives_up}
use Rattle.ak_desk.specs.Place.{routed_of}
use Rattle.ak_diary.specs.declared.histories.Histories.{Histories}
use Rattle.ak_diary.specs.Diary.{IsDiary}
use Rattle.ak_diary.specs.Laws.{IsAccountedFor, IsDispatchedSo}
use Rattle.ak_diary.specs.Looper.{LooperFacts}
use Rattle.ak_diary.specs.Step.{Step, book_sights}
use Rattle.ak_headline.specs.Answers.{GotOneReply, IsAccepted, WasWithdrawn}
use Rattle.ak_headline.specs.Run.{IsRunWith, IsSession}
use Rattle.ak_headline.specs.Diaries.{LoopersPay, LoopersSendSo, LoopersSendUp, LoopersTally, MainAsksSo, MainTallies, SessionsAskSo, SessionsTally}

-- of each looper, by their numbers from that one on, its port and its desk are so
abbrev pub Each : (ℕ → PortData → DeskData → Type 0) → ℕ → List PortData → List DeskData → Type 0
Each P number [] [] = Unit {0}
Each P number (port ∷ ports) (desk ∷ desks) = P number port desk × Each P (suc number) ports desks
Each P number _ _ = ⊥

abbrev pub EachLooper : Histories → (ℕ → PortData → DeskData → Type 0) → Type 0
EachLooper h P = Each P 0 h.ports.items h.desks.items

-- the messages that the looper dispatched, followed by those that it left, are exactly what its port accepted, in order and each once
abbrev pub IsAccounted : ℕ → PortData → DeskData → Type 0
IsAccounted number port desk = (l : LooperFacts) × (steps : List Step) × (diary : IsDiary l steps) × (l.number ≡ number) × IsAccountedFor l steps diary port.entries desk.entries

-- each was dispatched, by an entry of its desk's one list, as the routing rules say for the looper's handlers at that moment
abbrev pub IsByRule : ℕ → PortData → DeskData → Type 0
IsByRule number port desk =
    (l : LooperFacts) × (l.number ≡ number) × (l.desk ≡ desk.opening)
    × ((before : List EntryData) (entry : EntryData) (behind : List EntryData) (position : ℕ) (r : EntryRoute) (words : List AnswerWord) (quit : Bool)
    → desk.entries ≡ before ++ entry ∷ behind → entry.plain.event ≡ desk_event.Dispatched position r words quit → IsDispatchedSo l port.entries before entry position r words quit)

-- each accepted waiting send got one reply, the one that the rules make for it
abbrev pub EachGotOneReply : List ℕ → Histories → Type 0
EachGotOneReply short h = (n looper position : ℕ) (item : ItemData) → IsAccepted h n looper position item → GotOneReply h short n

-- ---- the reply book
-- the diary has no sight of the book without an entry: where the thread was to fill or to cancel a slot, it made that entry itself
abbrev pub MissesNone : List Step → Type 0
MissesNone steps = book_sights steps ≡ []

-- so it is of each thread of the run
pub record NoneIsMissing (sessions : ℕ) (heads : List AppHead) (short : List ℕ) (h : Histories) (run : IsRunWith sessions heads short h) : Type 0 where
  pub by_main : MissesNone run.main
  pub by_loopers : (looper : ℕ) (there : looper < length h.ports.items) → MissesNone (run.loopers looper there).steps
  pub by_sessions : (number : ℕ) (is : IsSession sessions number) → MissesNone (run.each_session number is).steps

-- each slot that was opened got one reply, or it was withdrawn
abbrev pub EachSlotEnds : List ℕ → Histories → Type 0
EachSlotEnds short h = (n : ℕ) (entry : ReplyEntry) → Contains h.book entry → entry.event ≡ slot.Opened n → GotOneReply h short n ⊎ WasWithdrawn h n

-- ---- want of memory
-- the dispatch was given up, or its last word tells that memory ran out
abbrev pub tells_want : DeskEvent → Bool
tells_want (desk_event.Dispatched position r words quit) = gives_up (desk_event.Dispatched position r words quit) || ran_out words
tells_want (desk_event.Edited edit answer) = false

-- the message comes to that with memory at every place
pub record DispatchesWithMemory (meets : DeskState) (item : ItemData) (words : List AnswerWord) (quit : Bool) (leaves : DeskState) : Type 0 where
  pub comes : Dispatches meets item words quit leaves
  pub memory : comes.memory ≡ None

-- the entry's message went where the rules send it, and came to what they make of it, with the handlers as the list before it leads to them
pub record WentWithMemory (opening : DeskState) (before : List EntryData) (entry : EntryData) (r : EntryRoute) (words : List AnswerWord) (quit : Bool) : Type 0 where
  pub item : ItemData
  pub item_is : entry.item ≡ Some item
  pub meets : DeskState
  pub leaves : DeskState
  pub leads_there : IsHistory opening before meets
  pub leads_on : IsHistory opening (before ++ entry ∷ []) leaves
  pub route : r ≡ entry_route meets (routed_of meets item).route
  pub dispatch : DispatchesWithMemory meets item words quit leaves

-- a dispatch whose entry tells want of memory is the last one of its desk, and its looper is among those that found no memory; each other
-- one went as the rules say with memory at every place
pub record TellsWantOfMemory (short : List ℕ) (number : ℕ) (port : PortData) (desk : DeskData) : Type 0 where
  pub told : (before : List EntryData) (entry : EntryData) (behind : List EntryData) → desk.entries ≡ before ++ entry ∷ behind → tells_want entry.plain.event ≡ true
      → Contains short number × (dispatches behind ≡ 0)
  pub others : (before : List EntryData) (entry : EntryData) (behind : List EntryData) (position : ℕ) (r : EntryRoute) (words : List AnswerWord) (quit : Bool)
      → desk.entries ≡ before ++ entry ∷ behind → entry.plain.event ≡ desk_event.Dispatched position r words quit → tells_want entry.plain.event ≡ false
      → WentWithMemory desk.opening before entry r words quit

-- ---- the laws
abbrev pub RunsAreAccounted : Type 0
RunsAreAccounted = (sessions : ℕ) (heads : List AppHead) (short : List ℕ) (h : Histories) → IsRunWith sessions heads short h → EachLooper h IsAccounted

abbrev pub RunsGoByRule : Type 0
RunsGoByRule = (sessions : ℕ) (heads : List AppHead) (short : List ℕ) (h : Histories) → IsRunWith sessions heads short h → EachLooper h IsByRule

abbrev pub RunsAnswer : Type 0
RunsAnswer = (sessions : ℕ) (heads : List AppHead) (short : List ℕ) (h : Histories) → IsRunWith sessions heads short h → EachGotOneReply short h

abbrev pub RunsTellWantOfMemory : Type 0
RunsTellWantOfMemory = (sessions : ℕ) (heads : List AppHead) (short : List ℕ) (h : Histories) → IsRunWith sessions heads short h → EachLooper h (TellsWantOfMemory short)

abbrev pub RunsMissNone : Type 0
RunsMissNone = (sessions : ℕ) (heads : List AppHead) (short : List ℕ) (h : Histories) (run : IsRunWith sessions heads short h) → NoneIsMissing sessions heads short h run

abbrev pub RunsEndSlots : Type 0
RunsEndSlots = (sessions : ℕ) (heads : List AppHead) (short : List ℕ) (h : Histories) → IsRunWith sessions heads short h → EachSlotEnds short h

-- that each accepted waiting send got one reply, by what the diaries tell of a slot
abbrev pub TalliesTellReplies : Type 0
TalliesTellReplies = LoopersTally → LoopersSendUp → LoopersPay → MainTallies → SessionsTally → LoopersSendSo → MainAsksSo → SessionsAskSo → RunsAnswer
