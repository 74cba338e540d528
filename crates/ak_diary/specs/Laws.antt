-- What a looper's diary tells of the lists of its port and of its desk.
use Rattle.std.specs.Prelude.{◌≡◌, ◌⊎◌, ℕ, ◌+◌, ◌≤◌, Bool, false, List, [], ◌∷◌, ◌++◌, length, take, drop, All, Option, None, Some, slice_get}
use Rattle.ak_flatten.specs.declared.item.Taken.{Taken}
use Rattle.ak_flatten.specs.Item.{ItemData}
use Rattle.ak_turn.specs.Noted.{Noted, noted}
use Rattle.ak_port.specs.declared.port_entry.PortEntry.{PortEntry}
use Rattle.ak_port.specs.declared.port_entry.PortEvent.TheVariants as port_event
use Rattle.ak_port.specs.PortCalls as ports
use Rattle.ak_port.specs.PortMachine.{IsPort, state_of, written_in}
use Rattle.ak_port.specs.TakerLaws.{HasEnded, handed_at}
use Rattle.ak_action.specs.declared.answer.AnswerWord.{AnswerWord}
use Rattle.ak_action.specs.declared.state.DeskState.{DeskState}
use Rattle.ak_desk.specs.declared.entry.DeskEvent.{DeskEvent}
use Rattle.ak_desk.specs.declared.entry.DeskEvent.TheVariants as desk_event
use Rattle.ak_desk.specs.declared.entry.EntryRoute.{EntryRoute}
use Rattle.ak_desk.specs.declared.entry.EntryRoute.TheVariants as went
use Rattle.ak_desk.specs.Dispatch.{entry_route}
use Rattle.ak_desk.specs.Entry.{EntryData}
use Rattle.ak_desk.specs.Laws.{HasOneReply}
use Rattle.ak_desk.specs.Machine.{Dispatches, IsHistory, dispatches, paired}
use Rattle.ak_desk.specs.Place.{routed_of}
use Rattle.ak_desk.specs.Shared as desks
use Rattle.ak_desk.specs.Shared.{LeadsOn}
use Rattle.ak_diary.specs.Diary.{IsDiary}
use Rattle.ak_diary.specs.Looper.{LooperFacts, in_hand, taken_in, thread_of}
use Rattle.ak_diary.specs.Step.{Step, desk_entries, port_entries}
use Rattle.ak_diary.specs.Turns.{left_at}

-- ---- what is spoken of
-- the message of a dispatch: of those that the port accepted, the one at the position that the entry tells; an edit is of none
abbrev pub listed : Option Taken → List Taken
listed None = []
listed (Some taken) = taken ∷ []

abbrev pub dispatched_item : List Taken → DeskEvent → List Taken
dispatched_item accepted (desk_event.Dispatched position route words quit) = listed (slice_get accepted position)
dispatched_item accepted (desk_event.Edited edit answer) = []

-- the messages that the entries of a desk's list dispatched, in order, where the port accepted these
abbrev pub dispatched_items : List Taken → List EntryData → List Taken
dispatched_items accepted [] = []
dispatched_items accepted (entry ∷ entries) = dispatched_item accepted entry.plain.event ++ dispatched_items accepted entries

-- the messages that the looper left: what it had in hand at its end, and then the rest of its port
abbrev pub left_in : (l : LooperFacts) (steps : List Step) → IsDiary l steps → List Taken
left_in l steps diary = left_at l diary.work diary.ends.noted

-- the diary of the looper's thread has all that the thread did at its own port and at its own desk, whose lists are these two
pub record HasDiary (l : LooperFacts) (steps : List Step) (port : List PortEntry) (desk : List EntryData) : Type 0 where
  pub legal : IsDiary l steps
  pub port_legal : IsPort (thread_of l) port
  pub desk_legal : LeadsOn l.desk desk
  pub own_desk : l.desk.looper ≡ l.number
  pub port_told : noted ports.by_number (thread_of l) port ≡ port_entries l.number steps
  pub desk_told : noted desks.by_number (thread_of l) desk ≡ desk_entries l.number steps

-- ---- what a port accepted is what its looper dispatched, and then what it left
abbrev pub IsNoRest : PortEntry → Type 0
IsNoRest entry = ports.IsRest entry.event ≡ false

-- the rest was taken by that entry, and by no other; behind it nothing was written or taken; what was taken before it, and what it
-- took, are as many as were ever written
pub record TakesRestOnce (rest : Noted PortEntry) (count : ℕ) (port : List PortEntry) : Type 0 where
  pub event_is : rest.entry.event ≡ port_event.Rest count
  pub behind : List PortEntry
  pub is : port ≡ rest.before ++ rest.entry ∷ behind
  pub none_before : All IsNoRest rest.before
  pub none_behind : All IsNoRest behind
  pub ended : HasEnded (rest.before ++ rest.entry ∷ []) behind
  pub total : (state_of rest.before).taken + count ≡ length (written_in port)

pub record IsAccountedFor (l : LooperFacts) (steps : List Step) (diary : IsDiary l steps) (port : List PortEntry) (desk : List EntryData) : Type 0 where
  -- the messages that the looper dispatched, followed by those that it left, are exactly those that its port accepted, in order and each once
  pub accepted : written_in port ≡ dispatched_items (written_in port) desk ++ left_in l steps diary
  -- so the two lists tell which they are
  pub dispatched : dispatched_items (written_in port) desk ≡ take (dispatches desk) (written_in port)
  pub left : left_in l steps diary ≡ drop (dispatches desk) (written_in port)
  pub many : length (dispatched_items (written_in port) desk) ≡ dispatches desk
  pub most : dispatches desk ≤ length (written_in port)
  -- it took the rest once
  pub rest : TakesRestOnce diary.ends.noted diary.ends.count port
  -- so what its port accepted are the messages that it took one at a time, and then that rest
  pub took : written_in port ≡ taken_in l diary.work ++ handed_at diary.ends.noted
  -- and had nothing in hand then: all that it had taken before, it had dispatched
  pub none_in_hand : in_hand l diary.work ≡ []
  pub taken_before : (state_of diary.ends.noted.before).taken ≡ dispatches desk

abbrev pub AcceptedIsDispatchedThenLeft : Type 0
AcceptedIsDispatchedThenLeft =
    (l : LooperFacts) (steps : List Step) (port : List PortEntry) (desk : List EntryData) (has : HasDiary l steps port desk) → IsAccountedFor l steps has.legal port desk

-- ---- each was dispatched as the rules say for the handlers at that moment
-- where it went is where the rules send it, and what came of it is what they make of it
pub record WentByRule (meets : DeskState) (item : ItemData) (r : EntryRoute) (words : List AnswerWord) (quit : Bool) (leaves : DeskState) : Type 0 where
  pub route : r ≡ entry_route meets (routed_of meets item).route
  pub comes : Dispatches meets item words quit leaves

-- there was no memory to begin with it: nothing was done, and nothing changed
pub record WasGivenUp (meets : DeskState) (r : EntryRoute) (words : List AnswerWord) (quit : Bool) (leaves : DeskState) : Type 0 where
  pub route : r ≡ went.NoMemory
  pub wordless : words ≡ []
  pub goes_on : quit ≡ false
  pub unchanged : leaves ≡ meets

-- by the looper's own thread; of the message that its port accepted at that position, which is how many were dispatched before; with the
-- handlers as the list up to there makes them, and as it makes them with this entry; and exactly one reply goes with it. The entry is
-- paired with that message; with none where it was given up
pub record IsDispatchedSo (l : LooperFacts) (port : List PortEntry) (before : List EntryData) (entry : EntryData) (position : ℕ) (r : EntryRoute) (words : List AnswerWord) (quit : Bool) : Type 0 where
  pub by : entry.plain.by.0 ≡ thread_of l
  pub position_is : position ≡ dispatches before
  pub item : ItemData
  pub item_is : entry.item ≡ paired r item
  pub accepted : slice_get (written_in port) position ≡ Some (record { position = position; item = item })
  pub meets : DeskState
  pub leaves : DeskState
  pub leads_there : IsHistory l.desk before meets
  pub leads_on : IsHistory l.desk (before ++ entry ∷ []) leaves
  pub goes : WentByRule meets item r words quit leaves ⊎ WasGivenUp meets r words quit leaves
  pub reply : HasOneReply meets r (Some item) words

abbrev pub EachIsDispatchedByRule : Type 0
EachIsDispatchedByRule =
    (l : LooperFacts) (steps : List Step) (port : List PortEntry) (desk : List EntryData) → HasDiary l steps port desk
    → (before : List EntryData) (entry : EntryData) (behind : List EntryData) (position : ℕ) (r : EntryRoute) (words : List AnswerWord) (quit : Bool)
    → desk ≡ before ++ entry ∷ behind
    → entry.plain.event ≡ desk_event.Dispatched position r words quit
    → IsDispatchedSo l port before entry position r words quit
