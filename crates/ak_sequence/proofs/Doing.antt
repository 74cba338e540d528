-- What a thread has to do, step by step of its diary: what a looper's has in hand, has left and owes, and the slot that it opened for an ask.
use Rattle.std.specs.Prelude.{◌≡◌, ◌<◌, ◌⊎◌, ℕ, true, List, [], ◌∷◌, ◌++◌, map, take, Contains, Option, None, Some}
use Rattle.ak_base.specs.Thread.{looper_thread}
use Rattle.ak_message.specs.Message.{MessageData}
use Rattle.ak_flatten.specs.declared.item.Duty.{Duty}
use Rattle.ak_flatten.specs.declared.item.Duty.TheVariants as duty
use Rattle.ak_flatten.specs.Item.{ItemData}
use Rattle.ak_flatten.specs.Spelling.{spelling}
use Rattle.ak_turn.specs.Noted.{Noted}
use Rattle.ak_port.specs.declared.port_entry.PortEntry.{PortEntry}
use Rattle.ak_port.specs.declared.port_entry.PortEvent.{PortEvent}
use Rattle.ak_port.specs.declared.port_entry.PortEvent.TheVariants as port_event
use Rattle.ak_port.specs.declared.reply_entry.ReplyEvent.{ReplyEvent}
use Rattle.ak_port.specs.declared.reply_entry.ReplyEvent.TheVariants as slot
use Rattle.ak_port.specs.PortMachine.{pending_items, state_of}
use Rattle.ak_port.specs.Reply.{none_text}
use Rattle.ak_action.specs.declared.answer.AnswerWord.{AnswerWord}
use Rattle.ak_action.specs.declared.state.DeskState.{DeskState}
use Rattle.ak_desk.specs.declared.entry.DeskEvent.{DeskEvent}
use Rattle.ak_desk.specs.declared.entry.DeskEvent.TheVariants as desk_event
use Rattle.ak_desk.specs.declared.entry.EntryRoute.{EntryRoute}
use Rattle.ak_desk.specs.Dispatch.{fitting}
use Rattle.ak_desk.specs.Entry.{EntryData}
use Rattle.ak_desk.specs.Machine.{IsHistory, StepReplies, paired}
use Rattle.ak_diary.specs.Step.{Step, at_roster, at_book, at_port, at_desk, saw_roster, saw_book, saw_port, lacked}
use Rattle.ak_diary.specs.Wants.{forwarded_item}
use Rattle.ak_world.specs.World.{Held, Work, held, lacks_memory, no_work, owed_for, settled}

-- the slot that it opened last, where it neither wrote an item with it nor cancelled it yet
pub record Doing : Type 0 where
  pub work : Work
  pub asking : Option ℕ

abbrev pub idle : Doing
idle = record { work = no_work; asking = None }

-- ---- among these that found no memory, with the desks opened so, the thread of that number
module _ (short : List ℕ) (openings : ℕ → DeskState) (thread : ℕ) where
  -- it fills the slot that it owes
  pub record FillsOwed (d : Doing) (n : ℕ) (text : List ℕ) (d' : Doing) : Type 0 where
    pub looper : ℕ
    pub is_by : thread ≡ looper_thread looper
    pub reply : MessageData
    pub owes : d.work.owed ≡ Some (record { slot = n; reply = Some reply })
    pub text_is : (text ≡ spelling (fitting reply)) ⊎ (Contains short looper × (text ≡ none_text))
    pub after : d' ≡ record d { work = record d.work { owed = None } }

  -- it fills the slot of an item that it left
  pub record FillsLeft (d : Doing) (n : ℕ) (text : List ℕ) (d' : Doing) : Type 0 where
    pub looper : ℕ
    pub is_by : thread ≡ looper_thread looper
    pub before : List Held
    pub one : Held
    pub behind : List Held
    pub left : d.work.left ≡ before ++ one ∷ behind
    pub owes : one.owing ≡ duty.Slot n
    pub text_is : text ≡ none_text
    pub after : d' ≡ record d { work = record d.work { left = before ++ settled one ∷ behind } }

  abbrev pub DoesAtBook : Doing → ReplyEvent → Doing → Type 0
  DoesAtBook d (slot.Opened n) d' = (d.asking ≡ None) × (d' ≡ record d { asking = Some n })
  DoesAtBook d (slot.Filled n text) d' = FillsOwed d n text d' ⊎ FillsLeft d n text d'
  DoesAtBook d (slot.Cancelled n) d' = (d.asking ≡ Some n) × (d' ≡ record d { asking = None })
  DoesAtBook d (slot.Taken n) d' = d' ≡ d

  -- the item of an ask, for which it opened the slot
  abbrev pub AsksIt : Doing → ℕ → Doing → Type 0
  AsksIt d n d' = (d.asking ≡ Some n) × (d' ≡ record d { asking = None })

  -- the first item in its hand is sent on
  pub record SendsItOn (d : Doing) (n : ℕ) (item : ItemData) (d' : Doing) : Type 0 where
    pub looper : ℕ
    pub is_by : thread ≡ looper_thread looper
    pub first : Held
    pub others : List Held
    pub oldest : d.work.hand ≡ first ∷ others
    pub owes : first.owing ≡ duty.Slot n
    pub popped : ℕ
    pub more : first.taken.item.popped < popped
    pub item_is : item ≡ forwarded_item first.taken.item popped
    pub after : d' ≡ record d { work = record d.work { hand = settled first ∷ others } }

  abbrev pub WritesIt : Doing → ItemData → Duty → Doing → Type 0
  WritesIt d item (duty.Slot n) d' = AsksIt d n d' ⊎ SendsItOn d n item d'
  WritesIt d item duty.None d' = d' ≡ d
  WritesIt d item (duty.Back to) d' = d' ≡ d

  -- so many of the items that were pending behind that list
  abbrev pub handed_then : List PortEntry → ℕ → List Held
  handed_then before count = map held (take count (pending_items (state_of before)))

  -- at the port of that looper, behind that list
  abbrev pub DoesAtPort : Doing → ℕ → List PortEntry → PortEvent → Doing → Type 0
  DoesAtPort d number before (port_event.Made capacity life) d' = d' ≡ d
  DoesAtPort d number before (port_event.Written position item) d' = WritesIt d item item.duty d'
  DoesAtPort d number before port_event.Full d' = d' ≡ d
  DoesAtPort d number before port_event.Refused d' = d' ≡ d
  DoesAtPort d number before port_event.Spent d' = d' ≡ d
  DoesAtPort d number before (port_event.Took count) d' =
      (thread ≡ looper_thread number) × (d' ≡ record d { work = record d.work { hand = d.work.hand ++ handed_then before count } })
  DoesAtPort d number before (port_event.Rest count) d' =
      (thread ≡ looper_thread number) × (d' ≡ record d { work = record d.work { hand = []; left = d.work.hand ++ handed_then before count } })
  DoesAtPort d number before port_event.Shut d' = d' ≡ d

  -- the first item in its hand is dispatched, and what is still owed for it, it owes then; where the entry tells that memory ran out, the
  -- looper is among those that found none
  pub record DispatchesIt (d : Doing) (number position : ℕ) (route : EntryRoute) (words : List AnswerWord) (n : Noted EntryData) (d' : Doing) : Type 0 where
    pub is_by : thread ≡ looper_thread number
    pub first : Held
    pub others : List Held
    pub oldest : d.work.hand ≡ first ∷ others
    pub position_is : position ≡ first.taken.position
    pub item_is : n.entry.item ≡ paired route first.taken.item
    pub owes_none : d.work.owed ≡ None
    pub meets : DeskState
    pub leads : IsHistory (openings number) n.before meets
    pub reply : Option MessageData
    pub replies : StepReplies meets route n.entry.item words reply
    pub lacks : lacks_memory route words ≡ true → Contains short number
    pub after : d' ≡ record d { work = record d.work { hand = others; owed = owed_for first.owing reply } }

  abbrev pub DoesAtDesk : Doing → ℕ → DeskEvent → Noted EntryData → Doing → Type 0
  DoesAtDesk d number (desk_event.Dispatched position route words quit) n d' = DispatchesIt d number position route words n d'
  DoesAtDesk d number (desk_event.Edited edit answer) n d' = d' ≡ d

  -- ---- a step
  abbrev pub Does : Doing → Step → Doing → Type 0
  Does d (at_roster n) d' = d' ≡ d
  Does d (at_book n) d' = DoesAtBook d n.entry.event d'
  Does d (at_port number n) d' = DoesAtPort d number n.before n.entry.event d'
  Does d (at_desk number n) d' = DoesAtDesk d number n.entry.plain.event n d'
  Does d (saw_roster seen) d' = d' ≡ d
  Does d (saw_book seen) d' = d' ≡ d
  Does d (saw_port number seen) d' = d' ≡ d
  Does d lacked d' = d' ≡ d

  -- step after step, from one to another
  abbrev pub DoesAll : Doing → List Step → Doing → Type 0
  DoesAll d [] d' = d' ≡ d
  DoesAll d (step ∷ steps) d' = (between : Doing) × Does d step between × DoesAll between steps d'
