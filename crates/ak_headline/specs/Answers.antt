-- Waiting sends, and the replies that they got.
use Rattle.std.specs.Prelude.{◌≡◌, ◌<◌, ◌≤◌, ◌==◌, ◌⊎◌, ℕ, suc, Bool, false, List, [], ◌∷◌, ◌++◌, Contains, filter, Option, None, Some, option_map, slice_get}
use Rattle.ak_base.specs.Thread.{looper_thread}
use Rattle.ak_message.specs.Message.{MessageData}
use Rattle.ak_flatten.specs.declared.item.Duty.{Duty}
use Rattle.ak_flatten.specs.declared.item.Duty.TheVariants as duty
use Rattle.ak_flatten.specs.Item.{ItemData}
use Rattle.ak_flatten.specs.Spelling.{spelling}
use Rattle.ak_port.specs.declared.port_entry.PortEntry.{PortEntry}
use Rattle.ak_port.specs.declared.port_entry.PortEvent.TheVariants as event
use Rattle.ak_port.specs.declared.reply_entry.ReplyEntry.{ReplyEntry}
use Rattle.ak_port.specs.declared.reply_entry.ReplyEvent.{ReplyEvent}
use Rattle.ak_port.specs.declared.reply_entry.ReplyEvent.TheVariants as slot
use Rattle.ak_port.specs.PortMachine.{written_in}
use Rattle.ak_port.specs.Reply.{fills, none_text, takes}
use Rattle.ak_action.specs.declared.answer.AnswerWord.{AnswerWord}
use Rattle.ak_action.specs.declared.state.DeskState.{DeskState}
use Rattle.ak_desk.specs.declared.entry.DeskEvent.TheVariants as desk_event
use Rattle.ak_desk.specs.declared.entry.EntryRoute.{EntryRoute}
use Rattle.ak_desk.specs.declared.entry.EntryRoute.TheVariants as went
use Rattle.ak_desk.specs.Desk.{DeskData}
use Rattle.ak_desk.specs.Dispatch.{fitting}
use Rattle.ak_desk.specs.Entry.{EntryData}
use Rattle.ak_desk.specs.Machine.{IsHistory, StepReplies, dispatches, paired}
use Rattle.ak_diary.specs.declared.histories.Histories.{Histories}
use Rattle.ak_diary.specs.Wants.{forwarded_item}
use Rattle.ak_headline.specs.Run.{desk_list, port_list}

-- ---- who waits
-- the duty is to fill that slot
abbrev pub owes : ℕ → Duty → Bool
owes n duty.None = false
owes n (duty.Slot m) = m == n
owes n (duty.Back to) = false

-- the looper's port accepted the item at that position, and who opened the slot waits for its reply
pub record IsAccepted (h : Histories) (n looper position : ℕ) (item : ItemData) : Type 0 where
  pub accepted : slice_get (written_in (port_list h looper)) position ≡ Some (record { position = position; item = item })
  pub owed : item.duty ≡ duty.Slot n

-- ---- what became of an item
-- The looper's port accepted the item at that position, and its desk has the dispatch of that position, which is paired with the item, or with
-- none where there was no memory to begin with it. By the rules, for the handlers that the list before it leads to, that is the reply that goes
-- with it, and no other; none where it was sent on
pub record IsDispatchOf (h : Histories) (looper position : ℕ) (item : ItemData) (reply : Option MessageData) : Type 0 where
  pub before : List EntryData
  pub entry : EntryData
  pub behind : List EntryData
  pub there : desk_list h looper ≡ before ++ entry ∷ behind
  pub route : EntryRoute
  pub words : List AnswerWord
  pub quit : Bool
  pub event_is : entry.plain.event ≡ desk_event.Dispatched position route words quit
  pub item_is : entry.item ≡ paired route item
  pub item_at : slice_get (written_in (port_list h looper)) position ≡ Some (record { position = position; item = item })
  pub opening : DeskState
  pub opened : option_map (λ (desk : DeskData). desk.opening) (slice_get h.desks.items looper) ≡ Some opening
  pub meets : DeskState
  pub leads_there : IsHistory opening before meets
  pub replies : StepReplies meets route (Some item) words reply
  pub alone : (other : Option MessageData) → StepReplies meets route (Some item) words other → other ≡ reply

-- it went to another looper, with all that is owed for it
abbrev pub WasSentOn : Histories → ℕ → ℕ → ItemData → Type 0
WasSentOn h looper position item = IsDispatchOf h looper position item None

-- an entry of the port wrote the item, and that thread made it
pub record WasWrittenBy (h : Histories) (looper position : ℕ) (item : ItemData) (thread : ℕ) : Type 0 where
  pub before : List PortEntry
  pub entry : PortEntry
  pub behind : List PortEntry
  pub there : port_list h looper ≡ before ++ entry ∷ behind
  pub event_is : entry.event ≡ event.Written position item
  pub by : entry.by.0 ≡ thread

-- The sender dispatched the one item, and sent it on as the other, to a looper of a greater number: it is the same but for its target, and
-- with as many of its specifiers popped or more
pub record WasSentAs (h : Histories) (sender place : ℕ) (given : ItemData) (looper position : ℕ) (item : ItemData) : Type 0 where
  pub up : sender < looper
  pub sent_on : WasSentOn h sender place given
  pub to_it : sent_on.route ≡ went.Forward looper
  pub popped : ℕ
  pub more : given.popped ≤ popped
  pub item_is : item ≡ forwarded_item given popped
  pub written : WasWrittenBy h looper position item (looper_thread sender)

-- it came from a looper that sent it on, whose port had accepted it
pub record CameFrom (h : Histories) (n looper position : ℕ) (item : ItemData) : Type 0 where
  pub sender : ℕ
  pub place : ℕ
  pub given : ItemData
  pub accepted : IsAccepted h n sender place given
  pub sent : WasSentAs h sender place given looper position item

-- it went on to a looper, whose port accepted it
pub record WentOn (h : Histories) (n sender place : ℕ) (given : ItemData) : Type 0 where
  pub looper : ℕ
  pub position : ℕ
  pub item : ItemData
  pub accepted : IsAccepted h n looper position item
  pub sent : WasSentAs h sender place given looper position item

-- it is the message that was asked, with as many of its specifiers popped or more
pub record IsSameMessage (asked item : ItemData) : Type 0 where
  pub flat : item.flat ≡ asked.flat
  pub team : item.team ≡ asked.team
  pub dropped : item.dropped ≡ asked.dropped
  pub more : asked.popped ≤ item.popped

-- that text is the reply that the rules make for the item
pub data IsAnswerTo (h : Histories) (short : List ℕ) (looper position : ℕ) (item : ItemData) (text : List ℕ) : Type 0 where
  -- it was dispatched, and the text is that of the reply, or of the error in its place where it is too long
  to_dispatched : (reply : MessageData) → IsDispatchOf h looper position item (Some reply) → text ≡ spelling (fitting reply) → IsAnswerTo h short looper position item text
  -- there was no memory for that text, which the looper's end tells; it was its last dispatch
  without_memory : (reply : MessageData) → IsDispatchOf h looper position item (Some reply) → dispatches (desk_list h looper) ≡ suc position → Contains short looper → text ≡ none_text
      → IsAnswerTo h short looper position item text
  -- it was left
  to_left : dispatches (desk_list h looper) ≤ position → text ≡ none_text → IsAnswerTo h short looper position item text

-- ---- the slot
abbrev pub opens : ℕ → ReplyEvent → Bool
opens n (slot.Opened m) = m == n
opens n (slot.Filled m flat) = false
opens n (slot.Cancelled m) = false
opens n (slot.Taken m) = false

abbrev pub cancels : ℕ → ReplyEvent → Bool
cancels n (slot.Opened m) = false
cancels n (slot.Filled m flat) = false
cancels n (slot.Cancelled m) = m == n
cancels n (slot.Taken m) = false

-- the entries of the reply book that do so
abbrev pub doing : (ReplyEvent → Bool) → List ReplyEntry → List ReplyEntry
doing does entries = filter (λ (entry : ReplyEntry). does entry.event) entries

-- Exactly one entry opened the slot, one filled it, one took from it, which is the opener's, and none cancelled it. The slot was filled by
-- the looper to whose port the item came last that has the duty to fill it, with the reply that the rules make for that item. Each other
-- item with this duty had been sent on. One of them the opener wrote, at the port of the least number; each other one is the same message,
-- and came from the looper that sent it on
pub record GotOneReply (h : Histories) (short : List ℕ) (n : ℕ) : Type 0 where
  pub opened : ReplyEntry
  pub opened_once : doing (opens n) h.book ≡ opened ∷ []
  pub filled : ReplyEntry
  pub filled_once : doing (fills n) h.book ≡ filled ∷ []
  pub taken : ReplyEntry
  pub taken_once : doing (takes n) h.book ≡ taken ∷ []
  pub by_opener : taken.by.0 ≡ opened.by.0
  pub not_cancelled : doing (cancels n) h.book ≡ []
  pub looper : ℕ
  pub position : ℕ
  pub item : ItemData
  pub last : IsAccepted h n looper position item
  pub by_looper : filled.by.0 ≡ looper_thread looper
  pub text : List ℕ
  pub text_is : filled.event ≡ slot.Filled n text
  pub by_rule : IsAnswerTo h short looper position item text
  pub others : (number at : ℕ) (other : ItemData) → IsAccepted h n number at other → ((number ≡ looper) × (at ≡ position)) ⊎ WasSentOn h number at other
  pub went_on : (number at : ℕ) (other : ItemData) → IsAccepted h n number at other → ((number ≡ looper) × (at ≡ position)) ⊎ WentOn h n number at other
  pub asked_looper : ℕ
  pub asked_position : ℕ
  pub asked : ItemData
  pub first : IsAccepted h n asked_looper asked_position asked
  pub by_asker : WasWrittenBy h asked_looper asked_position asked opened.by.0
  pub came : (number at : ℕ) (other : ItemData) → IsAccepted h n number at other → ((number ≡ asked_looper) × (at ≡ asked_position)) ⊎ CameFrom h n number at other
  pub least : (number at : ℕ) (other : ItemData) → IsAccepted h n number at other → asked_looper ≤ number
  pub same : (number at : ℕ) (other : ItemData) → IsAccepted h n number at other → IsSameMessage asked other

-- Exactly one entry opened the slot, and one cancelled it, which is the opener's. None filled it, and none took from it; and no port accepted an
-- item that has the duty to fill it
pub record WasWithdrawn (h : Histories) (n : ℕ) : Type 0 where
  pub opened : ReplyEntry
  pub opened_once : doing (opens n) h.book ≡ opened ∷ []
  pub cancelled : ReplyEntry
  pub cancelled_once : doing (cancels n) h.book ≡ cancelled ∷ []
  pub by_opener : cancelled.by.0 ≡ opened.by.0
  pub not_filled : doing (fills n) h.book ≡ []
  pub not_taken : doing (takes n) h.book ≡ []
  pub no_item : (looper position : ℕ) (item : ItemData) → ¬ (IsAccepted h n looper position item)
