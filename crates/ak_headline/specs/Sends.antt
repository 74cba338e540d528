-- Who wrote the items that owe a slot: each was asked, or sent on from another.
use Rattle.std.specs.Prelude.{◌≡◌, ◌<◌, ◌≤◌, ◌⊎◌, ℕ, true, List, ◌∷◌, ◌++◌, Contains, Option, None, Some}
use Rattle.ak_flatten.specs.Item.{ItemData}
use Rattle.ak_turn.specs.Noted.{Noted}
use Rattle.ak_port.specs.declared.port_entry.PortEntry.{PortEntry}
use Rattle.ak_port.specs.declared.port_entry.PortEvent.TheVariants as event
use Rattle.ak_port.specs.declared.reply_entry.ReplyEntry.{ReplyEntry}
use Rattle.ak_port.specs.declared.reply_entry.ReplyEvent.TheVariants as slot
use Rattle.ak_port.specs.Reply.{takes}
use Rattle.ak_desk.specs.declared.entry.DeskEvent.{DeskEvent}
use Rattle.ak_desk.specs.declared.entry.DeskEvent.TheVariants as desk_event
use Rattle.ak_desk.specs.declared.entry.EntryRoute.TheVariants as went
use Rattle.ak_desk.specs.Entry.{EntryData}
use Rattle.ak_diary.specs.Step.{Step, at_book, at_port, port_entries}
use Rattle.ak_diary.specs.Wants.{forwarded_item}
use Rattle.ak_headline.specs.Tally.{at_slot, how_many, owes_entry, was_sent_on, writes_owing}

-- that write is an ask: before it the thread opened the slot, and behind it took what it was filled with
pub record HasAsk (n looper : ℕ) (x : Noted PortEntry) (steps : List Step) : Type 0 where
  pub before : List Step
  pub opened : Noted ReplyEntry
  pub taken : Noted ReplyEntry
  pub behind : List Step
  pub there : steps ≡ before ++ at_book opened ∷ at_port looper x ∷ at_book taken ∷ behind
  pub opened_is : opened.entry.event ≡ slot.Opened n
  pub owed : writes_owing n x.entry.event ≡ true
  pub taken_is : taken.entry.event ≡ slot.Taken n

-- the looper to which a dispatch sent its message
abbrev pub sent_to : DeskEvent → Option ℕ
sent_to (desk_event.Dispatched position (went.Forward looper) words quit) = Some looper
sent_to _ = None

-- That write, at the port of a looper of a greater number, sends on the item of that dispatch: it is the same but for its target, and with
-- as many of its specifiers popped or more
pub record SendsOn (n number : ℕ) (entry : EntryData) (looper : ℕ) (x : Noted PortEntry) : Type 0 where
  pub owed : owes_entry n entry ≡ true
  pub sent_on : was_sent_on entry ≡ true
  pub to_it : sent_to entry.plain.event ≡ Some looper
  pub item : ItemData
  pub item_is : entry.item ≡ Some item
  pub popped : ℕ
  pub more : item.popped ≤ popped
  pub position : ℕ
  pub written_is : x.entry.event ≡ event.Written position (forwarded_item item popped)
  pub up : number < looper

-- Each item with that slot's duty that the thread wrote was asked, or sent on for a dispatch of its desk; each dispatch that was sent on
-- has such a write; and the thread took from the slot for an ask alone
pub record SendsSo (n number : ℕ) (entries : List EntryData) (steps : List Step) : Type 0 where
  pub wrote : (looper : ℕ) (x : Noted PortEntry) → Contains (port_entries looper steps) x → writes_owing n x.entry.event ≡ true
      → HasAsk n looper x steps ⊎ ((entry : EntryData) × Contains entries entry × SendsOn n number entry looper x)
  pub sent : (entry : EntryData) → Contains entries entry → owes_entry n entry ≡ true → was_sent_on entry ≡ true
      → (looper : ℕ) × (x : Noted PortEntry) × Contains (port_entries looper steps) x × SendsOn n number entry looper x
  pub took : 1 ≤ how_many (at_slot (takes n)) steps → (looper : ℕ) × (x : Noted PortEntry) × HasAsk n looper x steps
