-- What holds of an ask and of what a looper's thread did with its item, at one port, one reply book and one desk.
use Rattle.std.specs.Prelude.{◌≡◌, ℕ, Bool, true, List, ◌∷◌, ◌++◌, Contains, Option, Some, Ok, count_by}
use Rattle.ak_message.specs.Message.{MessageData}
use Rattle.ak_flatten.specs.declared.item.Duty.TheVariants as duty
use Rattle.ak_flatten.specs.declared.item.Taken.{Taken}
use Rattle.ak_flatten.specs.Item.{ItemData}
use Rattle.ak_flatten.specs.Spelling.{spelling}
use Rattle.ak_turn.specs.declared.clock.Clock.{Clock}
use Rattle.ak_turn.specs.Entries.{StartsWith}
use Rattle.ak_port.specs.declared.port_entry.PortEntry.{PortEntry}
use Rattle.ak_port.specs.declared.reply_entry.ReplyEntry.{ReplyEntry}
use Rattle.ak_port.specs.PortCalls.{PortSeat}
use Rattle.ak_port.specs.PortMachine.{IsPort, state_of, written_in}
use Rattle.ak_port.specs.Reply.{IsLegal, settles, takes}
use Rattle.ak_port.specs.ReplySeats.{ReplySeat}
use Rattle.ak_messenger.specs.declared.asking.Reply.{Reply}
use Rattle.ak_messenger.specs.Asks.{AskTells}
use Rattle.ak_action.specs.declared.answer.AnswerWord.{AnswerWord}
use Rattle.ak_action.specs.declared.state.DeskState.{DeskState}
use Rattle.ak_desk.specs.declared.entry.DeskEvent.TheVariants as event
use Rattle.ak_desk.specs.Desk.{DeskData}
use Rattle.ak_desk.specs.Dispatch.{entry_route, fitting}
use Rattle.ak_desk.specs.Entry.{EntryData}
use Rattle.ak_desk.specs.Machine.{IsHistory, Replies}
use Rattle.ak_desk.specs.Place.{routed_of}
use Rattle.ak_desk.specs.Shared.{DeskSeat}
use Rattle.uses_asks.specs.Serving.{HasServed}

-- ---- the desk's reply
-- where the item was dispatched in that state with these words, that is its one reply, and it was sent as it fits
pub record IsDesksReply (before : DeskState) (item : ItemData) (words : List AnswerWord) (sent : MessageData) : Type 0 where
  pub reply : MessageData
  pub replies : Replies before item words (Some reply)
  pub alone : (other : Option MessageData) → Replies before item words other → other ≡ Some reply
  pub fits : sent ≡ fitting reply

-- ---- the ask's reply
abbrev pub with_slot : ItemData → ℕ → ItemData
with_slot item slot = record item { duty = duty.Slot slot }

-- what an ask of that item took by that slot is the text of what was sent, and nothing else ever filled it; the ask's item was written at
-- some position, what was served at its own, and where the two are one, the item served is the ask's
pub record HasOneReply (port : List PortEntry) (book : List ReplyEntry) (item : ItemData) (slot : ℕ) (flat : List ℕ) (position : ℕ) (served : ItemData) (sent : MessageData) : Type 0 where
  pub text : flat ≡ spelling sent
  pub settled : count_by (λ (entry : ReplyEntry). settles slot entry.event) book ≡ 1
  pub taken : count_by (λ (entry : ReplyEntry). takes slot entry.event) book ≡ 1
  pub place : ℕ
  pub asked : Contains (written_in port) (record { position = place; item = with_slot item slot })
  pub answered : Contains (written_in port) (record { position = position; item = served })
  pub same : position ≡ place → served ≡ with_slot item slot

-- of an ask that was answered, and of a looper's thread that served its slot, each as its calls tell it, where the lists of the port and of
-- the book go on from all that the two have seen of them
abbrev pub AnAskHasOneReply : Type 0
AnAskHasOneReply =
    (taker : ℕ) (port : List PortEntry) (book : List ReplyEntry)
    (item : ItemData) (reply : Reply) (c c' : Clock) (b b' : ReplySeat) (s s' : PortSeat)
    (position : ℕ) (sent : MessageData) (t : PortSeat) (d d' : DeskSeat) (f : ReplySeat)
    → IsPort taker port
    → IsLegal book
    → AskTells item c c' b b' s s' (Ok reply)
    → StartsWith port s'.front
    → StartsWith book b'.front
    → (served : HasServed position reply.slot sent t d d' f)
    → StartsWith port t.front
    → StartsWith book f.front
    → HasOneReply port book item reply.slot reply.flat position served.item sent
    × IsDesksReply served.dispatched.there.before served.item served.dispatched.there.dispatched.words sent

-- ---- a port that accepts one item
-- a list tells that its port was made, to accept one item in all
pub record AcceptsOne (front : List PortEntry) : Type 0 where
  pub is_made : (state_of front).made ≡ true
  pub life : (state_of front).life ≡ 1

-- where a list goes on from one that tells so, what was written is one item
abbrev pub OneItemAlone : Type 0
OneItemAlone =
    (taker : ℕ) (port front : List PortEntry) (t u : Taken)
    → IsPort taker port
    → StartsWith port front
    → AcceptsOne front
    → Contains (written_in port) t
    → Contains (written_in port) u
    → t ≡ u

-- ---- by what two threads tell
-- an ask of that item, at a port that accepts one, was answered so, and these are the seats of its thread then
pub record HasAskedOf (item : ItemData) (reply : Reply) (port' : PortSeat) (book' : ReplySeat) : Type 0 where
  pub from : Clock
  pub until : Clock
  pub port : PortSeat
  pub book : ReplySeat
  pub tells : AskTells item from until book book' port port' (Ok reply)
  pub one : AcceptsOne port.front

-- the desk's list has the dispatch of that item at that position, in the state to which the entries before it lead, with these words
pub record HasDispatchOf (desk : DeskData) (position : ℕ) (item : ItemData) (before : DeskState) (words : List AnswerWord) : Type 0 where
  pub earlier : List EntryData
  pub entry : EntryData
  pub later : List EntryData
  pub entries_are : desk.entries ≡ earlier ++ entry ∷ later
  pub history : IsHistory desk.opening earlier before
  pub quit : Bool
  pub event_is : entry.plain.event ≡ event.Dispatched position (entry_route before (routed_of before item).route) words quit
  pub item_is : entry.item ≡ Some item

-- in the lists of the port, of the book and of the desk the ask of that item has one reply, which is that of the desk's dispatch of the
-- ask's own item at that position
pub record EndsInOneReply (port : List PortEntry) (book : List ReplyEntry) (desk : DeskData) (item : ItemData) (reply : Reply) (position : ℕ) (sent : MessageData) : Type 0 where
  pub served : ItemData
  pub before : DeskState
  pub words : List AnswerWord
  pub one : HasOneReply port book item reply.slot reply.flat position served sent
  pub own : served ≡ with_slot item reply.slot
  pub there : HasDispatchOf desk position served before words
  pub desks : IsDesksReply before served words sent
