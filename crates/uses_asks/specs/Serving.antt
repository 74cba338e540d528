-- What a looper's thread does with one message: it takes it, dispatches it at its desk, and fills the slot that the message names.
use Rattle.std.specs.Prelude.{◌≡◌, ℕ, ◌+◌, false, List, Contains, Some, IsSomeAnd}
use Rattle.ak_base.specs.declared.thread.ThreadId.{ThreadId}
use Rattle.ak_base.specs.Thread.{looper_thread}
use Rattle.ak_message.specs.Message.{MessageData}
use Rattle.ak_flatten.specs.declared.item.Duty.TheVariants as duty
use Rattle.ak_flatten.specs.declared.item.Taken.{Taken}
use Rattle.ak_flatten.specs.Item.{ItemData}
use Rattle.ak_flatten.specs.Spelling.{spelling}
use Rattle.ak_turn.specs.declared.clock.Clock.{Clock}
use Rattle.ak_turn.specs.Entries.{made_by}
use Rattle.ak_turn.specs.Seats.{LockId}
use Rattle.ak_port.specs.PortCalls.{CanTake, IsAtPort, PortSeat}
use Rattle.ak_port.specs.PortMachine.{state_of, taken_items}
use Rattle.ak_port.specs.Reply.{FillsWith}
use Rattle.ak_port.specs.ReplySeats.{ReplySeat}
use Rattle.ak_action.specs.declared.answer.Answer.{Answer}
use Rattle.ak_action.specs.declared.answer.Want.{Want}
use Rattle.ak_action.specs.declared.state.DeskState.{DeskState}
use Rattle.ak_desk.specs.declared.made.Made.{Made}
use Rattle.ak_desk.specs.Desk.{BegunData, DeskData, HasDispatched, OfBegun}
use Rattle.ak_desk.specs.Machine.{dispatches}
use Rattle.ak_desk.specs.Shared.{by_number, DeskSeat, HasDispatchedThere}

-- ---- at the port
-- it is the next item of those that the seat knew as taken, and is among them now
pub record TakesNext (taken : Taken) (seat seat' : PortSeat) : Type 0 where
  pub next : taken.position ≡ (state_of seat.front).taken
  pub rises : (state_of seat'.front).taken ≡ (state_of seat.front).taken + 1
  pub among : Contains (taken_items (state_of seat'.front)) taken

-- ---- at the desk, in a turn
-- the thread is that of the desk's looper
abbrev pub IsOfLooper : ThreadId → DeskSeat → Type 0
IsOfLooper thread seat = IsSomeAnd seat.opening (λ (opening : DeskState). thread.0 ≡ looper_thread opening.looper)

-- what is carried out is the item at that position, begun in that state
pub record IsOf (position : ℕ) (item : ItemData) (before : DeskState) (b : BegunData) : Type 0 where
  pub position_is : b.position ≡ position
  pub item_is : b.item ≡ item
  pub before_is : b.before ≡ before

abbrev pub Carries : ℕ → ItemData → DeskState → DeskData → Type 0
Carries position item before d = OfBegun (IsOf position item before) d.begun

-- from the one to the other it was begun, carried out and ended
pub record EndsSo (clock clock' : Clock) (taken : Taken) (made : Made) (d d' : DeskData) : Type 0 where
  pub asked : List Want
  pub heard : List Answer
  pub ends : HasDispatched clock clock' taken.position taken.item asked heard d.opening d.state d'.state d.entries d'.entries made

-- the seat's thread dispatched it in one turn
pub record DispatchesThere (taken : Taken) (made : Made) (seat seat' : DeskSeat) : Type 0 where
  pub from : Clock
  pub until : Clock
  pub asked : List Want
  pub heard : List Answer
  pub there : HasDispatchedThere from until taken.position taken.item asked heard made seat seat'

-- ---- all of it
-- the seats of the thread of the desk's looper, which has dispatched just as many messages as it took
pub record CanServe (port desk book : LockId) (thread : ThreadId) (taker : PortSeat) (seat : DeskSeat) (filler : ReplySeat) : Type 0 where
  pub taker_of : taker.lock ≡ port
  pub taker_idle : taker.turn ≡ false
  pub taker_thread : taker.thread ≡ thread.0
  pub taking : CanTake thread 1 taker
  pub seat_of : seat.lock ≡ desk
  pub seat_idle : seat.turn ≡ false
  pub seat_thread : seat.thread ≡ thread.0
  pub looper : IsOfLooper thread seat
  pub filler_of : filler.lock ≡ book
  pub filler_idle : filler.turn ≡ false
  pub filler_thread : filler.thread ≡ thread.0
  pub in_step : (state_of taker.front).taken ≡ dispatches (made_by by_number seat.thread seat.front)

-- the item at that position was taken and dispatched, and the slot that it names filled with the reply
pub record HasServed (position slot : ℕ) (reply : MessageData) (port' : PortSeat) (desk desk' : DeskSeat) (book' : ReplySeat) : Type 0 where
  pub item : ItemData
  pub made : Made
  pub at_port : IsAtPort port'
  pub among : Contains (taken_items (state_of port'.front)) (record { position = position; item = item })
  pub owed : item.duty ≡ duty.Slot slot
  pub dispatched : DispatchesThere (record { position = position; item = item }) made desk desk'
  pub replied : made.reply ≡ Some reply
  pub filled : FillsWith slot (spelling reply) book'.front

-- a thread served it so, whose seats these are then, and they serve again
pub record HasServedThere (port desk book : LockId) (thread : ThreadId) (position slot : ℕ) (reply : MessageData) (port' : PortSeat) (desk' : DeskSeat) (book' : ReplySeat) : Type 0 where
  pub before : DeskSeat
  pub served : HasServed position slot reply port' before desk' book'
  pub again : CanServe port desk book thread port' desk' book'
