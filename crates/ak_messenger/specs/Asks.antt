-- Which entries an ask makes, by its answer: from one clock c to another c', from the book's seat b to b', and from the port's seat s to s'.
use Rattle.std.specs.Prelude.{◌≡◌, ◌⊎◌, ℕ, List, Option, None, Some, Result, Ok, Err}
use Rattle.ak_flatten.specs.declared.item.Duty.TheVariants as duty
use Rattle.ak_flatten.specs.Item.{ItemData}
use Rattle.ak_turn.specs.declared.clock.Clock.{Clock}
use Rattle.ak_port.specs.declared.port_entry.PortEvent.TheVariants as event
use Rattle.ak_port.specs.declared.reply_entry.ReplyEvent.TheVariants as entry
use Rattle.ak_port.specs.PortCalls.{PortSeat, HasEntered, HasLooked}
use Rattle.ak_port.specs.PortMachine.{LacksRoom}
use Rattle.ak_port.specs.Reply.{FillsWith}
use Rattle.ak_port.specs.ReplySeats.{ReplySeat, HasEnteredBook, HasLookedAtBook, HasFoundFilled}
use Rattle.ak_messenger.specs.declared.fault.SendFault.{SendFault}
use Rattle.ak_messenger.specs.declared.fault.SendFault.TheVariants as fault
use Rattle.ak_messenger.specs.declared.asking.Reply.{Reply}

-- ---- at the book
-- the slot was cancelled, unless it was found to be filled
abbrev pub HasClosed : ℕ → Clock → Clock → ReplySeat → ReplySeat → Type 0
HasClosed n c c' b b' = HasEnteredBook c c' (entry.Cancelled n) b b' ⊎ HasFoundFilled n c c' b b'

-- the text was taken that the slot was filled with
pub record HasCollected (n : ℕ) (flat : List ℕ) (c c' : Clock) (b b' : ReplySeat) : Type 0 where
  pub taken : HasEnteredBook c c' (entry.Taken n) b b'
  pub filled : FillsWith n flat b'.front

-- it was taken, and is the reply's; or it was taken, and memory was wanting for the reply's message
abbrev pub IsReplied : ℕ → Clock → Clock → ReplySeat → ReplySeat → Result Reply SendFault → Type 0
IsReplied n c c' b b' (Ok reply) = (reply.slot ≡ n) × HasCollected n reply.flat c c' b b'
IsReplied n c c' b b' (Err fault.NoMemory) = (flat : List ℕ) × HasCollected n flat c c' b b'
IsReplied n c c' b b' (Err fault.TooLong) = ⊥
IsReplied n c c' b b' (Err fault.BadPort) = ⊥
IsReplied n c c' b b' (Err fault.Spent) = ⊥
IsReplied n c c' b b' (Err fault.WouldBlock) = ⊥

-- ---- at the port
-- memory was wanting, at a port that did not lack room
pub record HasWanted (c c' : Clock) (s s' : PortSeat) : Type 0 where
  pub looked : HasLooked c c' s s'
  pub room : ¬ (LacksRoom s'.front)

-- the item was written, or refused, and why; a write that waits for room is not refused for want of it
abbrev pub IsWritten : ItemData → Clock → Clock → PortSeat → PortSeat → Option SendFault → Type 0
IsWritten item c c' s s' None = (position : ℕ) × HasEntered c c' (event.Written position item) s s'
IsWritten item c c' s s' (Some fault.BadPort) = HasEntered c c' event.Refused s s'
IsWritten item c c' s s' (Some fault.Spent) = HasEntered c c' event.Spent s s'
IsWritten item c c' s s' (Some fault.NoMemory) = HasWanted c c' s s'
IsWritten item c c' s s' (Some fault.TooLong) = ⊥
IsWritten item c c' s s' (Some fault.WouldBlock) = ⊥

-- ---- at both
module _ (item : ItemData) (c c' : Clock) (b b' : ReplySeat) (s s' : PortSeat) where
  -- the item was written with the duty to fill the slot, and the text taken that the slot was filled with
  pub record HasConversed (n : ℕ) (flat : List ℕ) : Type 0 where
    pub between : Clock
    pub written : IsWritten (record item { duty = duty.Slot n }) c between s s' None
    pub collected : HasCollected n flat between c' b b'

  -- the item was not written, and the slot was closed
  pub record HasGivenUp (n : ℕ) (why : SendFault) : Type 0 where
    pub between : Clock
    pub refused : IsWritten (record item { duty = duty.Slot n }) c between s s' (Some why)
    pub closed : HasClosed n between c' b b'

  -- what became of an open slot, by the answer
  abbrev pub BecameOf : ℕ → Result Reply SendFault → Type 0
  BecameOf n (Ok reply) = (reply.slot ≡ n) × HasConversed n reply.flat
  BecameOf n (Err fault.NoMemory) = HasGivenUp n fault.NoMemory ⊎ ((flat : List ℕ) × HasConversed n flat)
  BecameOf n (Err fault.TooLong) = ⊥
  BecameOf n (Err fault.BadPort) = HasGivenUp n fault.BadPort
  BecameOf n (Err fault.Spent) = HasGivenUp n fault.Spent
  BecameOf n (Err fault.WouldBlock) = ⊥

module _ (item : ItemData) (c c' : Clock) (b b' : ReplySeat) (s s' : PortSeat) where
  -- a slot was opened, and that became of it
  pub record HasAsked (result : Result Reply SendFault) : Type 0 where
    pub slot : ℕ
    pub clock : Clock
    pub seat : ReplySeat
    pub opened : HasEnteredBook c clock (entry.Opened slot) b seat
    pub became : BecameOf item clock c' seat b' s s' slot result

  -- nothing was done
  pub record IsUntouched : Type 0 where
    pub clock : c' ≡ c
    pub book : b' ≡ b
    pub port : s' ≡ s

  -- no slot was opened, for want of memory
  pub record HasOpenedNone : Type 0 where
    pub looked : HasLookedAtBook c c' b b'
    pub port : s' ≡ s

  -- memory was wanting: before all, for the slot, or later
  pub data HasLackedMemory : Type 0 where
    before_all : IsUntouched → HasLackedMemory
    for_the_slot : HasOpenedNone → HasLackedMemory
    later : HasAsked (Err fault.NoMemory) → HasLackedMemory

  -- the entries of an ask for that item, by its answer
  abbrev pub AskTells : Result Reply SendFault → Type 0
  AskTells (Ok reply) = HasAsked (Ok reply)
  AskTells (Err fault.TooLong) = IsUntouched
  AskTells (Err fault.NoMemory) = HasLackedMemory
  AskTells (Err fault.BadPort) = HasAsked (Err fault.BadPort)
  AskTells (Err fault.Spent) = HasAsked (Err fault.Spent)
  AskTells (Err fault.WouldBlock) = ⊥
