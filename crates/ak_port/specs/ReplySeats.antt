-- What a call at the reply book tells the thread that makes it.
use Rattle.std.specs.Prelude.{◌≡◌, ℕ, List, slice_get, Some}
use Rattle.ak_base.specs.declared.thread.ThreadId.{ThreadId}
use Rattle.ak_turn.specs.declared.clock.Clock.{Clock}
use Rattle.ak_turn.specs.Called as at_lock
use Rattle.ak_turn.specs.Seats.{SeatData}
use Rattle.ak_port.specs.declared.reply_entry.ReplyEntry.{ReplyEntry}
use Rattle.ak_port.specs.declared.reply_entry.ReplyEvent.{ReplyEvent}
use Rattle.ak_port.specs.Reply.{Stage, open_stage, filled_stage, cancelled_stage, taken_stage, slot_of, slots_after, IsLegal, IsSettled, IsFilled}

-- a seat at a reply book, whose opening is nothing
abbrev pub ReplySeat : Type 0
ReplySeat = SeatData (Unit {0}) ReplyEntry

-- the number of the thread that made the entry
abbrev pub maker_of : ReplyEntry → ℕ
maker_of entry = entry.by.0

abbrev pub stamp_of : ReplyEntry → ℕ
stamp_of entry = entry.stamp

-- the entry with that stamp, thread and event
abbrev pub entry_of : ℕ → ThreadId → ReplyEvent → ReplyEntry
entry_of stamp by event = record { stamp = stamp; by = by; event = event }

-- the entry with that event, by the clock's thread, at its time
abbrev pub entry_at : Clock → ReplyEvent → ReplyEntry
entry_at clock event = entry_of clock.time clock.thread event

-- the new entry of a list, by the thread of that clock
abbrev pub entry_now : Clock → List ReplyEntry → ReplyEvent → ReplyEntry
entry_now clock entries event = at_lock.entry_now stamp_of entry_of clock entries event

-- the clock after it
abbrev pub clock_after : Clock → List ReplyEntry → Clock
clock_after clock entries = at_lock.clock_after stamp_of clock entries

-- ---- what a call has done, in the words for every object, at a book with a legal list
-- the seat's thread made one entry with that event
abbrev pub HasEntered : Clock → Clock → ReplyEvent → ReplySeat → ReplySeat → Type 0
HasEntered clock clock' event seat seat' = at_lock.HasEntered maker_of stamp_of entry_of clock clock' event seat seat'

-- it made none
abbrev pub HasLooked : Clock → Clock → ReplySeat → ReplySeat → Type 0
HasLooked clock clock' seat seat' = at_lock.HasLooked maker_of clock clock' seat seat'

-- the call made one entry, with that event, and the history is legal then
pub record HasEnteredBook (clock clock' : Clock) (event : ReplyEvent) (seat seat' : ReplySeat) : Type 0 where
  pub entered : HasEntered clock clock' event seat seat'
  pub legal : IsLegal seat'.front

-- the call made no entry, and the history is legal
pub record HasLookedAtBook (clock clock' : Clock) (seat seat' : ReplySeat) : Type 0 where
  pub looked : HasLooked clock clock' seat seat'
  pub legal : IsLegal seat'.front

-- the call made no entry, since the slot is filled or cancelled
pub record HasFoundSettled (n : ℕ) (clock clock' : Clock) (seat seat' : ReplySeat) : Type 0 where
  pub looked : HasLooked clock clock' seat seat'
  pub legal : IsLegal seat'.front
  pub settled : IsSettled n seat'.front

-- the same, since it is filled
pub record HasFoundFilled (n : ℕ) (clock clock' : Clock) (seat seat' : ReplySeat) : Type 0 where
  pub looked : HasLooked clock clock' seat seat'
  pub legal : IsLegal seat'.front
  pub filled : IsFilled n seat'.front

-- ---- slots of a thread
-- in that list the slot was opened by the thread, and is so far
pub record IsItsSlot (thread n : ℕ) (stage : Stage) (entries : List ReplyEntry) : Type 0 where
  pub there : slice_get (slots_after entries) n ≡ Some (slot_of thread stage)

abbrev pub IsUntaken : Stage → Type 0
IsUntaken open_stage = Unit {0}
IsUntaken (filled_stage flat) = Unit {0}
IsUntaken cancelled_stage = ⊥
IsUntaken taken_stage = ⊥

abbrev pub IsUncancelled : Stage → Type 0
IsUncancelled open_stage = Unit {0}
IsUncancelled (filled_stage flat) = Unit {0}
IsUncancelled cancelled_stage = ⊥
IsUncancelled taken_stage = Unit {0}

-- the thread opened the slot, and has neither cancelled nor taken it
pub record MayTake (thread n : ℕ) (entries : List ReplyEntry) : Type 0 where
  pub stage : Stage
  pub slot : IsItsSlot thread n stage entries
  pub untaken : IsUntaken stage

-- the thread opened the slot, and has not cancelled it
pub record MayCancel (thread n : ℕ) (entries : List ReplyEntry) : Type 0 where
  pub stage : Stage
  pub slot : IsItsSlot thread n stage entries
  pub uncancelled : IsUncancelled stage
