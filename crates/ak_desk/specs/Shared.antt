-- What a call on a desk that threads share says.
use Rattle.std.specs.Prelude.{◌≡◌, ℕ, List, Option, None, Some, IsSomeAnd}
use Rattle.ak_flatten.specs.Item.{ItemData}
use Rattle.ak_turn.specs.declared.clock.Clock.{Clock}
use Rattle.ak_turn.specs.Called as at_lock
use Rattle.ak_turn.specs.Seats.{SeatData, HasCalled}
use Rattle.ak_action.specs.declared.answer.Answer.{Answer}
use Rattle.ak_action.specs.declared.answer.Want.{Want}
use Rattle.ak_action.specs.declared.state.DeskState.{DeskState}
use Rattle.ak_desk.specs.declared.entry.DeskEvent.{DeskEvent}
use Rattle.ak_desk.specs.declared.made.Made.{Made}
use Rattle.ak_desk.specs.Desk.{HasDispatched, HasGivenUp, dispatched_entry, given_up_entry, entry_with, stamp_number}
use Rattle.ak_desk.specs.Entry.{EntryData}
use Rattle.ak_desk.specs.Machine.{IsHistory}

-- a thread's seat at a desk
abbrev pub DeskSeat : Type 0
DeskSeat = SeatData DeskState EntryData

abbrev pub by_number : EntryData → ℕ
by_number entry = entry.plain.by.0

-- in the words for every object: the seat's thread made one entry with that event, of no message, or it made none
abbrev pub HasAnswered : Option DeskEvent → Clock → Clock → DeskSeat → DeskSeat → Type 0
HasAnswered e clock clock' seat seat' = at_lock.HasAnswered by_number stamp_number (entry_with None) e clock clock' seat seat'

-- the seat's thread dispatched one message in one turn, having asked for these and heard these answers: its entry is the last of the
-- seat's front, and goes on from all that was there before
pub record HasDispatchedThere (clock clock' : Clock) (position : ℕ) (item : ItemData) (asked : List Want) (heard : List Answer) (made : Made) (seat seat' : DeskSeat) : Type 0 where
  pub opening : DeskState
  pub opening_is : seat'.opening ≡ Some opening
  -- the states before it and after it, and the list before it
  pub before : DeskState
  pub after : DeskState
  pub entries : List EntryData
  pub dispatched : HasDispatched clock clock' position item asked heard opening before after entries seat'.front made
  pub called : HasCalled by_number (dispatched_entry entries clock position item before dispatched.words dispatched.quit) seat seat'

-- the seat's thread gave one message up in one turn: its entry is the last of the seat's front, and goes on from all that was there
-- before
pub record HasGivenUpThere (clock clock' : Clock) (position : ℕ) (made : Made) (seat seat' : DeskSeat) : Type 0 where
  pub opening : DeskState
  pub opening_is : seat'.opening ≡ Some opening
  -- the state before it, which stays, and the list before it
  pub state : DeskState
  pub entries : List EntryData
  pub given_up : HasGivenUp clock clock' position opening state entries seat'.front made
  pub called : HasCalled by_number (given_up_entry entries clock position) seat seat'

-- the seat's front is a list that the machine allows from its opening on
pub record LeadsOn (opening : DeskState) (front : List EntryData) : Type 0 where
  pub state : DeskState
  pub history : IsHistory opening front state

abbrev pub IsAtDesk : DeskSeat → Type 0
IsAtDesk seat = IsSomeAnd seat.opening (λ (opening : DeskState). LeadsOn opening seat.front)
