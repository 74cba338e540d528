-- How a looper's thread stands between its turns.
use Rattle.std.specs.Prelude.{◌≡◌, ℕ, ◌+◌, ◌||◌, Bool, true, false, if◌then◌else◌, List, [], ◌∷◌, ◌++◌, length}
use Rattle.ak_flatten.specs.declared.item.Duty.{Duty}
use Rattle.ak_flatten.specs.declared.item.Taken.{Taken}
use Rattle.ak_turn.specs.Noted.{Noted}
use Rattle.ak_port.specs.PortCalls.{CanTake}
use Rattle.ak_port.specs.TakerLaws.{handed_at}
use Rattle.ak_port.specs.declared.port_entry.PortEntry.{PortEntry}
use Rattle.ak_port.specs.declared.port_entry.PortEvent.TheVariants as event
use Rattle.ak_desk.specs.declared.made.Made.{Made}
use Rattle.ak_desk.specs.Shared.{DeskSeat}
use Rattle.ak_looper.specs.declared.job.EndKind.{EndKind}
use Rattle.ak_looper.specs.declared.job.EndKind.TheVariants as kind
use Rattle.ak_looper.specs.declared.at_work.After.{After}
use Rattle.ak_looper.specs.declared.at_work.After.TheVariants as after
use Rattle.ak_looper.specs.declared.reach.Reach.{Reach}
use Rattle.ak_looper.specs.Stands.{DeskStands, Stands}
use Rattle.ak_diary.specs.Diary.{Ending, Works, ending_of}
use Rattle.ak_diary.specs.Diary as diary
use Rattle.ak_diary.specs.Looper.{LooperFacts, dispatched_in, in_hand, is_closing, taken_in}
use Rattle.ak_diary.specs.Step.{Step, at_port, ran_short}
use Rattle.ak_diary.specs.Turns.{Settles}

-- the thread and its desk stand so, after these steps, which are its work so far
pub record HasWorked (l : LooperFacts) (start : ℕ) (work : List Step) (r : Reach) (desk : DeskSeat) : Type 0 where
  pub works : Works l work
  pub stands : Stands l start work r
  pub at_desk : DeskStands l work desk

-- it goes on: each item that it took is dispatched, and nothing calls for its closing
pub record GoesOnWorking (l : LooperFacts) (start : ℕ) (work : List Step) (r : Reach) (desk : DeskSeat) : Type 0 where
  pub worked : HasWorked l start work r desk
  pub rested : length (taken_in l work) ≡ dispatched_in l work
  pub not_closing : is_closing work ≡ false

-- it has that item in hand, the one after all that it dispatched
pub record HasInHand (l : LooperFacts) (start : ℕ) (work : List Step) (taken : Taken) (r : Reach) (desk : DeskSeat) : Type 0 where
  pub worked : HasWorked l start work r desk
  pub in_hand_is : in_hand l work ≡ taken ∷ []
  pub position : taken.position ≡ dispatched_in l work
  pub one_more : length (taken_in l work) ≡ dispatched_in l work + 1
  pub not_closing : is_closing work ≡ false

-- how it ends, as its steps so far tell
abbrev pub kind_of : Ending → EndKind
kind_of diary.without_memory = kind.NoMemory
kind_of diary.by_quit = kind.Quit
kind_of diary.by_team = kind.TeamClosed

-- only its end is to come: something called for its closing, or others shut its port
pub record HasStopped (l : LooperFacts) (start : ℕ) (work : List Step) (k : EndKind) (r : Reach) (desk : DeskSeat) : Type 0 where
  pub worked : HasWorked l start work r desk
  pub rested : length (taken_in l work) ≡ dispatched_in l work
  pub kind_is : k ≡ kind_of (ending_of l work)

-- it goes on, or it has closed and ends so
abbrev pub ComesTo : LooperFacts → ℕ → List Step → After → Reach → DeskSeat → Type 0
ComesTo l start work after.GoesOn r desk = GoesOnWorking l start work r desk
ComesTo l start work (after.Closed k) r desk = HasStopped l start work k r desk × (is_closing work ≡ true)

-- it took the rest, which is in its queue
pub record HasRested (l : LooperFacts) (start : ℕ) (work : List Step) (queue : List Taken) (r : Reach) (desk : DeskSeat) : Type 0 where
  pub works : Works l work
  pub rested : length (taken_in l work) ≡ dispatched_in l work
  pub noted : Noted PortEntry
  pub count : ℕ
  pub event_is : noted.entry.event ≡ event.Rest count
  pub left : queue ≡ handed_at noted
  pub stands : Stands l start (work ++ at_port l.number noted ∷ []) r
  pub at_desk : DeskStands l (work ++ at_port l.number noted ∷ []) desk

-- the same, and it ends so
pub record HasRestedSo (l : LooperFacts) (start : ℕ) (work : List Step) (k : EndKind) (queue : List Taken) (r : Reach) (desk : DeskSeat) : Type 0 where
  pub so : HasRested l start work queue r desk
  pub kind_is : k ≡ kind_of (ending_of l work)

-- ---- for some work that goes on from that
pub record Later (P : List Step → Type 0) (work : List Step) : Type 0 where
  pub turn : List Step
  pub then_is : P (work ++ turn)

-- ---- what follows a dispatch
abbrev pub after_of : Bool → Bool → After
after_of short closing = if short then after.Closed kind.NoMemory else (if closing then after.Closed kind.Quit else after.GoesOn)

pub record HasSettled (l : LooperFacts) (so_far : List Step) (owed : Duty) (made : Made) (a : After) (steps : List Step) : Type 0 where
  pub settles : Settles l so_far owed made.reply steps
  pub after_is : a ≡ after_of (made.no_memory || ran_short steps) (is_closing (so_far ++ steps))

-- its port can be taken from, into an empty queue with that room
pub record CanWork (r : Reach) (room : ℕ) (queue : List Taken) : Type 0 where
  pub takes : CanTake r.hands.clock.thread room r.port_seat
  pub queue_is : queue ≡ []

-- for some looper that works so
pub record IsWorking (r : Reach) (desk : DeskSeat) : Type 0 where
  pub facts : LooperFacts
  pub start : ℕ
  pub work : List Step
  pub goes_on : GoesOnWorking facts start work r desk
