-- What a looper's thread takes from its own port.
use Rattle.std.specs.Prelude.{◌≡◌, List, [], ◌∷◌, ◌++◌}
use Rattle.ak_flatten.specs.declared.item.Taken.{Taken}
use Rattle.ak_flatten.specs.Item.{ItemData}
use Rattle.ak_turn.specs.declared.clock.Clock.{Clock}
use Rattle.ak_turn.specs.Noted.{Noted, noted}
use Rattle.ak_port.specs.declared.port_entry.PortEntry.{PortEntry}
use Rattle.ak_port.specs.declared.port_entry.TakeAnswer.{TakeAnswer}
use Rattle.ak_port.specs.declared.port_entry.TakeAnswer.TheVariants as taken
use Rattle.ak_port.specs.PortCalls.{PortSeat, HasEntered, by_number, take_event}
use Rattle.ak_port.specs.PortMachine.{handed_out, numbered, state_of}
use Rattle.ak_port.specs.TakerLaws.{handed_at, handed_by}
use Rattle.ak_diary.specs.Looper.{LooperFacts, taken_in}
use Rattle.ak_diary.specs.Step.{Step, at_port}

-- one entry of a take, which hands out the oldest pending items, as many as it says
pub record TakesSo (answer : TakeAnswer) (queue : List Taken) (clock clock' : Clock) (seat seat' : PortSeat) : Type 0 where
  pub entered : HasEntered clock clock' (take_event answer) seat seat'
  pub items : queue ≡ handed_out (state_of entered.before) (take_event answer)

abbrev pub IsTheRest : TakeAnswer → Type 0
IsTheRest (taken.Took k) = ⊥
IsTheRest (taken.Rest k) = Unit {0}

-- all that the thread took so far has the positions from 0 on
pub record TakenSoFar (seat : PortSeat) : Type 0 where
  pub items : List ItemData
  pub taken : handed_by (noted by_number seat.thread seat.front) ≡ numbered 0 items

-- the one step of a take
pub record IsTaking (l : LooperFacts) (so_far : List Step) (answer : TakeAnswer) (queue : List Taken) (steps : List Step) : Type 0 where
  pub noted_one : Noted PortEntry
  pub event_is : noted_one.entry.event ≡ take_event answer
  pub queue_is : queue ≡ handed_at noted_one
  pub is : steps ≡ at_port l.number noted_one ∷ []
  pub items : List ItemData
  pub all : taken_in l (so_far ++ steps) ≡ numbered 0 items
