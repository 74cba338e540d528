-- How a looper's thread carries a message out while it has the turn of its desk.
use Rattle.std.specs.Prelude.{◌≡◌, ◌≤◌, ℕ, false, List, [], ◌∷◌, ◌++◌, IsSomeAnd}
use Rattle.ak_base.specs.Thread.{looper_thread}
use Rattle.ak_flatten.specs.declared.item.Taken.{Taken}
use Rattle.ak_flatten.specs.Item.{ItemData, message_of}
use Rattle.ak_message.specs.Fields.{specifier_count}
use Rattle.ak_turn.specs.Entries.{made_by}
use Rattle.ak_turn.specs.Noted.{Noted}
use Rattle.ak_action.specs.declared.answer.Answer.{Answer}
use Rattle.ak_action.specs.declared.answer.Want.{Want}
use Rattle.ak_action.specs.declared.answer.Want.TheVariants as want
use Rattle.ak_action.specs.declared.state.DeskState.{DeskState}
use Rattle.ak_desk.specs.Desk.{BegunData, DeskData, OfBegun}
use Rattle.ak_desk.specs.Entry.{EntryData}
use Rattle.ak_desk.specs.Machine.{dispatches, gave_up}
use Rattle.ak_desk.specs.Shared.{DeskSeat, by_number}
use Rattle.ak_desk.specs.declared.made.Made.{Made}
use Rattle.ak_looper.specs.declared.reach.Reach.{Reach}
use Rattle.ak_looper.specs.Stands.{DeskStands, GoesOn, Stands}
use Rattle.ak_diary.specs.Looper.{LooperFacts}
use Rattle.ak_diary.specs.Step.{Step, at_desk}
use Rattle.ak_diary.specs.Turns.{ComesTo}
use Rattle.ak_diary.specs.Wants.{ServesAll}

-- what is sent on has as many specifiers popped as the item or more, and no more than there are
abbrev pub FitsForward : ItemData → Want → Type 0
FitsForward item (want.Forward looper popped) = (item.popped ≤ popped) × (popped ≤ specifier_count (message_of item).fields)
FitsForward item _ = Unit {0}

-- the message that is begun is that one
abbrev pub IsOf : Taken → DeskData → Type 0
IsOf taken desk = OfBegun (λ (b : BegunData). (b.position ≡ taken.position) × (b.item ≡ taken.item)) desk.begun

-- the seat is one at the desk of that looper
abbrev pub IsDeskOf : ℕ → DeskSeat → Type 0
IsDeskOf number seat = IsSomeAnd seat.opening (λ (opening : DeskState). opening.looper ≡ number)

-- what it asked for so far is done
abbrev pub HasServed : LooperFacts → ℕ → List Step → DeskData → Reach → Type 0
HasServed l start so_far desk r = OfBegun (λ (b : BegunData). GoesOn l start so_far (ServesAll l so_far b.item b.asked b.heard) r) desk.begun

-- the message is the next one, and the looper gave none up
pub record IsNext (taken : Taken) (thread : ℕ) (entries : List EntryData) : Type 0 where
  pub position : taken.position ≡ dispatches (made_by by_number thread entries)
  pub once : gave_up (made_by by_number thread entries) ≡ false

-- by these steps: what it asks for, and its entry, which the looper's own thread made, behind those of the desk with that opening
pub record CarriesOut (l : LooperFacts) (so_far : List Step) (opening : DeskState) (taken : Taken) (made : Made) (entries entries' : List EntryData) (steps : List Step) : Type 0 where
  pub asked : List Want
  pub heard : List Answer
  pub served : List Step
  pub serves : ServesAll l so_far taken.item asked heard served
  pub noted : Noted EntryData
  pub comes : ComesTo opening taken asked heard made noted
  pub before : noted.before ≡ entries
  pub grown : entries' ≡ entries ++ noted.entry ∷ []
  pub mine : by_number noted.entry ≡ looper_thread l.number
  pub is : steps ≡ served ++ at_desk l.number noted ∷ []

-- the same in one turn at a shared desk
pub record Dispatches (l : LooperFacts) (so_far : List Step) (taken : Taken) (made : Made) (steps : List Step) : Type 0 where
  pub asked : List Want
  pub heard : List Answer
  pub served : List Step
  pub serves : ServesAll l so_far taken.item asked heard served
  pub noted : Noted EntryData
  pub comes : ComesTo l.desk taken asked heard made noted
  pub is : steps ≡ served ++ at_desk l.number noted ∷ []

pub record HasDispatchedOne (l : LooperFacts) (start : ℕ) (so_far : List Step) (taken : Taken) (made : Made) (seat' : DeskSeat) (r' : Reach) : Type 0 where
  pub steps : List Step
  pub does : Dispatches l so_far taken made steps
  pub stands : Stands l start (so_far ++ steps) r'
  pub desk : DeskStands l (so_far ++ steps) seat'
