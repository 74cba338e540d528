-- A desk as the code holds it: what contracts see of it, and what is always true of it.
use Rattle.std.specs.Prelude.{◌≡◌, ℕ, ◌+◌, ◌<◌, Bool, true, false, List, [], ◌∷◌, ◌++◌, All, Option, None, Some, option_map, vec_len, vec_capacity}
use Rattle.ak_flatten.specs.Item.{IsItem}
use Rattle.ak_action.specs.declared.answer.Want.{Want}
use Rattle.ak_action.specs.declared.answer.Want.TheVariants as want
use Rattle.ak_action.specs.declared.state.DeskState.{DeskState}
use Rattle.ak_action.specs.Laws.{IsSpelled}
use Rattle.ak_desk.specs.declared.desk.Begun.{Begun}
use Rattle.ak_desk.specs.declared.desk.Desk.TheInside.{Inside}
use Rattle.ak_desk.specs.declared.task.Task.{Task}
use Rattle.ak_desk.specs.Answering.{AreAnswered}
use Rattle.ak_desk.specs.Desk.{BegunData, DeskData}
use Rattle.ak_desk.specs.Dispatch.{Came, came_to, dispatch_of, entry_route}
use Rattle.ak_desk.specs.Machine.{IsHistory, dispatches, gave_up}
use Rattle.ak_desk.specs.Entry.{EntryData}
use Rattle.ak_desk.specs.Place.{routed_of}
use Rattle.ak_desk.specs.Task.{Comes, IsDone, came_of, task_of}

abbrev pub came_seen : Bool → Task → Option Came
came_seen true t = Some (came_of t)
came_seen false t = None

abbrev pub begun_seen : Begun → BegunData
begun_seen b =
    record {
      position = b.position;
      item = b.item.value;
      before = b.before.value;
      route = b.route;
      asked = b.asked;
      heard = b.heard;
      came = came_seen b.done b.task;
    }

abbrev pub desk_inside : Inside → DeskData
desk_inside d = record { opening = d.opening.value; state = d.state; entries = d.entries.items; begun = option_map begun_seen d.begun }

-- ---- one step of what is begun
-- nothing is wanted
abbrev pub is_last : Want → Bool
is_last want.Done = true
is_last _ = false

-- what is wanted is one more
abbrev pub asked_more : Want → List Want → List Want
asked_more want.Done asked = asked
asked_more w asked = asked ++ w ∷ []

abbrev pub noted : Want → Begun → Begun
noted w b = record b { asked = asked_more w b.asked; done = is_last w }

-- ---- what is always true
-- nothing is left to do: it is its dispatch with these answers, where memory ran out at some place or nowhere
pub record IsOver (b : BegunData) (t : Task) (s : DeskState) (c : Came) : Type 0 where
  pub spelled : All IsSpelled b.heard
  pub answered : AreAnswered b.asked b.heard
  pub memory : Option ℕ
  pub is : dispatch_of b.before b.item b.heard memory ≡ came_to b.asked c s
  pub done : IsDone t
  pub same : c ≡ came_of t

-- it came this far, or is over
abbrev pub ComesFar : BegunData → Task → DeskState → Option Came → Type 0
ComesFar b t s None = Comes b.before (task_of b.before.first (routed_of b.before b.item)) b.asked b.heard t s
ComesFar b t s (Some c) = IsOver b t s c

-- what is begun began in the state to which the list leads
pub record IsBegun (opening : DeskState) (entries : List EntryData) (b : BegunData) (t : Task) (s : DeskState) : Type 0 where
  pub history : IsHistory opening entries b.before
  pub position : b.position ≡ dispatches entries
  pub route : b.route ≡ entry_route b.before (routed_of b.before b.item).route
  pub fits : IsItem b.item
  pub far : ComesFar b t s b.came

-- nothing is begun, or this
abbrev pub Stands : DeskState → List EntryData → Option Begun → DeskState → Type 0
Stands opening entries None s = IsHistory opening entries s
Stands opening entries (Some b) s = IsBegun opening entries (begun_seen b) b.task s

-- places for the entry of what is begun, and for that of giving up once
abbrev pub HasPlaces : List EntryData → Option Begun → ℕ → ℕ → Type 0
HasPlaces entries None len capacity = gave_up entries ≡ false → len < capacity
HasPlaces entries (Some b) len capacity = len + 1 < capacity

pub record IsSound (d : Inside) : Type 0 where
  pub stands : Stands d.opening.value d.entries.items d.begun d.state
  pub places : HasPlaces d.entries.items d.begun (vec_len d.entries) (vec_capacity d.entries)
