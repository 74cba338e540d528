-- Loopers whose ports and desks were made.
use Rattle.std.specs.Prelude.{◌≡◌, ℕ, suc, ◌+◌, ◌-◌, ◌<◌, List, [], ◌∷◌, Some, slice_get}
use Rattle.std.specs.VecDeque.{deque_len, deque_capacity}
use Rattle.ak_base.specs.Limits.{looper_limit}
use Rattle.ak_base.specs.Thread.{main_thread, looper_thread}
use Rattle.ak_base.specs.declared.thread.ThreadId.{ThreadId}
use Rattle.ak_port.specs.PortCalls.{CanTake}
use Rattle.ak_port.specs.declared.port_entry.PortEntry.{PortEntry}
use Rattle.ak_action.specs.declared.plan.PlanParts.{PlanParts}
use Rattle.ak_action.specs.declared.state.DeskState.{DeskState}
use Rattle.ak_action.specs.Opening.{FitsPlace, Opens, names_in}
use Rattle.ak_team.specs.declared.opening.Opened.{Opened}
use Rattle.ak_team.specs.declared.opening.Place.{Place}
use Rattle.ak_team.specs.Doors.{HasNames, KnowsBoth}

-- what main has seen of its port
abbrev pub opened_front : Opened → List PortEntry
opened_front o = o.door.port_seat.front

-- each of an application's plans fits its place, where the first one has that number
abbrev pub FitPlaces : ℕ → List PlanParts → Type 0
FitPlaces first plans = (k : ℕ) (p : PlanParts) → slice_get plans k ≡ Some p → FitsPlace p (first + k) first (names_in plans)

-- main alone has had seats at the port and the desk, which are as the plan says; the looper's thread can take from the port into the queue
pub record IsOpened (place : Place) (plan : PlanParts) (names : List (List ℕ)) (o : Opened) : Type 0 where
  pub number : o.number ≡ place.number
  pub within : place.number < looper_limit
  pub taker : ThreadId
  pub taker_is : taker.0 ≡ looper_thread place.number
  pub takes : CanTake taker (deque_capacity o.queue - deque_len o.queue) o.door.port_seat
  pub queue : o.queue.items ≡ []
  pub desk : DeskState
  pub desk_is : o.door.desk_seat.opening ≡ Some desk
  pub opens : Opens plan place.number place.team place.first names desk
  pub by_main : o.door.port_seat.thread ≡ main_thread
  pub known : KnowsBoth o.door
  pub names_are : HasNames (main_thread ∷ []) o.door
  -- nothing was done at the desk
  pub desk_front : o.door.desk_seat.front ≡ []

module _ (plans : List PlanParts) (team first : ℕ) where
  abbrev pub place_at : ℕ → Place
  place_at k = record { number = first + k; team = team; first = first }

  -- the looper of the plan at that place
  pub record IsOpenedAt (k : ℕ) (o : Opened) : Type 0 where
    pub plan : PlanParts
    pub described : slice_get plans k ≡ Some plan
    pub opened : IsOpened (place_at k) plan (names_in plans) o

  -- those from a place on, in order
  abbrev pub AreOpened : ℕ → List Opened → Type 0
  AreOpened k [] = Unit {0}
  AreOpened k (o ∷ os) = IsOpenedAt k o × AreOpened (suc k) os
