-- A looper that is about to start.
use Rattle.std.specs.Prelude.{◌≡◌, ℕ, ◌+◌, ◌-◌, ◌<◌, List, [], ◌∷◌, Some, slice_get}
use Rattle.std.specs.Arc.{arc_value}
use Rattle.std.specs.VecDeque.{deque_len, deque_capacity}
use Rattle.ak_base.specs.Limits.{looper_limit}
use Rattle.ak_base.specs.Thread.{keeper_thread, main_thread, looper_thread}
use Rattle.ak_base.specs.declared.thread.ThreadId.{ThreadId}
use Rattle.ak_port.specs.PortCalls.{CanTake}
use Rattle.ak_action.specs.declared.plan.PlanParts.{PlanParts}
use Rattle.ak_action.specs.declared.state.DeskState.{DeskState}
use Rattle.ak_action.specs.Opening.{Opens, names_in}
use Rattle.ak_looper.specs.declared.door.Door.{Door}
use Rattle.ak_looper.specs.declared.kept_door.KeptDoor.{KeptDoor}
use Rattle.ak_looper.specs.Doors.{IsNewDoor}
use Rattle.ak_team.specs.declared.new_looper.NewLooper.{NewLooper}
use Rattle.ak_team.specs.declared.new_looper.Other.{Other}
use Rattle.ak_team.specs.declared.new_looper.Own.{Own}
use Rattle.ak_looper.specs.declared.shared.Shared.{Shared}
use Rattle.ak_looper.specs.NoHead.{HasNoNames}
use Rattle.ak_looper.specs.Shared.{AreSame}

-- its thread has a seat at its port and at its desk, which is as the plan says, and made nothing there; it can take from the port into the queue
pub record IsNewLooper (plans : List PlanParts) (team first : ℕ) (shared : Shared) (k : ℕ) (n : NewLooper) : Type 0 where
  pub number : n.number ≡ first + k
  pub within : first + k < looper_limit
  pub plan : PlanParts
  pub described : slice_get plans k ≡ Some plan
  pub shared_is : AreSame n.shared shared
  pub by_main : n.door.port_seat.thread ≡ main_thread
  pub port_is : arc_value n.own.port ≡ arc_value n.door.port
  pub desk_is : arc_value n.own.desk ≡ arc_value n.door.desk
  pub new : IsNewDoor (looper_thread (first + k)) n.own.port_seat n.own.desk_seat
  pub taker : ThreadId
  pub taker_is : taker.0 ≡ looper_thread (first + k)
  pub takes : CanTake taker (deque_capacity n.queue - deque_len n.queue) n.own.port_seat
  pub queue : n.queue.items ≡ []
  pub desk : DeskState
  pub opening_is : n.own.desk_seat.opening ≡ Some desk
  pub opens : Opens plan (first + k) team first (names_in plans) desk
  -- main's seat at the port is of that port's taker too
  pub port_opening : n.door.port_seat.opening ≡ Some taker
  pub desk_opening : n.door.desk_seat.opening ≡ Some desk
  -- nothing was done at the desk
  pub desk_front : n.door.desk_seat.front ≡ []
  -- neither main's seats are heads nor the thread's, since the keeper's are
  pub no_head : HasNoNames n.door
  pub own_no_head : HasNoNames n.own

-- the keeper's door leads to it, and tells those threads
pub record IsKept (threads : List ℕ) (n : NewLooper) (kept : KeptDoor) : Type 0 where
  pub port : arc_value kept.port ≡ arc_value n.door.port
  pub desk : arc_value kept.desk ≡ arc_value n.door.desk
  pub threads_are : kept.port_seat.names ≡ Some threads

-- the own looper's door leads to it
pub record IsWay (first : ℕ) (n : NewLooper) (way : Door) : Type 0 where
  pub port : arc_value way.port ≡ arc_value n.door.port
  pub desk : arc_value way.desk ≡ arc_value n.door.desk
  pub new : IsNewDoor (looper_thread first) way.port_seat way.desk_seat

-- the threads that have had seats at the own looper's port and desk, and at another one's
abbrev pub own_threads : ℕ → List ℕ
own_threads first = main_thread ∷ looper_thread first ∷ keeper_thread ∷ []

abbrev pub other_threads : ℕ → ℕ → List ℕ
other_threads first k = main_thread ∷ looper_thread (first + k) ∷ looper_thread first ∷ keeper_thread ∷ []

pub record IsNewOwn (plans : List PlanParts) (team first : ℕ) (shared : Shared) (o : Own) : Type 0 where
  pub looper : IsNewLooper plans team first shared 0 o.looper
  pub kept : IsKept (own_threads first) o.looper o.kept

pub record IsNewOther (plans : List PlanParts) (team first : ℕ) (shared : Shared) (k : ℕ) (o : Other) : Type 0 where
  pub looper : IsNewLooper plans team first shared k o.looper
  pub way : IsWay first o.looper o.way
  pub kept : IsKept (other_threads first k) o.looper o.kept
