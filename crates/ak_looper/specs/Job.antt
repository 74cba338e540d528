-- What a looper's thread is started with, and what its life comes to.
use Rattle.std.specs.Prelude.{◌≡◌, ◌+◌, ◌≤◌, ℕ, ◌-◌, true, List, [], ◌∷◌, ◌++◌, map, All, Any, Some}
use Rattle.std.specs.VecDeque.{deque_len, deque_capacity}
use Rattle.ak_base.specs.Limits.{looper_limit}
use Rattle.ak_roster.specs.declared.head.AppHead.{AppHead}
use Rattle.ak_turn.specs.Called.{KeepsSeat}
use Rattle.ak_turn.specs.Noted.{noted}
use Rattle.ak_port.specs.PortCalls as ports
use Rattle.ak_port.specs.PortCalls.{CanTake}
use Rattle.ak_port.specs.ReplySeats as books
use Rattle.ak_desk.specs.Shared as desks
use Rattle.ak_action.specs.declared.state.DeskState.{DeskState}
use Rattle.ak_looper.specs.declared.door.Door.{Door}
use Rattle.ak_looper.specs.declared.at_work.Life.{Life}
use Rattle.ak_looper.specs.declared.job.EndKind.{EndKind}
use Rattle.ak_looper.specs.declared.job.LooperJob.{LooperJob}
use Rattle.ak_looper.specs.declared.job.LooperEnd.{LooperEnd}
use Rattle.ak_looper.specs.Living.{kind_of}
use Rattle.ak_looper.specs.Rosters.{maker_of, plain_of}
use Rattle.ak_looper.specs.declared.reach.Reach.{Reach}
use Rattle.ak_looper.specs.Stands.{BookStands, DeskStands, DoorStands, GoesOn, IsAtOneOf, PortStands, RosterStands, Stands, StartsTeam, doors_kept}
use Rattle.ak_looper.specs.Ways.{KeepsReach}
use Rattle.ak_diary.specs.Turns.{LeavesAll}
use Rattle.ak_diary.specs.Diary.{IsDiary, ending_of}
use Rattle.ak_diary.specs.Looper.{LooperFacts, doors_got, is_of_team}
use Rattle.ak_diary.specs.Step.{Step, AreStamped, time_of}

-- the looper of a job, in a run of these applications, whose desk was opened so
abbrev pub facts_of : LooperJob → List AppHead → DeskState → LooperFacts
facts_of job heads desk = record { number = job.number; team = job.team; first = job.first; loopers = job.loopers; heads = heads; desk = desk }

-- the thread has made nothing at any of its seats; its own port is the one that it takes from; its desk is its own; it has the doors that
-- it is to have; and its seat at the roster has seen the launch of its team
pub record IsReady (job : LooperJob) : Type 0 where
  pub heads : List AppHead
  pub heads_are : job.roster_seat.opening ≡ Some heads
  pub desk_opening : DeskState
  pub desk_is : job.own.desk_seat.opening ≡ Some desk_opening
  pub desk_looper : desk_opening.looper ≡ job.number
  pub launched : Any (StartsTeam (facts_of job heads desk_opening)) job.roster_seat.front
  pub of_team : is_of_team (facts_of job heads desk_opening) job.number ≡ true
  pub within : job.first + job.loopers ≤ looper_limit
  pub book_nothing : noted books.maker_of job.hands.book_seat.thread job.hands.book_seat.front ≡ []
  pub roster_nothing : noted maker_of job.roster_seat.thread (plain_of job.roster_seat) ≡ []
  pub port_nothing : noted ports.by_number job.own.port_seat.thread job.own.port_seat.front ≡ []
  pub desk_nothing : noted desks.by_number job.own.desk_seat.thread job.own.desk_seat.front ≡ []
  pub takes : CanTake job.hands.clock.thread (deque_capacity job.queue - deque_len job.queue) job.own.port_seat
  pub queue : job.queue.items ≡ []
  pub doors : map (λ (door : ℕ × Door). door.0) job.doors.items ≡ doors_kept (facts_of job heads desk_opening)
  pub doors_thread : All (λ (door : ℕ × Door). door.1.port_seat.thread ≡ job.hands.clock.thread.0) job.doors.items
  pub doors_stand : All (DoorStands [] job.roster_seat) job.doors.items

-- What the thread made at all its seats is one diary that the rules allow, from the clock's time on; how it ended is as that tells. Each
-- seat is one at the same lock as before; the doors are those that it had and those that the diary got, each of which leads to what the
-- roster pairs with its looper. A step at a port is at its own or behind one of these doors
pub record HasLived (job : LooperJob) (end : LooperEnd) : Type 0 where
  pub heads : List AppHead
  pub heads_are : job.roster_seat.opening ≡ Some heads
  pub desk_opening : DeskState
  pub desk_is : job.own.desk_seat.opening ≡ Some desk_opening
  pub steps : List Step
  pub legal : IsDiary (facts_of job heads desk_opening) steps
  pub stamped : AreStamped job.hands.clock.time steps
  pub time : time_of job.hands.clock.time steps ≡ end.hands.clock.time
  pub number : end.number ≡ job.number
  pub kind : end.kind ≡ kind_of (ending_of (facts_of job heads desk_opening) steps)
  pub thread : end.hands.clock.thread ≡ job.hands.clock.thread
  pub book_lock : end.hands.book ≡ job.hands.book
  pub book_kept : KeepsSeat job.hands.book_seat end.hands.book_seat
  pub roster_kept : KeepsSeat job.roster_seat end.roster_seat
  pub port_kept : KeepsSeat job.own.port_seat end.own.port_seat
  pub desk_kept : KeepsSeat job.own.desk_seat end.own.desk_seat
  pub book : BookStands steps end.hands.book_seat
  pub roster : RosterStands steps end.roster_seat
  pub port : PortStands steps job.number end.own.port_seat
  pub desk : DeskStands (facts_of job heads desk_opening) steps end.own.desk_seat
  pub doors : All (DoorStands steps end.roster_seat) end.doors.items
  pub doors_thread : All (λ (door : ℕ × Door). door.1.port_seat.thread ≡ end.hands.clock.thread.0) end.doors.items
  pub ways : map (λ (door : ℕ × Door). door.0) end.doors.items ≡ map (λ (door : ℕ × Door). door.0) job.doors.items ++ doors_got steps
  pub at_ways : All (IsAtOneOf (end.number ∷ map (λ (door : ℕ × Door). door.0) end.doors.items)) steps

-- the thread as it begins: with all that the job has
pub record BeginsSo (job : LooperJob) (life : Life) : Type 0 where
  pub number : life.reach.number ≡ job.number
  pub team : life.reach.team ≡ job.team
  pub first : life.reach.first ≡ job.first
  pub loopers : life.reach.loopers ≡ job.loopers
  pub hands : life.reach.hands ≡ job.hands
  pub port : life.reach.port ≡ job.own.port
  pub port_seat : life.reach.port_seat ≡ job.own.port_seat
  pub doors : life.reach.doors ≡ job.doors
  pub roster : life.reach.roster ≡ job.roster
  pub roster_seat : life.reach.roster_seat ≡ job.roster_seat
  pub desk : life.desk ≡ job.own.desk
  pub desk_seat : life.desk_seat ≡ job.own.desk_seat
  pub queue : life.queue ≡ job.queue

-- what it gives back, once what is left was answered
pub record EndsSo (life : Life) (k : EndKind) (end : LooperEnd) : Type 0 where
  pub number : end.number ≡ life.reach.number
  pub kind : end.kind ≡ k
  pub desk_seat : end.own.desk_seat ≡ life.desk_seat
  pub desk : end.own.desk ≡ life.desk
  pub reach : Reach
  pub keeps : KeepsReach life.reach reach
  pub hands : end.hands ≡ reach.hands
  pub port : end.own.port ≡ reach.port
  pub port_seat : end.own.port_seat ≡ reach.port_seat
  pub doors : end.doors ≡ reach.doors
  pub roster_seat : end.roster_seat ≡ reach.roster_seat
  pub goes : (l : LooperFacts) (start : ℕ) (so_far : List Step) → Stands l start so_far life.reach → GoesOn l start so_far (LeavesAll life.queue.items) reach
