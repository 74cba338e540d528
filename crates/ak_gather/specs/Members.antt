-- The loopers that were started, as main has them.
use Rattle.std.specs.Prelude.{List, ◌≡◌, Any, Some}
use Rattle.ak_port.specs.declared.port_entry.PortEntry.{PortEntry}
use Rattle.ak_desk.specs.Entry.{EntryData}
use Rattle.ak_gather.specs.declared.member.Member.{Member}
use Rattle.std.specs.Arc.{arc_value}
use Rattle.ak_base.specs.Thread.{looper_thread, main_thread}
use Rattle.ak_base.specs.declared.thread.ThreadId.{ThreadId}
use Rattle.ak_turn.specs.Entries.{StartsWith}
use Rattle.ak_roster.specs.declared.head.AppHead.{AppHead}
use Rattle.ak_action.specs.declared.state.DeskState.{DeskState}
use Rattle.ak_looper.specs.Job.{IsReady, facts_of, HasLived}
use Rattle.ak_looper.specs.Rosters as rosters
use Rattle.ak_looper.specs.Rosters.{LeadsTo}
use Rattle.ak_looper.specs.declared.shared.Shared.{Shared}
use Rattle.ak_looper.specs.NoHead.{HasNoNames}
use Rattle.ak_looper.specs.Starts.{StartsAt}
use Rattle.ak_looper.specs.declared.job.LooperJob.{LooperJob}
use Rattle.ak_gather.specs.declared.member.Life.{Life}
use Rattle.ak_gather.specs.declared.member.Life.TheVariants as life

-- its thread is to give back what comes of that job, or it has come of it
abbrev pub IsLifeOf : LooperJob → Life → Type 0
IsLifeOf job (life.Running handle) = handle.promise.0.value ≡ job
IsLifeOf job (life.Over end) = HasLived job end

-- what main's seat at its port has seen
abbrev pub member_front : Member → List PortEntry
member_front m = m.door.port_seat.front

-- and its seat at its desk
abbrev pub member_desk_front : Member → List EntryData
member_desk_front m = m.door.desk_seat.front

-- ---- a looper that was started
-- main's door leads to the port and the desk that the thread was started with, which the roster pairs with its number; neither main nor the
-- thread is the head there; its seats at what all share are at those locks, and at the roster it had seen no more than main has. Its time
-- begins at the launch of its team
pub record IsMember (heads : List AppHead) (shared : Shared) (roster : rosters.RosterSeat) (m : Member) : Type 0 where
  pub number : m.job.value.number ≡ m.number
  pub ready : IsReady m.job.value
  pub at_port : m.job.value.own.port_seat.lock ≡ m.door.port_seat.lock
  pub at_desk : m.job.value.own.desk_seat.lock ≡ m.door.desk_seat.lock
  pub leads : LeadsTo roster m.number m.door.port_seat.lock m.door.desk_seat.lock
  pub no_head : HasNoNames m.door
  pub own_no_head : HasNoNames m.job.value.own
  pub at_book : m.job.value.hands.book_seat.lock ≡ arc_value shared.book
  pub at_roster : m.job.value.roster_seat.lock ≡ arc_value shared.roster
  pub heads_are : m.job.value.roster_seat.opening ≡ Some heads
  pub seen : StartsWith roster.front m.job.value.roster_seat.front
  pub begins : (desk : DeskState) → Any (StartsAt (facts_of m.job.value heads desk) m.job.value.hands.clock.time) m.job.value.roster_seat.front
  pub by_main : m.door.port_seat.thread ≡ main_thread
  pub taker : ThreadId
  pub taker_is : taker.0 ≡ looper_thread m.number
  pub port_opening : m.door.port_seat.opening ≡ Some taker
  pub desk : DeskState
  pub desk_opening : m.door.desk_seat.opening ≡ Some desk
  pub job_desk : m.job.value.own.desk_seat.opening ≡ Some desk
  pub life : IsLifeOf m.job.value m.life
