-- What a looper's job needs.
use Rattle.std.specs.Prelude.{◌≡◌, ℕ, ◌+◌, ◌≤◌, false, List, [], length, map, All, Any, Some}
use Rattle.std.specs.Arc.{arc_value}
use Rattle.ak_base.specs.Limits.{looper_limit}
use Rattle.ak_base.specs.Thread.{looper_thread}
use Rattle.ak_turn.specs.Noted.{noted}
use Rattle.ak_turn.specs.Seats.{SeatData}
use Rattle.ak_roster.specs.declared.head.AppHead.{AppHead}
use Rattle.ak_port.specs.ReplySeats as books
use Rattle.ak_action.specs.declared.plan.PlanParts.{PlanParts}
use Rattle.ak_action.specs.declared.state.DeskState.{DeskState}
use Rattle.ak_describe.specs.declared.described.AppText.{AppText}
use Rattle.ak_diary.specs.Looper.{LooperFacts}
use Rattle.ak_looper.specs.declared.door.Door.{Door}
use Rattle.ak_looper.specs.declared.job.LooperJob.{LooperJob}
use Rattle.ak_looper.specs.Doors.{IsNewDoor}
use Rattle.ak_looper.specs.Rosters.{LeadsTo, RosterSeat, maker_of, plain_of}
use Rattle.ak_looper.specs.Stands.{doors_kept}
use Rattle.ak_team.specs.declared.launching.Team.{Team}
use Rattle.ak_team.specs.declared.new_looper.NewLooper.{NewLooper}
use Rattle.ak_team.specs.NewLooper.{IsNewLooper}
use Rattle.ak_team.specs.NewTeam.{IsOneOf}
use Rattle.ak_base.specs.declared.app_word.AppWord.{AppWord}
use Rattle.ak_roster.specs.declared.entry.RosterEntry.{RosterEntry}
use Rattle.ak_roster.specs.declared.entry.RosterEvent.TheVariants as event
use Rattle.ak_roster.specs.declared.entry.LaunchOutcome.TheVariants as outcome
use Rattle.ak_looper.specs.Starts.{StartsAt}

-- by a launch of the application at that place among the descriptions this team was started, whose first looper has that number
abbrev pub IsLaunchOf : ℕ → ℕ → ℕ → RosterEntry → Type 0
IsLaunchOf description team first entry = (word : AppWord) × (entry.event ≡ event.Launch word (outcome.Started description team first))

-- the roster pairs the looper with what main's door to it leads to
abbrev pub IsPaired : RosterSeat → NewLooper → Type 0
IsPaired roster n = LeadsTo roster n.number (arc_value n.door.port) (arc_value n.door.desk)

-- a looper of that team
abbrev pub facts_in : List AppHead → Team → ℕ → DeskState → LooperFacts
facts_in heads t number desk = record { number = number; team = t.number; first = t.first; loopers = t.loopers; heads = heads; desk = desk }

-- the launch that started the team is in that list, at the team's time
abbrev pub IsStartedIn : List AppHead → Team → DeskState → RosterSeat → Type 0
IsStartedIn heads t desk roster = Any (StartsAt (facts_in heads t t.first desk) t.time) roster.front

-- that list has a launch of the application of these plans, by which the team was started
pub record IsStartedFrom (apps : List AppText) (plans : List PlanParts) (t : Team) (roster : RosterSeat) : Type 0 where
  pub description : ℕ
  pub described : IsOneOf apps description plans
  pub launched : Any (IsLaunchOf description t.number t.first) (plain_of roster)

-- a thread's seat, without a turn, by which it made nothing
pub record IsIdle {O L : Type 0} (thread : ℕ) (seat : SeatData O L) : Type 0 where
  pub idle : seat.turn ≡ false
  pub thread_is : seat.thread ≡ thread

-- the doors that it is to have: it made nothing there, and they lead to what the roster pairs with their loopers
pub record HasWays (facts : LooperFacts) (roster : RosterSeat) (ways : List (ℕ × Door)) : Type 0 where
  pub numbers : map (λ (way : ℕ × Door). way.0) ways ≡ doors_kept facts
  pub new : All (λ (way : ℕ × Door). IsNewDoor (looper_thread facts.number) way.1.port_seat way.1.desk_seat) ways
  pub lead : All (λ (way : ℕ × Door). LeadsTo roster way.0 way.1.port_seat.lock way.1.desk_seat.lock) ways

-- its thread's seats at what all threads share have seen its launch, and it made nothing there
pub record CanStart (heads : List AppHead) (plans : List PlanParts) (k : ℕ) (t : Team) (n : NewLooper) (ways : List (ℕ × Door)) (book : books.ReplySeat) (roster : RosterSeat) : Type 0 where
  pub new : IsNewLooper plans t.number t.first n.shared k n
  pub count : t.loopers ≡ length plans
  pub within : t.first + t.loopers ≤ looper_limit
  pub at_book : IsIdle (looper_thread n.number) book
  pub book_of : book.lock ≡ arc_value n.shared.book
  pub book_nothing : noted books.maker_of book.thread book.front ≡ []
  pub at_roster : IsIdle (looper_thread n.number) roster
  pub roster_of : roster.lock ≡ arc_value n.shared.roster
  pub roster_nothing : noted maker_of roster.thread (plain_of roster) ≡ []
  pub heads_are : roster.opening ≡ Some heads
  pub launched : (desk : DeskState) → IsStartedIn heads t desk roster
  pub ways_are : (desk : DeskState) → HasWays (facts_in heads t n.number desk) roster ways

-- it is the job of that looper
pub record IsJobOf (t : Team) (n : NewLooper) (book : books.ReplySeat) (roster : RosterSeat) (job : LooperJob) : Type 0 where
  pub number : job.number ≡ n.number
  pub team : job.team ≡ t.number
  pub first : job.first ≡ t.first
  pub loopers : job.loopers ≡ t.loopers
  pub own : job.own ≡ n.own
  pub book_is : job.hands.book ≡ n.shared.book
  pub book_seat : job.hands.book_seat ≡ book
  pub roster_is : job.roster ≡ n.shared.roster
  pub roster_seat : job.roster_seat ≡ roster
  pub time : job.hands.clock.time ≡ t.time
