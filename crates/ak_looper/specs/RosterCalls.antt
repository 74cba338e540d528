-- What each call at the roster says of the thread's clock and seat.
use Rattle.std.specs.Prelude.{◌≡◌, ℕ, false, List, Some}
use Rattle.std.specs.List.{list_any}
use Rattle.std.specs.Arc.{arc_value}
use Rattle.ak_base.specs.declared.app_word.AppWord.{AppWord}
use Rattle.ak_turn.specs.declared.clock.Clock.{Clock}
use Rattle.ak_roster.specs.declared.answer.FindAnswer.{FindAnswer}
use Rattle.ak_roster.specs.declared.answer.FindAnswer.TheVariants as found
use Rattle.ak_roster.specs.declared.entry.RosterEvent.TheVariants as event
use Rattle.ak_roster.specs.declared.head.AppHead.{AppHead}
use Rattle.ak_roster.specs.Heads.{team_for}
use Rattle.ak_roster.specs.Machine.{find_of, runs_team, state_of}
use Rattle.ak_roster.specs.Roster.{plain_entries}
use Rattle.ak_action.specs.declared.answer.Answer.{Answer}
use Rattle.ak_action.specs.declared.answer.Answer.TheVariants as answer
use Rattle.ak_looper.specs.declared.door.Door.{Door}
use Rattle.ak_looper.specs.Doors.{IsNewDoor}
use Rattle.ak_roster.specs.declared.entry.EntryWithObjects.{EntryWithObjects}
use Rattle.ak_looper.specs.Rosters.{HasEntered, HasLooked, LeadsTo, Object, RosterSeat, plain_of}
use Rattle.ak_diary.specs.Wants.{found_answer}

-- what a look-up found, as the message hears it
abbrev pub heard_find : FindAnswer → Answer
heard_find (found.Team team first loopers) = answer.Team team first
heard_find found.NoTeam = answer.NoTeam
heard_find found.NoMemory = answer.NoMemory

-- one entry of the look-up, and the machine's answer at its place
pub record HasLookedUp (word : AppWord) (a : Answer) (clock clock' : Clock) (seat seat' : RosterSeat) : Type 0 where
  pub heads : List AppHead
  pub opening : seat'.opening ≡ Some heads
  pub before : List (EntryWithObjects Object)
  pub entered : HasEntered clock clock' (event.Find word (find_of heads (state_of heads (plain_entries before)) word)) seat seat'
  pub before_is : entered.before ≡ before
  pub answer_is : a ≡ found_answer (team_for heads (state_of heads (plain_entries before)).running word)

abbrev pub HasFound : AppWord → Answer → Clock → Clock → RosterSeat → RosterSeat → Type 0
HasFound word answer.NoMemory clock clock' seat seat' = HasLooked clock clock' seat seat'
HasFound word a clock clock' seat seat' = HasLookedUp word a clock clock' seat seat'

-- the team was found not to run
pub record HasSeenGone (team : ℕ) (clock clock' : Clock) (seat seat' : RosterSeat) : Type 0 where
  pub looked : HasLooked clock clock' seat seat'
  pub heads : List AppHead
  pub opening : seat'.opening ≡ Some heads
  pub gone : list_any (runs_team team) (state_of heads (plain_of seat')).running ≡ false

-- it was entered that the team no longer runs, or found so
pub data HasLeft (team : ℕ) (clock clock' : Clock) (seat seat' : RosterSeat) : Type 0 where
  entered : HasEntered clock clock' (event.Gone team) seat seat' → HasLeft team clock clock' seat seat'
  seen : HasSeenGone team clock clock' seat seat' → HasLeft team clock clock' seat seat'

abbrev pub HasEnteredDoor : ℕ → Clock → Clock → RosterSeat → RosterSeat → Type 0
HasEnteredDoor looper clock clock' seat seat' = HasEntered clock clock' (event.Door looper) seat seat'

abbrev pub HasSeenNone : Clock → Clock → RosterSeat → RosterSeat → Type 0
HasSeenNone clock clock' seat seat' = HasLooked clock clock' seat seat'

-- a new door of the seat's thread, to what the roster pairs with that looper
pub record IsPartOf (looper : ℕ) (seat : RosterSeat) (d : Door) : Type 0 where
  pub new : IsNewDoor seat.thread d.port_seat d.desk_seat
  pub leads : LeadsTo seat looper (arc_value d.port) (arc_value d.desk)
