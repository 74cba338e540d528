-- What a look-up and an edit say of the thread's clock and seat.
use Rattle.std.specs.Prelude.{◌≡◌, ◌+◌, ◌≤◌, ℕ, List, Option, None, Some}
use Rattle.ak_base.specs.Limits.{looper_limit}
use Rattle.ak_base.specs.declared.app_word.AppWord.{AppWord}
use Rattle.ak_turn.specs.declared.clock.Clock.{Clock}
use Rattle.ak_roster.specs.declared.answer.FindAnswer.{FindAnswer}
use Rattle.ak_roster.specs.declared.answer.FindAnswer.TheVariants as answer
use Rattle.ak_roster.specs.declared.entry.RosterEvent.TheVariants as event
use Rattle.ak_roster.specs.declared.head.AppHead.{AppHead}
use Rattle.ak_roster.specs.declared.team.Running.{Running}
use Rattle.ak_roster.specs.Heads.{team_for}
use Rattle.ak_roster.specs.Machine.{outcome_found, state_of}
use Rattle.ak_roster.specs.Roster.{plain_entries}
use Rattle.ak_looper.specs.Rosters.{HasEntered, HasLooked, RosterSeat}
use Rattle.ak_session.specs.declared.answers.Found.{Found}
use Rattle.ak_desk.specs.declared.entry.DeskEvent.{DeskEvent}
use Rattle.ak_desk.specs.declared.entry.DeskEvent.TheVariants as desk_event
use Rattle.ak_desk.specs.declared.entry.Edit.{Edit}
use Rattle.ak_session.specs.declared.answers.Edited.{Edited}
use Rattle.ak_session.specs.declared.answers.Edited.TheVariants as edited
use Rattle.ak_session.specs.declared.answers.Found.TheVariants as found

-- ---- a look-up
-- one entry with that team or none, as the machine finds it there
pub record HasLookedUp (word : AppWord) (running : Option Running) (clock clock' : Clock) (seat seat' : RosterSeat) : Type 0 where
  pub heads : List AppHead
  pub opening : seat'.opening ≡ Some heads
  pub entered : HasEntered clock clock' (event.Find word (outcome_found running)) seat seat'
  pub running_is : running ≡ team_for heads (state_of heads (plain_entries entered.before)).running word

abbrev pub HasFound : AppWord → FindAnswer → Clock → Clock → RosterSeat → RosterSeat → Type 0
HasFound word (answer.Team team first loopers) clock clock' seat seat' =
    (description : ℕ) × HasLookedUp word (Some (record { team = team; description = description; first = first; loopers = loopers })) clock clock' seat seat'
HasFound word answer.NoTeam clock clock' seat seat' = HasLookedUp word None clock clock' seat seat'
HasFound word answer.NoMemory clock clock' seat seat' = HasLooked clock clock' seat seat'

-- a team that was found has a looper, and none past the last number that a looper may have
abbrev pub IsOfLoopers : FindAnswer → Type 0
IsOfLoopers (answer.Team team first loopers) = (1 ≤ loopers) × (first + loopers ≤ looper_limit)
IsOfLoopers answer.NoTeam = Unit {0}
IsOfLoopers answer.NoMemory = Unit {0}

-- it is an entry: all but want of memory is
abbrev pub IsEntered : FindAnswer → Type 0
IsEntered (answer.Team team first loopers) = Unit {0}
IsEntered answer.NoTeam = Unit {0}
IsEntered answer.NoMemory = ⊥

-- the same answer, with the place of the last of so many entries
abbrev pub IsFoundAt : FindAnswer → ℕ → Found → Type 0
IsFoundAt (answer.Team team first loopers) seen result = (place : ℕ) × (result ≡ found.Team team first loopers place) × (seen ≡ place + 1)
IsFoundAt answer.NoTeam seen result = (place : ℕ) × (result ≡ found.NoTeam place) × (seen ≡ place + 1)
IsFoundAt answer.NoMemory seen result = result ≡ found.NoMemory

-- ---- an edit
-- its event, where it is an entry
abbrev pub edited_event : Edit → Edited → Option DeskEvent
edited_event edit (edited.Entered came place) = Some (desk_event.Edited edit came)
edited_event edit edited.NoMemory = None

-- that entry is the last of so many
abbrev pub IsAtPlace : Edited → ℕ → Type 0
IsAtPlace (edited.Entered came place) seen = seen ≡ place + 1
IsAtPlace edited.NoMemory seen = Unit {0}
