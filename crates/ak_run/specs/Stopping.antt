-- What main does where a looper of a team that it launched gets no thread: the team is ended again.
use Rattle.std.specs.Prelude.{◌≡◌, ◌⊎◌, ◌+◌, ℕ, List, [], ◌∷◌, ◌++◌, length, None}
use Rattle.std.specs.List.{find, range_with_len}
use Rattle.ak_turn.specs.Entries.{StartsWith}
use Rattle.ak_roster.specs.Machine.{runs_team, state_of}
use Rattle.ak_roster.specs.declared.entry.RosterEntry.{RosterEntry}
use Rattle.ak_roster.specs.declared.head.AppHead.{AppHead}
use Rattle.ak_roster.specs.declared.team.Running.{Running}
use Rattle.ak_port.specs.declared.port_entry.PortEntry.{PortEntry}
use Rattle.ak_describe.specs.Whole.{heads_of}
use Rattle.ak_diary.specs.Step.{Step, saw_roster}
use Rattle.ak_diary.specs.Turns.{ShutsAll}
use Rattle.ak_looper.specs.Rosters.{plain_of}
use Rattle.ak_team.specs.declared.launching.Team.{Team}
use Rattle.ak_run.specs.declared.run.Run.{Run}
use Rattle.ak_run.specs.Closing.{EntersGone}
use Rattle.ak_run.specs.Recording.{RecordsAtNew, RecordsBesideSo, RecordsSo, RecordsStart, fronts_with}

-- ---- the steps
-- it did not run any more, as main saw in a list that goes on from that one
pub record SeesGone (heads : List AppHead) (before : List RosterEntry) (team : ℕ) (steps : List Step) : Type 0 where
  pub seen : List RosterEntry
  pub on : StartsWith seen before
  pub gone : find (runs_team team) (state_of heads seen).running ≡ None
  pub is : steps ≡ saw_roster seen ∷ []

-- it ran, and that it is gone is one entry at the roster; or it did not run any more
abbrev pub LeavesOrSees : List AppHead → List RosterEntry → ℕ → List Step → Type 0
LeavesOrSees heads before team steps = ((running : Running) × EntersGone heads team running steps) ⊎ SeesGone heads before team steps

-- a team of which a looper got no thread is ended: it is gone, and then each of its ports is shut, or found to be, in order
pub record StopsTeam (heads : List AppHead) (before : List RosterEntry) (team first loopers : ℕ) (steps : List Step) : Type 0 where
  pub gone : List Step
  pub leaves : LeavesOrSees heads before team gone
  pub shut : List Step
  pub shuts : ShutsAll (range_with_len first loopers) shut
  pub is : steps ≡ gone ++ shut

-- ---- calls
-- so many of its loopers are main's, which are the last ones that it has
abbrev pub HasOf : Team → ℕ → Run → Type 0
HasOf t loopers r = t.first + loopers ≡ length r.members.items

-- the team is ended as one with so many loopers, behind what main has seen at the roster
abbrev pub Stops : Team → Run → ℕ → List Step → Type 0
Stops t r loopers steps = StopsTeam (heads_of r.apps.items) (plain_of r.roster_seat) t.number t.first loopers steps

-- with those that main has
abbrev pub StopsBeside : Team → Run → Run → Type 0
StopsBeside t r r' = (loopers : ℕ) → HasOf t loopers r → RecordsBesideSo (Stops t r loopers) r r'

-- and with the next one, whose port is new
abbrev pub StopsAtNew : Team → List PortEntry → List PortEntry → Run → Run → Type 0
StopsAtNew t port port' r r' = (loopers : ℕ) → HasOf t loopers r → RecordsAtNew (Stops t r (loopers + 1)) port port' r r'

-- which is new no more
abbrev pub StopsStart : Team → List PortEntry → Run → Run → Type 0
StopsStart t port r r' = (loopers : ℕ) → HasOf t loopers r → RecordsStart (Stops t r (loopers + 1)) port r r'

-- the loopers that main has by then, where new ports were left before and then
abbrev pub StopsSince : Team → Run → List (List PortEntry) → Run → List (List PortEntry) → Type 0
StopsSince t r new r' new' = (loopers : ℕ) → HasOf t loopers r' → RecordsSo (Stops t r loopers) (fronts_with r new) (fronts_with r' new')
