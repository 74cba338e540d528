-- Loopers that start, one after another.
use Rattle.std.specs.Prelude.{◌≡◌, ℕ, ◌+◌, ◌≤◌, ◌<◌, List, [], ◌∷◌, length, All}
use Rattle.ak_base.specs.Limits.{app_looper_limit, looper_limit}
use Rattle.ak_turn.specs.Entries.{StartsWith}
use Rattle.ak_turn.specs.Seats.{KnowsWhole, titled_seat}
use Rattle.ak_turn.specs.Steps.{names_with}
use Rattle.ak_roster.specs.declared.head.AppHead.{AppHead}
use Rattle.ak_action.specs.declared.plan.PlanParts.{PlanParts}
use Rattle.ak_action.specs.declared.state.DeskState.{DeskState}
use Rattle.ak_port.specs.declared.port_entry.PortEntry.{PortEntry}
use Rattle.ak_port.specs.ReplySeats as books
use Rattle.ak_looper.specs.Rosters as rosters
use Rattle.ak_looper.specs.declared.door.Door.{Door}
use Rattle.ak_looper.specs.declared.kept_door.KeptDoor.{KeptDoor}
use Rattle.ak_team.specs.declared.launching.Launch.{Launch}
use Rattle.ak_team.specs.declared.launching.Launch.TheVariants as launch
use Rattle.ak_team.specs.declared.launching.Team.{Team}
use Rattle.ak_team.specs.declared.new_looper.NewLooper.{NewLooper}
use Rattle.ak_team.specs.declared.new_team.NewTeam.{NewTeam}
use Rattle.ak_run.specs.declared.run.Run.{Run}
use Rattle.ak_looper.specs.Counting.{started_by_main}
use Rattle.ak_run.specs.Doing.{IsQuietAtDesks, desk_front}
use Rattle.ak_team.specs.Jobs.{HasWays, IsStartedFrom, IsStartedIn, facts_in, IsPaired}
use Rattle.ak_team.specs.NewLooper.{IsNewLooper}
use Rattle.ak_team.specs.NewTeam.{AreOthers, IsNewTeam}
use Rattle.ak_run.specs.Recording.{HasRecord, RecordsBeside, fronts_with}
use Rattle.ak_team.specs.InTime.{team_fronts}
use Rattle.ak_run.specs.Running.{IsRunning, KeepsRest, Stands}

-- the run goes on with the loopers that it has; main launched nothing, and edited nothing
pub record GoesOn (r r' : Run) : Type 0 where
  pub stands : (next : ℕ) (heads : List AppHead) → Stands next heads r → Stands next heads r'
  pub started : (next : ℕ) (heads : List AppHead) → Stands next heads r → started_by_main heads r'.roster_seat ≡ started_by_main heads r.roster_seat
  pub count : length r'.members.items ≡ length r.members.items
  pub on : StartsWith r'.roster_seat.front r.roster_seat.front
  pub shared : r'.shared ≡ r.shared
  pub apps : r'.apps ≡ r.apps
  pub slots : r'.slots ≡ r.slots
  pub desks_on : IsQuietAtDesks r r'
  pub recorded : RecordsBeside r r'

-- the same, where main may have made entries at the port of a looper that is about to start
pub record GoesOnAtNew (r r' : Run) : Type 0 where
  pub stands : (next : ℕ) (heads : List AppHead) → Stands next heads r → Stands next heads r'
  pub started : (next : ℕ) (heads : List AppHead) → Stands next heads r → started_by_main heads r'.roster_seat ≡ started_by_main heads r.roster_seat
  pub count : length r'.members.items ≡ length r.members.items
  pub on : StartsWith r'.roster_seat.front r.roster_seat.front
  pub shared : r'.shared ≡ r.shared
  pub apps : r'.apps ≡ r.apps
  pub slots : r'.slots ≡ r.slots
  pub desks_on : IsQuietAtDesks r r'

-- the same, with so many loopers more that have their threads
pub record GoesOnWith (more : ℕ) (r r' : Run) : Type 0 where
  pub stands : (heads : List AppHead) → Stands (length r.members.items) heads r → Stands (length r'.members.items) heads r'
  pub started : (heads : List AppHead) → Stands (length r.members.items) heads r → started_by_main heads r'.roster_seat ≡ started_by_main heads r.roster_seat
  pub count : length r'.members.items ≡ length r.members.items + more
  pub on : StartsWith r'.roster_seat.front r.roster_seat.front
  pub shared : r'.shared ≡ r.shared
  pub apps : r'.apps ≡ r.apps
  pub slots : r'.slots ≡ r.slots
  pub desks_on : IsQuietAtDesks r r'

-- the looper is the next one of a team whose launch main's seat has seen
pub record MayStart (heads : List AppHead) (plans : List PlanParts) (k : ℕ) (t : Team) (n : NewLooper) (ways : List (ℕ × Door)) (r : Run) : Type 0 where
  pub stands : Stands (length r.members.items) heads r
  pub new : IsNewLooper plans t.number t.first r.shared k n
  pub next : t.first + k ≡ length r.members.items
  pub described : IsStartedFrom r.apps.items plans t r.roster_seat
  pub loopers : t.loopers ≡ length plans
  pub within : t.first + t.loopers ≤ looper_limit
  pub launched : (desk : DeskState) → IsStartedIn heads t desk r.roster_seat
  pub ways_are : (desk : DeskState) → HasWays (facts_in heads t n.number desk) r.roster_seat ways
  pub paired : IsPaired r.roster_seat n

-- so is each looper of it
pub record MayStartTeam (heads : List AppHead) (plans : List PlanParts) (kept : List KeptDoor) (t : Team) (new : NewTeam) (r : Run) : Type 0 where
  pub stands : Stands (length r.members.items) heads r
  pub team : IsNewTeam plans t.number t.first r.shared new kept
  pub next : t.first ≡ length r.members.items
  pub described : IsStartedFrom r.apps.items plans t r.roster_seat
  pub loopers : t.loopers ≡ length plans
  pub all : length plans ≡ length new.others.items + 1
  pub within : t.first + t.loopers ≤ looper_limit
  pub launched : (desk : DeskState) → IsStartedIn heads t desk r.roster_seat
  pub ways_are : (desk : DeskState) → HasWays (facts_in heads t t.first desk) r.roster_seat new.ways.items
  pub paired : All (IsPaired r.roster_seat) (new.own ∷ new.others.items)

-- seats of that thread were split from main's, which knows as much as before
pub record HasSplit (thread : ℕ) (r r' : Run) : Type 0 where
  pub rest : KeepsRest r r'
  pub time : r'.hands.clock.time ≡ r.hands.clock.time
  pub members : r'.members ≡ r.members
  pub book_seat : r'.hands.book_seat ≡ titled_seat (names_with r.hands.book_seat.names thread) r.hands.book_seat
  pub roster_seat : r'.roster_seat ≡ titled_seat (names_with r.roster_seat.names thread) r.roster_seat
  pub book_known : KnowsWhole books.maker_of r.hands.book_seat → KnowsWhole books.maker_of r'.hands.book_seat
  pub roster_known : KnowsWhole rosters.by_number r.roster_seat → KnowsWhole rosters.by_number r'.roster_seat

-- ---- behind the turn in which a launch was entered
abbrev pub HasEnteredLaunch : Run → Run → Launch → Type 0
HasEnteredLaunch r r' (launch.Started s) =
    (heads : List AppHead) × (plans : List PlanParts) × (kept : List KeptDoor) × MayStartTeam heads plans kept s.team s.new r'
    × (s.team.loopers ≤ app_looper_limit) × (started_by_main heads r'.roster_seat ≡ length r'.members.items + s.team.loopers)
    × HasRecord heads (fronts_with r' (team_fronts s.new)) (desk_front r')
HasEnteredLaunch r r' (launch.Running team first) = IsRunning r' × (first < length r'.members.items)
HasEnteredLaunch r r' launch.NotFound = IsRunning r'
HasEnteredLaunch r r' launch.Limit = IsRunning r'
HasEnteredLaunch r r' launch.NoMemory = IsRunning r'

-- the new ports of the team that is to start
abbrev pub launched_fronts : Launch → List (List PortEntry)
launched_fronts (launch.Started s) = team_fronts s.new
launched_fronts (launch.Running team first) = []
launched_fronts launch.NotFound = []
launched_fronts launch.Limit = []
launched_fronts launch.NoMemory = []

-- ---- while the loopers of a team start
-- so many were started, and these are to follow
pub record IsStarting (t : Team) (before now : Run) (rest : List NewLooper) : Type 0 where
  pub heads : List AppHead
  pub plans : List PlanParts
  pub so_far : ℕ
  pub some : 1 ≤ so_far
  pub stands : Stands (length now.members.items) heads now
  pub next : t.first + so_far ≡ length now.members.items
  pub described : IsStartedFrom now.apps.items plans t now.roster_seat
  pub ways : List (ℕ × Door)
  pub kept : List KeptDoor
  pub others : AreOthers plans t.number t.first now.shared so_far rest ways kept
  pub loopers : t.loopers ≡ length plans
  pub all : so_far + length rest ≡ t.loopers
  pub within : t.first + t.loopers ≤ looper_limit
  pub launched : (desk : DeskState) → IsStartedIn heads t desk now.roster_seat
  pub paired : All (IsPaired now.roster_seat) rest
  pub goes : GoesOnWith so_far before now
