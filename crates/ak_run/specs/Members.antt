-- The loopers that were started, as main has them.
use Rattle.std.specs.Prelude.{◌≡◌, ℕ, ◌+◌, List, Any, Some, slice_get}
use Rattle.ak_turn.specs.Called.{KeepsSeat}
use Rattle.ak_roster.specs.declared.entry.RosterEntry.{RosterEntry}
use Rattle.ak_action.specs.declared.plan.PlanParts.{PlanParts}
use Rattle.ak_action.specs.declared.state.DeskState.{DeskState}
use Rattle.ak_action.specs.Opening.{Opens}
use Rattle.ak_describe.specs.declared.described.AppText.{AppText}
use Rattle.ak_describe.specs.Whole.{looper_names}
use Rattle.ak_looper.specs.declared.door.Door.{Door}
use Rattle.ak_team.specs.Jobs.{IsLaunchOf}

-- the looper of that number is one of the loopers of the application whose launch, which is one of these entries, started the team, and its
-- desk was opened as that one's plan says
pub record OpensAs (apps : List AppText) (entries : List RosterEntry) (number team first : ℕ) (desk : DeskState) : Type 0 where
  pub description : ℕ
  pub launched : Any (IsLaunchOf description team first) entries
  pub app : AppText
  pub there : slice_get apps description ≡ Some app
  pub place : ℕ
  pub number_is : number ≡ first + place
  pub plan : PlanParts
  pub plan_is : slice_get app.loopers place ≡ Some plan
  pub opens : Opens plan number team first (looper_names app) desk

-- main's door to it, once main shut its port: it leads to the same port and desk
pub record StillLeads (door door' : Door) : Type 0 where
  pub port : door'.port ≡ door.port
  pub port_kept : KeepsSeat door.port_seat door'.port_seat
  pub desk : door'.desk ≡ door.desk
  pub desk_seat : door'.desk_seat ≡ door.desk_seat
