-- What each looper of a run was opened as: one of the application that was launched.
use Rattle.std.specs.Prelude.{◌≡◌, ◌<◌, ℕ, ◌+◌, List, length, Any, Some, slice_get}
use Rattle.ak_base.specs.Thread.{looper_thread}
use Rattle.ak_port.specs.PortCalls.{PortData}
use Rattle.ak_action.specs.declared.plan.PlanParts.{PlanParts}
use Rattle.ak_action.specs.Opening.{Opens}
use Rattle.ak_describe.specs.declared.described.AppText.{AppText}
use Rattle.ak_describe.specs.Whole.{looper_names}
use Rattle.ak_desk.specs.Desk.{DeskData}
use Rattle.ak_diary.specs.declared.histories.Histories.{Histories}
use Rattle.ak_team.specs.Jobs.{IsLaunchOf}

-- The looper of that number is one of a team that was started by a launch, and stands in that team at the place of one of the plans of the
-- application that was launched. Its desk was opened as that plan says, and from its port its own thread takes
pub record WasOpened (apps : List AppText) (h : Histories) (looper : ℕ) : Type 0 where
  pub description : ℕ
  pub team : ℕ
  pub first : ℕ
  pub launched : Any (IsLaunchOf description team first) h.roster.items
  pub app : AppText
  pub app_is : slice_get apps description ≡ Some app
  pub place : ℕ
  pub number_is : looper ≡ first + place
  pub plan : PlanParts
  pub plan_is : slice_get app.loopers place ≡ Some plan
  pub desk : DeskData
  pub desk_is : slice_get h.desks.items looper ≡ Some desk
  pub opens : Opens plan looper team first (looper_names app) desk.opening
  pub port : PortData
  pub port_is : slice_get h.ports.items looper ≡ Some port
  pub taker_is : port.taker.0 ≡ looper_thread looper

-- so was each looper that has a port
abbrev pub WereOpened : List AppText → Histories → Type 0
WereOpened apps h = (looper : ℕ) → looper < length h.ports.items → WasOpened apps h looper
