-- How a run stands between main's calls.
use Rattle.std.specs.Prelude.{◌≡◌, ℕ, ◌≤◌, List, [], length, map, All, Some, vec_capacity}
use Rattle.std.specs.List.{range_with_len}
use Rattle.ak_base.specs.Limits.{looper_limit}
use Rattle.ak_turn.specs.Seats.{KnowsWhole}
use Rattle.ak_roster.specs.declared.head.AppHead.{AppHead}
use Rattle.ak_port.specs.ReplySeats as books
use Rattle.ak_action.specs.declared.state.DeskState.{DeskState}
use Rattle.ak_describe.specs.declared.described.AppText.{AppText}
use Rattle.ak_describe.specs.Whole.{IsWholeApp, heads_of}
use Rattle.ak_looper.specs.Rosters as rosters
use Rattle.ak_gather.specs.declared.member.Member.{Member}
use Rattle.ak_run.specs.declared.run.Run.{Run}
use Rattle.ak_looper.specs.Counting.{started_by_main}
use Rattle.ak_run.specs.Doing.{desk_front}
use Rattle.ak_gather.specs.Gathering.{HasRoomFor, HoldsNothing}
use Rattle.ak_gather.specs.Members.{IsMember}
use Rattle.ak_run.specs.Members.{OpensAs}
use Rattle.ak_run.specs.Recording.{HasRecord, fronts_of}
use Rattle.ak_run.specs.Sessions.{HasSlots, session_count}
use Rattle.ak_gather.specs.Below.{AreBelow}

-- its desk was opened as it is described in the application whose launch its thread had seen when it began
pub record IsOpenedAs (apps : List AppText) (m : Member) : Type 0 where
  pub desk : DeskState
  pub desk_is : m.job.value.own.desk_seat.opening ≡ Some desk
  pub opens : OpensAs apps (rosters.plain_of m.job.value.roster_seat) m.number m.job.value.team m.job.value.first desk

-- room for what the end gathers, where nothing was gathered yet
pub record HasRoomToEnd (r : Run) : Type 0 where
  pub joined : HoldsNothing r.joined
  pub ports : r.ports.items ≡ []
  pub desks : r.desks.items ≡ []
  pub for_joined : HasRoomFor looper_limit r.joined
  pub for_ports : looper_limit ≤ vec_capacity r.ports
  pub for_desks : looper_limit ≤ vec_capacity r.desks

-- Main's seats are the heads, whose names are main, the sessions that were opened, and the loopers below this number. This is so while a
-- looper starts, whose thread has had its seats and which is not among the loopers yet
pub record Stands (next : ℕ) (heads : List AppHead) (r : Run) : Type 0 where
  pub whole : All IsWholeApp r.apps.items
  pub heads_are : heads ≡ heads_of r.apps.items
  pub opening : r.roster_seat.opening ≡ Some heads
  pub roster_known : KnowsWhole rosters.by_number r.roster_seat
  pub roster_names : AreBelow (session_count r) next r.roster_seat.names
  pub book_known : KnowsWhole books.maker_of r.hands.book_seat
  pub book_names : AreBelow (session_count r) next r.hands.book_seat.names
  pub numbers : map (λ (m : Member). m.number) r.members.items ≡ range_with_len 0 (length r.members.items)
  pub each : All (IsMember heads r.shared r.roster_seat) r.members.items
  pub opened : All (IsOpenedAs r.apps.items) r.members.items
  pub few : length r.members.items ≤ looper_limit
  pub room : looper_limit ≤ vec_capacity r.members
  pub ready : HasRoomToEnd r
  pub sessions : HasSlots heads r.shared r.slots

pub record IsStanding (r : Run) : Type 0 where
  pub next : ℕ
  pub heads : List AppHead
  pub stands : Stands next heads r

-- all but main's seats, its clock and the loopers are as before
pub record KeepsRest (r r' : Run) : Type 0 where
  pub apps : r'.apps ≡ r.apps
  pub shared : r'.shared ≡ r.shared
  pub joined : r'.joined ≡ r.joined
  pub ports : r'.ports ≡ r.ports
  pub desks : r'.desks ≡ r.desks
  pub slots : r'.slots ≡ r.slots

-- each looper that main started has its thread; and main has its diary
pub record IsRunning (r : Run) : Type 0 where
  pub heads : List AppHead
  pub stands : Stands (length r.members.items) heads r
  pub all : started_by_main heads r.roster_seat ≡ length r.members.items
  pub recorded : HasRecord heads (fronts_of r) (desk_front r)
