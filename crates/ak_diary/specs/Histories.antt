-- The histories of a run: of each object the list of what was done there.
use Rattle.std.specs.Prelude.{◌≡◌, List, All, length}
use Rattle.ak_roster.specs.declared.head.AppHead.{AppHead}
use Rattle.ak_roster.specs.Machine as roster
use Rattle.ak_port.specs.PortCalls.{IsPortBook}
use Rattle.ak_port.specs.Reply.{HasFlatText}
use Rattle.ak_port.specs.Reply as book
use Rattle.ak_port.specs.declared.reply_entry.ReplyEntry.{ReplyEntry}
use Rattle.ak_desk.specs.Desk.{DeskData}
use Rattle.ak_desk.specs.Shared.{LeadsOn}
use Rattle.ak_diary.specs.declared.histories.Histories.{Histories}

-- the desk's list is one that its machine allows from its opening on
abbrev pub IsDeskBook : DeskData → Type 0
IsDeskBook desk = LeadsOn desk.opening desk.entries

-- each list is one that its object's machine allows, each reply is a flat text, and there is a desk for each port
pub record AreHistories (heads : List AppHead) (h : Histories) : Type 0 where
  pub roster : roster.IsHistory heads h.roster.items
  pub book : book.IsLegal h.book
  pub texts : All (λ (entry : ReplyEntry). HasFlatText entry.event) h.book
  pub ports : All IsPortBook h.ports.items
  pub desks : All IsDeskBook h.desks.items
  pub each : length h.desks.items ≡ length h.ports.items
