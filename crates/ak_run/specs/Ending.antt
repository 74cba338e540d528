-- A run that ended: what its histories tell of the loopers, who made them, and from where they go on.
use Rattle.std.specs.Prelude.{◌≡◌, ℕ, length}
use Rattle.ak_base.specs.Thread.{main_thread}
use Rattle.ak_turn.specs.Entries.{StartsWith}
use Rattle.ak_turn.specs.Noted.{noted}
use Rattle.ak_port.specs.PortCalls as at_ports
use Rattle.ak_diary.specs.declared.histories.Histories.{Histories}
use Rattle.ak_headline.specs.Run.{desk_list, port_list}
use Rattle.ak_looper.specs.Rosters.{plain_of}
use Rattle.ak_run.specs.declared.run.Run.{Run}
use Rattle.ak_run.specs.Doing.{desk_front}
use Rattle.ak_run.specs.Recording.{fronts_of, list_at}

-- The histories are those of this run
pub record EndsAs (r : Run) (h : Histories) : Type 0 where
  -- a port for each of its loopers
  pub loopers : length h.ports.items ≡ length r.members.items
  -- the lists that all share go on from what main had seen of them
  pub roster : StartsWith h.roster.items (plain_of r.roster_seat)
  pub book : StartsWith h.book r.hands.book_seat.front
  -- each entry that main had made at a port stands there, in order, with all that stood before it
  pub ports : (looper : ℕ) → StartsWith (noted at_ports.by_number main_thread (port_list h looper)) (noted at_ports.by_number main_thread (list_at (fronts_of r).ports looper))
  -- each port's list goes on from what main had seen of it
  pub port_lists : (looper : ℕ) → StartsWith (port_list h looper) (list_at (fronts_of r).ports looper)
  -- and each desk's list goes on from what main had seen of it
  pub desks : (looper : ℕ) → StartsWith (desk_list h looper) (desk_front r looper)
