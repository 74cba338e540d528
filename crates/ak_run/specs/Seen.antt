-- What main has seen of a session that it closes.
use Rattle.std.specs.Prelude.{◌≡◌, ◌<◌, ◌≤◌, ℕ, List, [], ◌∷◌, ◌++◌, length}
use Rattle.ak_base.specs.Thread.{main_thread}
use Rattle.ak_turn.specs.Entries.{StartsWith}
use Rattle.ak_roster.specs.declared.entry.RosterEntry.{RosterEntry}
use Rattle.ak_port.specs.PortCalls as at_ports
use Rattle.ak_port.specs.ReplySeats as at_books
use Rattle.ak_desk.specs.Desk as the_desks
use Rattle.ak_desk.specs.Shared as at_desks
use Rattle.ak_looper.specs.declared.door.Door.{Door}
use Rattle.ak_looper.specs.Rosters.{maker_of, plain_of}
use Rattle.ak_session.specs.declared.session.Session.{Session}
use Rattle.ak_session.specs.Stands.{desk_front_at, front_at}
use Rattle.ak_run.specs.declared.run.Run.{Run}
use Rattle.ak_run.specs.Doing.{Does, desk_front}
use Rattle.ak_run.specs.Recording.{fronts_of, list_at}
use Rattle.ak_run.specs.Running.{KeepsRest}

-- ---- looks
-- main looked, and made no entry: it may know more than before, and all else is as before
pub record HasLooked (r r' : Run) : Type 0 where
  pub did : Does [] r r'
  pub rest : KeepsRest r r'
  pub loopers : length r'.members.items ≡ length r.members.items

-- each list goes on from what main had seen of it
pub record KnowsMore (r r' : Run) : Type 0 where
  pub roster : StartsWith (plain_of r'.roster_seat) (plain_of r.roster_seat)
  pub book : StartsWith r'.hands.book_seat.front r.hands.book_seat.front
  pub ports : (looper : ℕ) → StartsWith (list_at (fronts_of r').ports looper) (list_at (fronts_of r).ports looper)
  pub desks : (looper : ℕ) → StartsWith (desk_front r' looper) (desk_front r looper)

-- through that door main has seen as much
pub record HasSeenThrough (door : ℕ × Door) (r : Run) : Type 0 where
  pub port : length door.1.port_seat.front ≤ length (list_at (fronts_of r).ports door.0)
  pub desk : length door.1.desk_seat.front ≤ length (desk_front r door.0)

-- ---- after what was seen
-- the list has `count` entries or more, and what main made past that time comes after `count` entries
module _ {L : Type 0} (by stamp : L → ℕ) where
  pub record IsSeenTo (time count : ℕ) (entries : List L) : Type 0 where
    pub many : count ≤ length entries
    pub behind : (before : List L) (entry : L) (behind : List L) → entries ≡ before ++ entry ∷ behind
        → by entry ≡ main_thread → time < stamp entry → count ≤ length before

-- main has seen all that the session has seen, and what it made past that time comes after
pub record HasSeen (r : Run) (time : ℕ) (s : Session) : Type 0 where
  pub at_roster : IsSeenTo maker_of (λ (entry : RosterEntry). entry.stamp) time (length s.roster_seat.front) (plain_of r.roster_seat)
  pub at_book : IsSeenTo at_books.maker_of at_books.stamp_of time (length s.hands.book_seat.front) r.hands.book_seat.front
  pub at_ports : (looper : ℕ) → IsSeenTo at_ports.by_number at_ports.stamp_number time (length (front_at s looper)) (list_at (fronts_of r).ports looper)
  pub at_desks : (looper : ℕ) → IsSeenTo at_desks.by_number the_desks.stamp_number time (length (desk_front_at s looper)) (desk_front r looper)
