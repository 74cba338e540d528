-- A session that has done nothing yet.
use Rattle.std.specs.Prelude.{◌≡◌, List, [], None, Some}
use Rattle.ak_turn.specs.Noted.{noted}
use Rattle.ak_turn.specs.Seats.{KnowsWhole}
use Rattle.ak_roster.specs.declared.head.AppHead.{AppHead}
use Rattle.ak_port.specs.ReplySeats as books
use Rattle.ak_looper.specs.Rosters as rosters
use Rattle.ak_session.specs.declared.session.Session.{Session}
use Rattle.ak_session.specs.Stands.{IsSessionThread, Stands}

-- its thread has made nothing at the roster and at the reply book; its seats there know all that it made, and are no heads; it has no doors
pub record IsReady (s : Session) : Type 0 where
  pub session : IsSessionThread s.hands.clock.thread.0
  pub heads : List AppHead
  pub heads_are : s.roster_seat.opening ≡ Some heads
  pub book_nothing : noted books.maker_of s.hands.book_seat.thread s.hands.book_seat.front ≡ []
  pub roster_nothing : noted rosters.maker_of s.roster_seat.thread (rosters.plain_of s.roster_seat) ≡ []
  pub book_known : KnowsWhole books.maker_of s.hands.book_seat
  pub roster_known : KnowsWhole rosters.by_number s.roster_seat
  pub book_no_head : s.hands.book_seat.names ≡ None
  pub roster_no_head : s.roster_seat.names ≡ None
  pub no_doors : s.doors.items ≡ []

abbrev pub ReadySessionsStand : Type 0
ReadySessionsStand = (s : Session) (ready : IsReady s) → Stands ready.heads s.hands.clock.time [] s
