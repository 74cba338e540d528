-- The ways of a looper's thread to ports, and what its calls keep.
use Rattle.std.specs.Prelude.{◌≡◌, ◌≢◌, ◌<◌, ℕ, Some, slice_get, option_map, vec_len}
use Rattle.ak_base.specs.declared.thread.ThreadId.{ThreadId}
use Rattle.ak_turn.specs.Called.{KeepsSeat}
use Rattle.ak_port.specs.PortCalls.{CanTake}
use Rattle.ak_looper.specs.declared.door.Door.{Door}
use Rattle.ak_looper.specs.declared.reach.Reach.{Reach}
use Rattle.ak_looper.specs.declared.reach.Way.{Way}
use Rattle.ak_looper.specs.declared.reach.Way.TheVariants as way

-- it is the way to that looper's port; no door is the way to its own
abbrev pub IsWay : ℕ → Way → Reach → Type 0
IsWay looper way.Own r = r.number ≡ looper
IsWay looper (way.Through place) r = (place < vec_len r.doors) × (option_map (λ (door : ℕ × Door). door.0) (slice_get r.doors.items place) ≡ Some looper) × (looper ≢ r.number)

-- what no call changes: the looper, its locks and its seats at them; doors may be added; a seat that can take still can
pub record KeepsReach (r r' : Reach) : Type 0 where
  pub number : r'.number ≡ r.number
  pub team : r'.team ≡ r.team
  pub first : r'.first ≡ r.first
  pub loopers : r'.loopers ≡ r.loopers
  pub book : r'.hands.book ≡ r.hands.book
  pub port : r'.port ≡ r.port
  pub roster : r'.roster ≡ r.roster
  pub thread : r'.hands.clock.thread ≡ r.hands.clock.thread
  pub book_seat : KeepsSeat r.hands.book_seat r'.hands.book_seat
  pub port_seat : KeepsSeat r.port_seat r'.port_seat
  pub roster_seat : KeepsSeat r.roster_seat r'.roster_seat
  pub taking : (thread : ThreadId) (room : ℕ) → CanTake thread room r.port_seat → CanTake thread room r'.port_seat

-- the same, but that it may have taken the rest
pub record KeepsPlaces (r r' : Reach) : Type 0 where
  pub number : r'.number ≡ r.number
  pub team : r'.team ≡ r.team
  pub first : r'.first ≡ r.first
  pub loopers : r'.loopers ≡ r.loopers
  pub book : r'.hands.book ≡ r.hands.book
  pub port : r'.port ≡ r.port
  pub roster : r'.roster ≡ r.roster
  pub thread : r'.hands.clock.thread ≡ r.hands.clock.thread
  pub book_seat : KeepsSeat r.hands.book_seat r'.hands.book_seat
  pub port_seat : KeepsSeat r.port_seat r'.port_seat
  pub roster_seat : KeepsSeat r.roster_seat r'.roster_seat
