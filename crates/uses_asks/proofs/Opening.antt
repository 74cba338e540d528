-- The seats at a port, a desk and a book at which nothing was done yet.
use Rattle.std.proofs.Common.{◌≡◌, ℕ, false, List, [], ◌∷◌, Option, sym, ap, ◌∙◌, subst}
use Rattle.ak_base.specs.declared.thread.ThreadId.{ThreadId}
use Rattle.ak_turn.specs.declared.clock.Clock.{Clock}
use Rattle.ak_turn.specs.Entries.{made_by}
use Rattle.ak_turn.specs.Seats.{LockId, first_seat, new_seat, titled_seat}
use Rattle.ak_port.specs.PortCalls.{CanTake, PortSeat, making}
use Rattle.ak_port.specs.PortMachine.{state_of}
use Rattle.ak_port.specs.ReplySeats.{ReplySeat}
use Rattle.ak_desk.specs.Entry.{EntryData}
use Rattle.ak_desk.specs.Machine.{dispatches}
use Rattle.ak_desk.specs.Shared.{DeskSeat, by_number}
use Rattle.uses_asks.specs.Laws.{AcceptsOne}
use Rattle.uses_asks.specs.Serving.{CanServe, IsOfLooper}

-- ---- a port that was just made, to hold one item and to accept one
module _ (clock : Clock) (lock : LockId) (taker : ThreadId) (own : List ℕ) (thread : ℕ) (first : PortSeat) (made : first ≡ first_seat lock taker (making clock 1 1 ∷ []) own thread) where
  -- a seat that is split off knows that it accepts one
  pub accepts_one : (other : ℕ) (names : Option (List ℕ)) (seat : PortSeat) → seat ≡ new_seat other names first → AcceptsOne seat.front
  accepts_one other names seat split = record {
    is_made = ap (λ (s : PortSeat). (state_of s.front).made) split ∙ ap (λ (s : PortSeat). (state_of s.front).made) made;
    life = ap (λ (s : PortSeat). (state_of s.front).life) split ∙ ap (λ (s : PortSeat). (state_of s.front).life) made;
  }

  -- and nothing was taken
  pub nothing_taken : (names : Option (List ℕ)) (seat : PortSeat) → seat ≡ titled_seat names first → (state_of seat.front).taken ≡ 0
  nothing_taken names seat split = ap (λ (s : PortSeat). (state_of s.front).taken) split ∙ ap (λ (s : PortSeat). (state_of s.front).taken) made

-- ---- the seats of the looper's thread
pub can_serve : (port desk book : LockId) (thread : ThreadId) (taker : PortSeat) (seat : DeskSeat) (filler : ReplySeat)
    → ((taker.lock ≡ port) × (taker.turn ≡ false) × (taker.thread ≡ thread.0))
    → CanTake thread 1 taker
    → (state_of taker.front).taken ≡ 0
    → ((seat.lock ≡ desk) × (seat.turn ≡ false) × (seat.thread ≡ thread.0))
    → IsOfLooper thread seat
    → seat.front ≡ []
    → ((filler.lock ≡ book) × (filler.turn ≡ false) × (filler.thread ≡ thread.0))
    → CanServe port desk book thread taker seat filler
can_serve port desk book thread taker seat filler at_port takes taken at_desk looper nothing at_book = record {
  taker_of = at_port.0;
  taker_idle = at_port.1;
  taker_thread = at_port.2;
  taking = takes;
  seat_of = at_desk.0;
  seat_idle = at_desk.1;
  seat_thread = at_desk.2;
  looper = looper;
  filler_of = at_book.0;
  filler_idle = at_book.1;
  filler_thread = at_book.2;
  in_step = taken ∙ sym (ap (λ (l : List EntryData). dispatches (made_by by_number seat.thread l)) nothing);
}

-- the same seats, by locks that are the same
pub serves_there : (port port' desk desk' book book' : LockId) (thread : ThreadId) (taker : PortSeat) (seat : DeskSeat) (filler : ReplySeat) → port ≡ port' → desk ≡ desk' → book ≡ book' → CanServe port desk book thread taker seat filler → CanServe port' desk' book' thread taker seat filler
serves_there port port' desk desk' book book' thread taker seat filler same_port same_desk same_book can =
    subst (λ (x : LockId). CanServe x desk' book' thread taker seat filler) same_port
    (subst (λ (x : LockId). CanServe port x book' thread taker seat filler) same_desk
    (subst (λ (x : LockId). CanServe port desk x thread taker seat filler) same_book can))
