-- The threads that take turns.
use Rattle.std.specs.Prelude.{◌≡◌, ℕ, ◌<◌, false, List, [], All, Option, Some, None}
use Rattle.ak_turn.specs.Seats.{LockId, SeatData}

module _ {O L : Type 0} where
  -- a seat of that lock, without a turn
  pub record IsIdleAt (lock : LockId) (seat : SeatData O L) : Type 0 where
    pub of : seat.lock ≡ lock
    pub idle : seat.turn ≡ false

  -- a seat of that lock and thread, without a turn, whose thread has made no entry
  pub record IsReady (lock : LockId) (thread : ℕ) (seat : SeatData O L) : Type 0 where
    pub of : seat.lock ≡ lock
    pub idle : seat.turn ≡ false
    pub is : seat.thread ≡ thread
    pub unused : seat.own ≡ []

-- the names are known, and each is below that number
abbrev pub AreNamesBelow : ℕ → Option (List ℕ) → Type 0
AreNamesBelow n None = ⊥
AreNamesBelow n (Some names) = All (λ name. name < n) names
