-- What contracts see of a seat as the code holds it.
use Rattle.std.specs.Prelude.{◌≡◌, ℕ, Bool, true, false, List, [], ◌∷◌, Option, None}
use Rattle.ak_turn.specs.declared.view.Stage.{Stage}
use Rattle.ak_turn.specs.declared.view.Stage.TheVariants.{Idle, HasTurn}
use Rattle.ak_turn.specs.declared.view.View.{View}
use Rattle.ak_turn.specs.Seats.{LockId, SeatData}

abbrev pub has_turn : Stage → Bool
has_turn (HasTurn ticket) = true
has_turn _ = false

-- between calls a seat is idle and holds nothing, or it has the turn and the empty slot
abbrev pub Carries : {B : Type 0} → Stage → List (ℕ × Option B) → Type 0
Carries Idle slots = slots ≡ []
Carries (HasTurn ticket) slots = slots ≡ (0, None) ∷ []
Carries _ slots = ⊥

module _ {O L : Type 0} where
  abbrev pub seat_seen : LockId → View O L → SeatData O L
  seat_seen lock v = record {
    lock = lock;
    opening = v.opening;
    thread = v.me.thread;
    front = v.me.front;
    own = v.me.own;
    joined = v.joined;
    turn = has_turn v.stage;
    names = v.names;
  }
