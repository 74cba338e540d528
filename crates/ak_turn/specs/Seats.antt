-- What contracts see of a seat, of a lock and of a turn.
use Rattle.std.specs.Prelude.{◌≡◌, ◌≢◌, ◌⊎◌, ℕ, Bool, true, false, List, [], ◌∷◌, ◌++◌, length, All, Contains, Option, Some, IfSome}
use Rattle.atomic_table.specs.Seated.{TableId}
use Rattle.ak_turn.specs.declared.view.Part.{Part}
use Rattle.ak_turn.specs.Entries.{AreByOthers, made_by, places}
use Rattle.ak_turn.specs.Rule.{IsKnown}
use Rattle.ak_turn.specs.Steps.{either_names}

-- which object's lock it is
abbrev pub LockId : Type 0
LockId = TableId

-- A seat: its lock; the object's opening; its thread; its front, which is the beginning of the object's history that it has seen; the
-- places there of the entries that it made; what it knows of the threads of seats that were joined to it; whether it holds a turn; and,
-- of the head, the names, which are the threads that have had a seat
pub record SeatData (O L : Type 0) : Type 0 where
  pub lock : LockId
  pub opening : Option O
  pub thread : ℕ
  pub front : List L
  pub own : List ℕ
  pub joined : List (Part L)
  pub turn : Bool
  pub names : Option (List ℕ)

-- A turn: its lock, and the book
pub record TurnData (B : Type 0) : Type 0 where
  pub lock : LockId
  pub book : B

module _ {O L : Type 0} where
  -- the seat with the turn, and without
  abbrev pub at_turn : SeatData O L → SeatData O L
  at_turn seat = record seat { turn = true }

  abbrev pub at_leisure : SeatData O L → SeatData O L
  at_leisure seat = record seat { turn = false }

  -- the seat's front has gone on by these entries
  abbrev pub later : SeatData O L → List L → SeatData O L
  later seat between = record seat { front = seat.front ++ between }

  -- the same, and then by an entry of its own
  abbrev pub with_own : SeatData O L → List L → L → SeatData O L
  with_own seat between entry = record seat { front = (seat.front ++ between) ++ entry ∷ []; own = seat.own ++ length (seat.front ++ between) ∷ [] }

  -- the seat's front has gone on by an entry of its own
  abbrev pub entered_by : SeatData O L → L → SeatData O L
  entered_by seat entry = record seat { front = seat.front ++ entry ∷ []; own = seat.own ++ length seat.front ∷ [] }

  -- the seat has seen: its front has gone on by entries of others alone
  pub record HasSeen (by : L → ℕ) (old new : SeatData O L) : Type 0 where
    pub between : List L
    pub others : AreByOthers by old.thread between
    pub after : new ≡ later old between

  -- the seat has called: its front has gone on by entries of others, and then by its own new one
  pub record HasCalled (by : L → ℕ) (entry : L) (old new : SeatData O L) : Type 0 where
    pub between : List L
    pub others : AreByOthers by old.thread between
    pub mine : by entry ≡ old.thread
    pub after : new ≡ with_own old between entry

  -- the first seat of a lock
  abbrev pub first_seat : LockId → O → List L → List ℕ → ℕ → SeatData O L
  first_seat lock opening entries own thread = record {
    lock = lock;
    opening = Some opening;
    thread = thread;
    front = entries;
    own = own;
    joined = [];
    turn = false;
    names = Some (thread ∷ []);
  }

  -- the seat has the turn: its front has gone on by entries of others alone
  pub record IsGiven (by : L → ℕ) (old new : SeatData O L) : Type 0 where
    pub between : List L
    pub others : AreByOthers by old.thread between
    pub after : new ≡ at_turn (later old between)

  -- What a seat with the turn knows of the whole list, which is its front. The entries there by its thread are just its own, at their
  -- places, in their order; the same holds of each thread that was joined to it, of which the list goes on from what was known; and
  -- where the seat is the head, each entry is by one of the names. None of the joined threads is the seat's own, which is among the names
  pub record KnowsWhole (by : L → ℕ) (seat : SeatData O L) : Type 0 where
    pub own : seat.own ≡ places by seat.thread seat.front
    pub joined : All (IsKnown by seat.front) seat.joined
    pub apart : All (λ part. seat.thread ≢ part.thread) seat.joined
    pub names : IfSome seat.names (λ names. All (λ entry. Contains names (by entry)) seat.front)
    pub named : IfSome seat.names (λ names. Contains names seat.thread)

  -- what a turn may leave: the list as the seat has seen it, or with one entry more, by the seat's thread
  abbrev pub IsNext : (L → ℕ) → SeatData O L → List L → Type 0
  IsNext by seat entries = (entries ≡ seat.front) ⊎ ((entry : L) × (entries ≡ seat.front ++ entry ∷ []) × (by entry ≡ seat.thread))

  -- the seat with those names, or with none
  abbrev pub titled_seat : Option (List ℕ) → SeatData O L → SeatData O L
  titled_seat names seat = record seat { names = names }

  -- a new seat of that thread at the seat's lock: it has seen as much, and has made no entry
  abbrev pub new_seat : ℕ → Option (List ℕ) → SeatData O L → SeatData O L
  new_seat thread names seat = record {
    lock = seat.lock;
    opening = seat.opening;
    thread = thread;
    front = seat.front;
    own = [];
    joined = [];
    turn = false;
    names = names;
  }

  -- what is known of the seat's own thread
  abbrev pub part_of : SeatData O L → Part L
  part_of seat = record { thread = seat.thread; front = seat.front; own = seat.own }

  -- a seat that knows what both knew
  abbrev pub joined_seat : SeatData O L → SeatData O L → SeatData O L
  joined_seat seat other = record seat { joined = seat.joined ++ part_of other ∷ other.joined; names = either_names seat.names other.names }

  -- of a thread whose seat was joined to it, the seat knows that it made just these entries
  pub record KnowsOf (by : L → ℕ) (thread : ℕ) (made : List L) (seat : SeatData O L) : Type 0 where
    pub part : Part L
    pub there : Contains seat.joined part
    pub is : part.thread ≡ thread
    pub made_so : made_by by thread part.front ≡ made

  -- a seat of that lock and thread, without a turn, whose thread has made just these entries
  pub record HasMade (by : L → ℕ) (lock : LockId) (thread : ℕ) (made : List L) (seat : SeatData O L) : Type 0 where
    pub of : seat.lock ≡ lock
    pub idle : seat.turn ≡ false
    pub is : seat.thread ≡ thread
    pub made_so : made_by by thread seat.front ≡ made
