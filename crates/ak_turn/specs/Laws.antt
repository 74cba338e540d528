-- What holds of all seats.
use Rattle.std.specs.Prelude.{◌≡◌, ℕ, List, [], ◌∷◌, ◌++◌, All, None, filter_map, slice_get}
use Rattle.ak_turn.specs.declared.view.Part.{Part}
use Rattle.ak_turn.specs.Called.{Makes}
use Rattle.ak_turn.specs.Entries.{made_by, places}
use Rattle.ak_turn.specs.Rule.{IsKnown}
use Rattle.ak_turn.specs.Seats.{LockId, SeatData, HasSeen, HasCalled, HasMade, KnowsWhole, first_seat, new_seat, titled_seat}
use Rattle.ak_turn.specs.Steps.{IsNewName, names_with}

-- a seat that has seen, and then has seen, has seen
abbrev pub SeenThenSeen : (O L : Type 0) → (L → ℕ) → Type 0
SeenThenSeen O L by = (a b c : SeatData O L) → HasSeen by a b → HasSeen by b c → HasSeen by a c

-- a seat that has seen, and then has called, has called
abbrev pub SeenThenCalled : (O L : Type 0) → (L → ℕ) → Type 0
SeenThenCalled O L by = (entry : L) (a b c : SeatData O L) → HasSeen by a b → HasCalled by entry b c → HasCalled by entry a c

-- what a thread made is what is known of it
abbrev pub KnownIsMade : (L : Type 0) → (L → ℕ) → Type 0
KnownIsMade L by = (entries : List L) (part : Part L) → IsKnown by entries part → made_by by part.thread entries ≡ made_by by part.thread part.front

-- at the places of its own a seat that knows its list has just the entries that its thread made, in their order
abbrev pub OwnIsMade : (O L : Type 0) → (L → ℕ) → Type 0
OwnIsMade O L by = (seat : SeatData O L) → KnowsWhole by seat → filter_map (slice_get seat.front) seat.own ≡ made_by by seat.thread seat.front

-- the first seat of a lock knows its list, all of which is its thread's
abbrev pub FirstSeatsKnow : (O L : Type 0) → (L → ℕ) → Type 0
FirstSeatsKnow O L by = (lock : LockId) (opening : O) (entries : List L) (thread : ℕ) → All (λ entry. by entry ≡ thread) entries → KnowsWhole by (first_seat lock opening entries (places by thread entries) thread)

-- a head that knows its list is split for a new thread: the new seat knows it, and so does the head still
abbrev pub SplitSeatsKnow : (O L : Type 0) → (L → ℕ) → Type 0
SplitSeatsKnow O L by = (seat : SeatData O L) (thread : ℕ) → KnowsWhole by seat → IsNewName seat.names thread → KnowsWhole by (new_seat thread None seat) × KnowsWhole by (titled_seat (names_with seat.names thread) seat)

-- the same where the new seat is the head from then on
abbrev pub SplitHeadsKnow : (O L : Type 0) → (L → ℕ) → Type 0
SplitHeadsKnow O L by = (seat : SeatData O L) (thread : ℕ) → KnowsWhole by seat → IsNewName seat.names thread → KnowsWhole by (new_seat thread (names_with seat.names thread) seat) × KnowsWhole by (titled_seat None seat)

-- ---- what a thread makes from one seat to a later one
-- where the seat has seen it makes nothing
abbrev pub SeenMakesNothing : (O L : Type 0) → (L → ℕ) → Type 0
SeenMakesNothing O L by = (a b : SeatData O L) → HasSeen by a b → Makes by [] a b

-- where it has called it makes that entry
abbrev pub CalledMakesOne : (O L : Type 0) → (L → ℕ) → Type 0
CalledMakesOne O L by = (entry : L) (a b : SeatData O L) → HasCalled by entry a b → Makes by (entry ∷ []) a b

-- who makes these and then makes those makes these and then those
abbrev pub MakesThenMakes : (O L : Type 0) → (L → ℕ) → Type 0
MakesThenMakes O L by = (these those : List L) (a b c : SeatData O L) → Makes by these a b → Makes by those b c → Makes by (these ++ those) a c

-- what the front has by the thread goes on by what it makes
abbrev pub MadeGoesOn : (O L : Type 0) → (L → ℕ) → Type 0
MadeGoesOn O L by = (entries : List L) (a b : SeatData O L) → Makes by entries a b → made_by by b.thread b.front ≡ made_by by a.thread a.front ++ entries

-- who has made these and then makes those has made these and then those
abbrev pub MakesMore : (O L : Type 0) → (L → ℕ) → Type 0
MakesMore O L by = (lock : LockId) (thread : ℕ) (these those : List L) (a b : SeatData O L) → HasMade by lock thread these a → Makes by those a b → HasMade by lock thread (these ++ those) b

-- where a seat had nothing of its own, and has at the end just the places of its thread, the thread had made nothing before; what it makes
-- then is all that it made
abbrev pub NothingBefore : (O L : Type 0) → (L → ℕ) → Type 0
NothingBefore O L by =
    (entries : List L) (a b : SeatData O L) → a.own ≡ [] → b.own ≡ places by b.thread b.front → Makes by entries a b
    → (made_by by a.thread a.front ≡ []) × (made_by by b.thread b.front ≡ entries)
