-- What each step of a turn lock tells the seat that makes it.
use Rattle.std.specs.Prelude.{◌≡◌, ◌≢◌, ◌≤◌, ◌⊎◌, ℕ, ◌%◌, ◌^◌, List, [], ◌∷◌, ◌++◌, length, All, Contains, Option, Some, None}
use Rattle.atomic_table.specs.Seated.{TableId}
use Rattle.atomic_table.specs.Table.{Me, Step}
use Rattle.ak_turn.specs.declared.view.Stage.{Stage}
use Rattle.ak_turn.specs.declared.view.Stage.TheVariants.{Idle, Waits, HasTurn, Spent}
use Rattle.ak_turn.specs.declared.view.View.{View}
use Rattle.ak_turn.specs.Entries.{AreByOthers, places}
use Rattle.ak_turn.specs.Rule.{IsKnown}

-- a lock's table has three words and one slot
abbrev pub IsWide : TableId → Type 0
IsWide table = (table.words ≡ 3) × (table.slots ≡ 1)

-- the head knows the names, and the thread is a new one
abbrev pub IsNewName : Option (List ℕ) → ℕ → Type 0
IsNewName None thread = ⊥
IsNewName (Some names) thread = All (λ name. name ≢ thread) names

abbrev pub named : List ℕ → ℕ → List ℕ
named names thread = names ++ thread ∷ []

-- the names with one more, where the seat has them
abbrev pub names_with : Option (List ℕ) → ℕ → Option (List ℕ)
names_with None thread = None
names_with (Some names) thread = Some (named names thread)

-- the first names that there are
abbrev pub either_names : Option (List ℕ) → Option (List ℕ) → Option (List ℕ)
either_names None other = other
either_names (Some names) other = Some names

module _ {O L : Type 0} where
  abbrev pub staged : Stage → View O L → View O L
  staged stage v = record v { stage = stage }

  -- the front goes on
  abbrev pub fronted : List L → View O L → View O L
  fronted front v = record v { me = record { thread = v.me.thread; front = front; own = v.me.own } }

  -- the front is now this, and its last entry is the seat's own
  abbrev pub entered : List L → View O L → View O L
  entered front v = record v { me = record { thread = v.me.thread; front = front; own = v.me.own ++ length v.me.front ∷ [] } }

  -- the first seat of a lock: it is the head, and all entries are its own
  abbrev pub first_view : (L → ℕ) → O → List L → ℕ → View O L
  first_view by opening entries thread = record {
    stage = Idle;
    opening = Some opening;
    me = record { thread = thread; front = entries; own = places by thread entries };
    joined = [];
    names = Some (thread ∷ []);
  }

  -- the list goes on from all fronts that the seat knows, has of each of its threads just the entries that it knows as that thread's,
  -- and where the seat has the names, each entry is by one of them; none of the joined threads is its own, which is among the names
  pub record IsShown (by : L → ℕ) (v : View O L) (entries : List L) : Type 0 where
    pub me : IsKnown by entries v.me
    pub joined : All (IsKnown by entries) v.joined
    pub apart : All (λ part. v.me.thread ≢ part.thread) v.joined
    pub names : (names : List ℕ) → v.names ≡ Some names → All (λ entry. Contains names (by entry)) entries
    pub named : (names : List ℕ) → v.names ≡ Some names → Contains names v.me.thread

-- a seat at the table: what it knows, and the slots that it holds
abbrev pub Sat : Type 0 → Type 0 → Type 0 → Type 0
Sat B O L = Me (Option B) (View O L)

module _ {B O L : Type 0} where
  -- it has the ticket whose number was found
  abbrev pub drew : Step (Option B) → Sat B O L → ℕ → Sat B O L → Type 0
  drew st m r m' = (ticket : ℕ) × (r ≡ ticket % 2 ^ 64) × (m' ≡ (staged (Waits ticket) m.0, []))

module _ {B O L : Type 0} (opening : B → O) (entries : B → List L) (at_rest : B → Type 0) (by : L → ℕ) where
  -- the seat has the turn, and the book out of the slot
  pub record TakesTurn (ticket : ℕ) (m m' : Sat B O L) : Type 0 where
    pub book : B
    pub between : List L
    pub rests : at_rest book
    pub opened : m.0.opening ≡ Some (opening book)
    pub told : entries book ≡ m.0.me.front ++ between
    pub others : AreByOthers by m.0.me.thread between
    pub shown : IsShown by m.0 (entries book)
    pub after : m' ≡ (staged (HasTurn ticket) (fronted (entries book) m.0), (0, Some book) ∷ [])

  -- it has the turn exactly where its ticket's number was found
  abbrev pub looked : Step (Option B) → Sat B O L → ℕ → Sat B O L → Type 0
  looked st m r m' = (ticket : ℕ) → m.0.stage ≡ Waits ticket → (r ≡ ticket % 2 ^ 64 → TakesTurn ticket m m') × (r ≢ ticket % 2 ^ 64 → m' ≡ m)

  -- the book that it puts back has an entry more, which is its own
  abbrev pub added : Step (Option B) → Sat B O L → ℕ → Sat B O L → Type 0
  added st m r m' = (book : B) → m.1 ≡ (0, Some book) ∷ [] → m' ≡ (entered (entries book) m.0, m.1)

module _ {B O L : Type 0} where
  -- n entries were counted: where the seat had seen no more, its front goes on to n, by entries of others alone; else it stays. What it
  -- knew up to its front it knows up to the new one
  pub record Glances (by : L → ℕ) (n : ℕ) (m m' : Sat B O L) : Type 0 where
    pub between : List L
    pub others : AreByOthers by m.0.me.thread between
    pub many : length m.0.me.front ≤ n → length (m.0.me.front ++ between) ≡ n
    pub joined : All (IsKnown by m.0.me.front) m.0.joined → All (IsKnown by (m.0.me.front ++ between)) m.0.joined
    pub names : (names : List ℕ) → m.0.names ≡ Some names → All (λ entry. Contains names (by entry)) (m.0.me.front ++ between)
    pub after : m' ≡ (fronted (m.0.me.front ++ between) m.0, m.1)

  abbrev pub glanced : (L → ℕ) → Step (Option B) → Sat B O L → ℕ → Sat B O L → Type 0
  glanced by st m n m' = Glances by n m m'

  -- it has neither ticket nor book
  abbrev pub passed : Step (Option B) → Sat B O L → ℕ → Sat B O L → Type 0
  passed st m r m' = m' ≡ (staged Idle m.0, [])

module _ {O L : Type 0} where
  abbrev pub titled : Option (List ℕ) → View O L → View O L
  titled names v = record v { names = names }

  -- a new seat of that thread: it has seen as much, and has no entry of its own
  abbrev pub newcomer : ℕ → Option (List ℕ) → View O L → View O L
  newcomer thread names v = record {
    stage = Idle;
    opening = v.opening;
    me = record { thread = thread; front = v.me.front; own = [] };
    joined = [];
    names = names;
  }

  -- a seat that knows what both knew
  abbrev pub joined_view : View O L → View O L → View O L
  joined_view v other = record v { joined = v.joined ++ other.me ∷ other.joined; names = either_names v.names other.names }

  abbrev pub spent_view : View O L
  spent_view = record { stage = Spent; opening = None; me = record { thread = 0; front = []; own = [] }; joined = []; names = None }

module _ {B O L : Type 0} (entries : B → List L) (book : B) where
  -- the seat has the turn, and holds the slot with that book
  abbrev pub HoldsBook : Sat B O L → Type 0
  HoldsBook m = ((ticket : ℕ) × (m.0.stage ≡ HasTurn ticket)) × (m.1 ≡ (0, Some book) ∷ [])

  -- the list is the seat's front
  abbrev pub IsSame : Sat B O L → Type 0
  IsSame m = entries book ≡ m.0.me.front

  -- the list is the seat's front with one entry more, which is the seat's own
  abbrev pub IsMore : (L → ℕ) → Sat B O L → Type 0
  IsMore by m = (entry : L) × (entries book ≡ m.0.me.front ++ entry ∷ []) × (by entry ≡ m.0.me.thread)

  -- the seat's front is now the list
  abbrev pub IsNoted : (L → ℕ) → Sat B O L → Sat B O L → Type 0
  IsNoted by m m' = (IsSame m × (m' ≡ m)) ⊎ (IsMore by m × (m' ≡ (entered (entries book) m.0, m.1)))
