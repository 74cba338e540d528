-- The rule of a turn lock: what is true of its words, its slot and all its seats between any two steps.
-- Word 0 counts the tickets that were drawn, word 1 the turns that were passed on, word 2 the entries, each modulo 2^64. The slot holds
-- the book, or nothing while a seat has the turn.
use Rattle.std.specs.Prelude.{◌≡◌, ◌≢◌, ℕ, ◌+◌, ◌%◌, ◌^◌, ◌<◌, Bool, true, false, List, [], ◌∷◌, length, All, Contains, Option, Some}
use mathlib.Core.Option.{none, some}
use lib.ListN.{get_elem?}
use Rattle.atomic_table.specs.Table.{State}
use Rattle.ak_turn.specs.declared.view.Stage.{Stage}
use Rattle.ak_turn.specs.declared.view.Stage.TheVariants.{Idle, Waits, HasTurn, Spent}
use Rattle.ak_turn.specs.declared.view.Part.{Part}
use Rattle.ak_turn.specs.declared.view.View.{View}
use Rattle.ak_turn.specs.Entries.{StartsWith, places}

-- what there is between two steps: the object's opening and history; how many turns were passed on; the threads of the seats that have
-- a ticket, the oldest ticket first; whether one of them has the turn; the threads that have had a seat; which seat a thread belongs to;
-- and which seat is the head, if there is one
pub record World (O L : Type 0) : Type 0 where
  pub opening : O
  pub history : List L
  pub served : ℕ
  pub queue : List ℕ
  pub busy : Bool
  pub names : List ℕ
  pub owner : ℕ → ℕ
  pub head : ℕ

-- x stands in no place
abbrev pub Absent : List ℕ → ℕ → Type 0
Absent xs x = (k : ℕ) → get_elem? xs k ≡ some x → ⊥

-- each stands in one place
abbrev pub AreDistinct : List ℕ → Type 0
AreDistinct xs = (i j x : ℕ) → get_elem? xs i ≡ some x → get_elem? xs j ≡ some x → i ≡ j

module _ {O L : Type 0} where
  -- the thread and its front fit the stage: without a ticket it is not in the queue; with one it is in the queue at its ticket's place;
  -- with the turn it is the first there, and its front is the whole history
  abbrev pub IsTimely : World O L → Part L → Stage → Type 0
  IsTimely w me Idle = Absent w.queue me.thread
  IsTimely w me (Waits ticket) = (k : ℕ) × (ticket ≡ w.served + k) × (get_elem? w.queue k ≡ some me.thread) × (w.busy ≡ true → 0 < k)
  IsTimely w me (HasTurn ticket) = (ticket ≡ w.served) × (get_elem? w.queue 0 ≡ some me.thread) × (w.busy ≡ true) × (me.front ≡ w.history)
  IsTimely w me Spent = Unit {0}

module _ {L : Type 0} (by : L → ℕ) (history : List L) where
  -- of a thread, a beginning of the history is known, and of the thread's own entries all that are there
  pub record IsKnown (part : Part L) : Type 0 where
    pub begins : StartsWith history part.front
    pub all_own : part.own ≡ places by part.thread history
    pub own_seen : part.own ≡ places by part.thread part.front

  -- the part is known, and belongs to that seat and to the names
  pub record IsPartOf (owner : ℕ → ℕ) (names : List ℕ) (id : ℕ) (part : Part L) : Type 0 where
    pub known : IsKnown part
    pub owned : owner part.thread ≡ id
    pub named : Contains names part.thread

module _ {O L : Type 0} (by : L → ℕ) (w : World O L) (id : ℕ) where
  abbrev pub IsOurs : Part L → Type 0
  IsOurs = IsPartOf by w.history w.owner w.names id

  pub record IsLive (v : View O L) : Type 0 where
    pub opening : v.opening ≡ Some w.opening
    pub timely : IsTimely w v.me v.stage
    pub me : IsOurs v.me
    pub joined : All IsOurs v.joined
    pub apart : All (λ part. v.me.thread ≢ part.thread) v.joined
    pub names : (names : List ℕ) → v.names ≡ Some names → (names ≡ w.names) × (id ≡ w.head)

  -- a seat that was joined to another one is excepted
  abbrev pub Fits : View O L → Type 0
  Fits v = v.stage ≢ Spent → IsLive v

module _ {B O L : Type 0} (opening : B → O) (entries : B → List L) (at_rest : B → Type 0) where
  module _ (opened : O) (history : List L) where
    -- the book in the slot is at rest, with that opening and history
    pub record IsLaid (book : B) : Type 0 where
      pub rests : at_rest book
      pub opened_so : opening book ≡ opened
      pub told : entries book ≡ history

    abbrev pub IsSlot : Bool → List (mathlib.Core.Option.Option (Option B)) → Type 0
    IsSlot true homes = homes ≡ none ∷ []
    IsSlot false homes = (book : B) × (homes ≡ some (Some book) ∷ []) × IsLaid book

  module _ (by : L → ℕ) where
    pub record Holds (w : World O L) (s : State (Option B) (View O L)) : Type 0 where
      pub words : s.words ≡ (w.served + length w.queue) % 2 ^ 64 ∷ w.served % 2 ^ 64 ∷ length w.history % 2 ^ 64 ∷ []
      pub slot : IsSlot w.opening w.history w.busy s.homes
      pub waited : w.busy ≡ true → 0 < length w.queue
      pub queue : AreDistinct w.queue
      pub queued : All (Contains w.names) w.queue
      pub names : All (λ thread. thread < 2 ^ 32) w.names
      pub makers : All (λ entry. Contains w.names (by entry)) w.history
      pub seats : (id : ℕ) (v : View O L) → get_elem? s.views id ≡ some v → Fits by w id v

    abbrev pub Kept : State (Option B) (View O L) → Type 0
    Kept s = (w : World O L) × Holds w s
