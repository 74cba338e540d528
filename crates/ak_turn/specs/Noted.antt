-- What a thread did at an object: each entry that it made there, with all that stood before it.
use Rattle.std.specs.Prelude.{◌≡◌, ℕ, ◌==◌, List, [], ◌∷◌, ◌++◌, map, All, if◌then◌else◌}
use Rattle.ak_turn.specs.Entries.{StartsWith, made_by}
use Rattle.ak_turn.specs.Seats.{SeatData, HasSeen, HasCalled}

-- an entry, and the object's list when it was made
pub record Noted (L : Type 0) : Type 0 where
  pub before : List L
  pub entry : L

module _ {L : Type 0} where
  abbrev pub note : List L → L → Noted L
  note before entry = record { before = before; entry = entry }

  -- of entries that stand behind those, the thread's own
  abbrev pub noted_from : (L → ℕ) → ℕ → List L → List L → List (Noted L)
  noted_from by thread before [] = []
  noted_from by thread before (entry ∷ entries) =
      if by entry == thread then (note before entry ∷ noted_from by thread (before ++ entry ∷ []) entries)
      else noted_from by thread (before ++ entry ∷ []) entries

  -- all that the thread did, in order
  abbrev pub noted : (L → ℕ) → ℕ → List L → List (Noted L)
  noted by thread entries = noted_from by thread [] entries

  abbrev pub entry_of : Noted L → L
  entry_of n = n.entry

  -- it stands so in that list, or in one that the list goes on from
  abbrev pub StandsIn : List L → Noted L → Type 0
  StandsIn entries n = StartsWith entries (n.before ++ n.entry ∷ [])

-- ---- laws
-- what is noted are the entries that the thread made
abbrev pub NotedIsMade : (L : Type 0) → (L → ℕ) → Type 0
NotedIsMade L by = (thread : ℕ) (entries : List L) → map entry_of (noted by thread entries) ≡ made_by by thread entries

-- and each stands in the list with all that stood before it
abbrev pub NotedStands : (L : Type 0) → (L → ℕ) → Type 0
NotedStands L by = (thread : ℕ) (entries : List L) → All (StandsIn entries) (noted by thread entries)

-- where the seat has seen, nothing more is noted
abbrev pub SeenNotesNothing : (O L : Type 0) → (L → ℕ) → Type 0
SeenNotesNothing O L by = (a b : SeatData O L) → HasSeen by a b → noted by b.thread b.front ≡ noted by a.thread a.front

-- where it has called, the new entry is, behind all the others
abbrev pub CalledNotesOne : (O L : Type 0) → (L → ℕ) → Type 0
CalledNotesOne O L by =
    (entry : L) (before : List L) (a b : SeatData O L) → HasCalled by entry a b → b.front ≡ before ++ entry ∷ []
    → noted by b.thread b.front ≡ noted by a.thread a.front ++ note before entry ∷ []
