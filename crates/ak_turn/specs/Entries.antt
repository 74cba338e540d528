-- Entries of a book, oldest first.
use Rattle.std.specs.Prelude.{◌≡◌, ◌≢◌, ℕ, suc, ◌-◌, ◌==◌, List, [], ◌∷◌, ◌++◌, length, All, filter, option_map, slice_get, unwrap_or, if◌then◌else◌}

module _ {L : Type 0} where
  -- the stamp of the last entry, 0 where there is none
  abbrev pub last_stamp_of : (L → ℕ) → List L → ℕ
  last_stamp_of stamp entries = unwrap_or (option_map stamp (slice_get entries (length entries - 1))) 0

  -- the number of the thread that made an entry, by what the journal shows of it
  abbrev pub maker : {E : Type 0} → (L → E) → (E → ℕ) → L → ℕ
  maker plain by entry = by (plain entry)

  -- where a thread's entries stand, counted from n on
  abbrev pub places_from : (L → ℕ) → ℕ → ℕ → List L → List ℕ
  places_from by thread n [] = []
  places_from by thread n (entry ∷ entries) = if by entry == thread then (n ∷ places_from by thread (suc n) entries) else places_from by thread (suc n) entries

  -- the places of a thread's entries, in order
  abbrev pub places : (L → ℕ) → ℕ → List L → List ℕ
  places by thread entries = places_from by thread 0 entries

  -- the entries go on from that front
  abbrev pub StartsWith : List L → List L → Type 0
  StartsWith entries front = (rest : List L) × (entries ≡ front ++ rest)

  -- no entry is the thread's
  abbrev pub AreByOthers : (L → ℕ) → ℕ → List L → Type 0
  AreByOthers by thread entries = All (λ entry. by entry ≢ thread) entries

  -- the entries that a thread made, in order
  abbrev pub made_by : (L → ℕ) → ℕ → List L → List L
  made_by by thread entries = filter (λ entry. by entry == thread) entries
