-- Stamps of entries, in the order in which the entries stand.
use Rattle.std.specs.Prelude.{ℕ, ◌<◌, List, [], ◌∷◌}

module _ {L : Type 0} (stamp : L → ℕ) where
  -- the stamps rise, from past that number on
  abbrev pub Rise : ℕ → List L → Type 0
  Rise last [] = Unit {0}
  Rise last (entry ∷ entries) = (last < stamp entry) × Rise (stamp entry) entries
