-- The threads that a door tells, where it tells them.
use Rattle.std.specs.Prelude.{ℕ, List, [], ◌∷◌, ◌++◌, Contains, Option, None, Some}

-- the thread is not among them
abbrev pub IsNewIn : Option (List ℕ) → ℕ → Type 0
IsNewIn None thread = Unit {0}
IsNewIn (Some threads) thread = ¬ (Contains threads thread)

-- the thread is one of them too
abbrev pub told_with : Option (List ℕ) → ℕ → Option (List ℕ)
told_with None thread = None
told_with (Some threads) thread = Some (threads ++ thread ∷ [])
