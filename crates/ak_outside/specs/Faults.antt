-- Counts of faults, which are kept in 64 bits.
use Rattle.std.specs.Prelude.{◌≡◌, ℕ, ◌+◌, ◌-◌, ◌^◌, ◌<◌, min}

-- one more, in a count that stands still at its end
abbrev pub raised : ℕ → ℕ
raised n = min (n + 1) (2 ^ 64 - 1)

-- the count rose; of one that stood at its end nothing is said
abbrev pub Rose : ℕ → ℕ → Type 0
Rose old new = old < 2 ^ 64 - 1 → old < new

-- the count was below its end and is the same: no call failed
abbrev pub Stayed : ℕ → ℕ → Type 0
Stayed old new = (old < 2 ^ 64 - 1) × (new ≡ old)
