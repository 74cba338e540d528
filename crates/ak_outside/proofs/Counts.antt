-- Counts of faults over several calls, one after the other.
use Rattle.std.proofs.Common.{ℕ, ◌≤◌, arith}
use Rattle.ak_outside.specs.Faults.{Rose, Stayed}

-- a count that rose in a later call rose
pub Rose-after : (a b c : ℕ) → a ≤ b → b ≤ c → Rose b c → Rose a c
Rose-after a b c first second rose below = grind (arith, rose)

-- a count that rose in an earlier call rose
pub Rose-before : (a b c : ℕ) → Rose a b → b ≤ c → Rose a c
Rose-before a b c rose second below = omega (arith, rose below)

-- a count that stayed over two calls stayed over each
pub Stayed-parts : (a b c : ℕ) → a ≤ b → b ≤ c → Stayed a c → Stayed a b × Stayed b c
Stayed-parts a b c first second stayed = ((omega arith, omega arith), (omega arith, omega arith))

-- a count does not both stay and rise
pub Stayed-not_Rose : (a b : ℕ) → Stayed a b → ¬ Rose a b
Stayed-not_Rose a b stayed rose = omega (arith, rose stayed.0)
