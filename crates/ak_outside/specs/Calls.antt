-- The calls of a source, a sink or a spawner in memory.
use Rattle.std.specs.Prelude.{ℕ, List, Contains}
use Rattle.ak_outside.specs.Faults.{raised}

-- the numbers of the calls that are refused, counted from 1, how many were made, and how many failed
pub record Calls : Type 0 where
  pub refused : List ℕ
  pub made : ℕ
  pub faults : ℕ

abbrev pub no_calls : List ℕ → Calls
no_calls numbers = record { refused = numbers; made = 0; faults = 0 }

-- the next call is one that is refused
abbrev pub RefusesNext : Calls → Type 0
RefusesNext calls = Contains calls.refused (raised calls.made)

-- one more call was made, and did not fail
abbrev pub with_call : Calls → Calls
with_call calls = record calls { made = raised calls.made }

-- one more call was made, and failed
abbrev pub with_fault : Calls → Calls
with_fault calls = record calls { made = raised calls.made; faults = raised calls.faults }
