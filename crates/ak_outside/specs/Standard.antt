-- A reader or a writer of the system, with the count of its calls that failed.
use Rattle.std.specs.Prelude.{ℕ}

pub record Counted (T : Type 0) : Type 0 where
  pub inner : T
  pub faults : ℕ

-- no call has failed yet
abbrev pub not_failed : {T : Type 0} → T → Counted T
not_failed inner = record { inner = inner; faults = 0 }
