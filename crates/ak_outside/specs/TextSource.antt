-- A source in memory.
use Rattle.std.specs.Prelude.{◌≡◌, ℕ, List, length, min, take, drop}
use Rattle.ak_outside.specs.Calls.{Calls, RefusesNext, with_call, with_fault}
use Rattle.ak_outside.specs.declared.source.SourceRead.{SourceRead}
use Rattle.ak_outside.specs.declared.source.SourceRead.TheVariants.{Read, Failed}

-- what is left, and the calls
pub record TextState : Type 0 where
  pub left : List ℕ
  pub calls : Calls

-- a read gives as much of what is left as fits, and fails exactly where its call is refused
abbrev pub ReadsText : TextState → TextState → List ℕ → SourceRead → Type 0
ReadsText old new buf (Read n) =
    (¬ RefusesNext old.calls) × (n ≡ min (length buf) (length old.left)) × (take n buf ≡ take n old.left)
    × (new ≡ record { left = drop n old.left; calls = with_call old.calls })
ReadsText old new buf Failed = RefusesNext old.calls × (new ≡ record { left = old.left; calls = with_fault old.calls })
