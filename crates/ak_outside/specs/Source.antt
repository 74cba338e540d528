-- What reading does to what a source has left.
use Rattle.std.specs.Prelude.{◌≡◌, ℕ, ◌≤◌, List, Option, ◌++◌, length, take}
use Rattle.std.specs.Io.KnownBytes.{Consumes, Keeps, IsAtEnd}
use Rattle.ak_outside.specs.declared.source.SourceRead.{SourceRead}
use Rattle.ak_outside.specs.declared.source.SourceRead.TheVariants.{Read, Failed}

-- a read gave the next n bytes, none only where nothing is left, or it failed and gave none
abbrev pub Reads : Option (List ℕ) → Option (List ℕ) → List ℕ → SourceRead → Type 0
Reads old new buf (Read n) = (n ≤ length buf) × Consumes old new (take n buf) × (n ≡ 0 → IsAtEnd new)
Reads old new buf Failed = Keeps old new

-- some bytes were read, at most so many
abbrev pub ConsumesAtMost : ℕ → Option (List ℕ) → Option (List ℕ) → Type 0
ConsumesAtMost most old new = (bytes : List ℕ) × (length bytes ≤ most) × Consumes old new bytes

-- the next n bytes were read, none only where nothing is left, and added to those before
pub record AddsPiece (old new : Option (List ℕ)) (before after : List ℕ) (n : ℕ) : Type 0 where
  pub piece : List ℕ
  pub length_is : length piece ≡ n
  pub added : after ≡ before ++ piece
  pub consumed : Consumes old new piece
  pub at_end : n ≡ 0 → IsAtEnd new
