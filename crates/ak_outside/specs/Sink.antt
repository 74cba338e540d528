-- What writing does to what a sink was given.
use Rattle.std.specs.Prelude.{ℕ, ◌<◌, ◌≤◌, List, Option, length, take}
use Rattle.std.specs.Io.KnownBytes.{Appends, Keeps}
use Rattle.ak_outside.specs.declared.sink.SinkWrite.{SinkWrite}
use Rattle.ak_outside.specs.declared.sink.SinkWrite.TheVariants.{Wrote, Failed}

-- a write took the first n bytes of the piece, at least one, or it failed and took none
abbrev pub Writes : Option (List ℕ) → Option (List ℕ) → List ℕ → SinkWrite → Type 0
Writes old new piece (Wrote n) = (1 ≤ n) × (n ≤ length piece) × Appends old new (take n piece)
Writes old new piece Failed = Keeps old new

-- the front of the piece was written, and not all of it
abbrev pub AppendsPart : Option (List ℕ) → Option (List ℕ) → List ℕ → Type 0
AppendsPart old new piece = (n : ℕ) × (n < length piece) × Appends old new (take n piece)
