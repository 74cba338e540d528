-- A sink in memory.
use Rattle.std.specs.Prelude.{◌≡◌, ℕ, List, ◌++◌, length}
use Rattle.ak_outside.specs.Calls.{Calls, RefusesNext, with_call, with_fault}
use Rattle.ak_outside.specs.declared.sink.SinkWrite.{SinkWrite}
use Rattle.ak_outside.specs.declared.sink.SinkWrite.TheVariants.{Wrote, Failed}

-- what was written, and the calls
pub record ListState : Type 0 where
  pub written : List ℕ
  pub calls : Calls

-- a write takes the whole piece, and fails where its call is refused; else it fails for want of memory alone
abbrev pub WritesList : ListState → ListState → List ℕ → SinkWrite → Type 0
WritesList old new piece (Wrote n) =
    (¬ RefusesNext old.calls) × (n ≡ length piece) × (new ≡ record { written = old.written ++ piece; calls = with_call old.calls })
WritesList old new piece Failed = new ≡ record { written = old.written; calls = with_fault old.calls }
