-- The closing line.
use Rattle.std.proofs.Common.{◌≡◌, ℕ, ◌<◌, ◌≤◌, List, length, take, Option, Result, Ok, Err, OnOk, OnErr, sym, subst, arith}
use Rattle.std.proofs.lemmas.List.{take_all}
use Rattle.std.specs.Io.KnownBytes.{Appends}
use Rattle.ak_base.specs.declared.ending.Ending.{Ending}
use Rattle.ak_outside.specs.Faults.{Rose}
use Rattle.ak_outside.specs.Sink.{AppendsPart}
use Rattle.ak_kit.specs.Kit.{Closes, closing_line}

-- the bytes of a write, whole or in part
part_of : {A E : Type 0} (r : Result A E) (line : List ℕ) (old new : Option (List ℕ)) (faults faults' : ℕ) → OnOk r (Appends old new line) → OnErr r (AppendsPart old new line) → OnErr r (Rose faults faults') → OnOk r (faults' ≡ faults)
    → (n : ℕ) × Appends old new (take n line) × (n < length line → Rose faults faults') × (length line ≤ n → faults' ≡ faults)
part_of (Ok x) line old new faults faults' whole part failed kept = (length line, subst (Appends old new) (sym (take_all (length line) line (omega arith))) whole, λ lt. absurd (omega (arith, lt)), λ all. kept)
part_of (Err e) line old new faults faults' whole part failed kept = (part.0, part.2, λ _. failed, λ all. absurd (omega (arith, all, part.1)))

-- the closing line was written, whole or in part
pub closed : {A E : Type 0} (r : Result A E) (end : Ending) (line : List ℕ) (old new : Option (List ℕ)) (faults faults' : ℕ) → line ≡ closing_line end
    → OnOk r (Appends old new line) → OnErr r (AppendsPart old new line) → OnErr r (Rose faults faults') → OnOk r (faults' ≡ faults) → Closes end old new faults faults'
closed r end line old new faults faults' is whole part failed kept =
    subst (λ (l : List ℕ). (n : ℕ) × Appends old new (take n l) × (n < length l → Rose faults faults') × (length l ≤ n → faults' ≡ faults)) is (part_of r line old new faults faults' whole part failed kept)
