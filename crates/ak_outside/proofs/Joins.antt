-- What several reads or writes did, one after the other, is what one would have done.
use Rattle.std.proofs.Common.{◌≡◌, ℕ, ◌+◌, List, ◌++◌, length, take, drop, sym, subst, ◌-◌, arith, length-append, Result, Ok, Err, OnErr}
use Rattle.std.proofs.lemmas.List.{take-append-le}
use Rattle.std.proofs.lemmas.Grind.{common_steps}
use Rattle.std.specs.Prelude.{Option}
use Rattle.std.proofs.Math.Seq.{take-add, take-append-add}
use Rattle.std.proofs.KnownBytes.{Appends-trans, Consumes-trans}
use Rattle.std.specs.Io.KnownBytes.{Appends, Consumes}
use Rattle.ak_outside.specs.Source.{ConsumesAtMost}
use Rattle.ak_outside.specs.Sink.{AppendsPart}

-- two appends are one
pub Appends-joined : (a b c : Option (List ℕ)) (front rest : List ℕ) → Appends a b front → Appends b c rest → Appends a c (front ++ rest)
Appends-joined = Appends-trans

-- and two reads one
pub Consumes-joined : (a b c : Option (List ℕ)) (front rest : List ℕ) → Consumes a b front → Consumes b c rest → Consumes a c (front ++ rest)
Consumes-joined = Consumes-trans

-- a slice from k on is all that is past k
pub take-rest : (k : ℕ) (xs : List ℕ) → take (length xs - k) (drop k xs) ≡ drop k xs
take-rest k xs = grind (arith, common_steps)

-- the first k bytes, and then n of those after them
pub Appends-take : (a b c : Option (List ℕ)) (piece : List ℕ) (k n : ℕ) → Appends a b (take k piece) → Appends b c (take n (drop k piece)) → Appends a c (take (k + n) piece)
Appends-take a b c piece k n first second =
    subst (Appends a c) (sym (take-add k n piece)) (Appends-trans a b c _ _ first second)

-- a piece that failed after another was written: a part of both
pub AppendsPart-after : (a b c : Option (List ℕ)) (front rest : List ℕ) → Appends a b front → AppendsPart b c rest → AppendsPart a c (front ++ rest)
AppendsPart-after a b c front rest first part = (
  length front + part.0,
  omega (arith, part.1, length-append front rest),
  subst (Appends a c) (sym (take-append-add front rest part.0)) (Appends-trans a b c _ _ first part.2),
)

-- a piece that failed before another: a part of both
pub AppendsPart-before : (a b : Option (List ℕ)) (front rest : List ℕ) → AppendsPart a b front → AppendsPart a b (front ++ rest)
AppendsPart-before a b front rest part = (
  part.0,
  omega (arith, part.1, length-append front rest),
  subst (Appends a b) (sym (take-append-le part.0 front rest (omega (arith, part.1)))) part.2,
)

-- what holds at each exit holds at the exit by an `Err`
pub OnErr-always : {T E P : Type 0} (r : Result T E) → P → OnErr r P
OnErr-always (Ok x) p = tt
OnErr-always (Err e) p = p

-- some bytes more, within what is left of the limit
pub ConsumesAtMost-after : (a b c : Option (List ℕ)) (bytes : List ℕ) (room most : ℕ) → Consumes a b bytes → length bytes + room ≡ most → ConsumesAtMost room b c → ConsumesAtMost most a c
ConsumesAtMost-after a b c bytes room most first counted more =
    (bytes ++ more.0, omega (arith, more.1, length-append bytes more.0), Consumes-trans a b c bytes more.0 first more.2)
