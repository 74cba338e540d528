-- What was read says of a script what the whole input does.
use Rattle.std.proofs.Common.{◌≡◌, ◌⊎◌, inl, inr, ℕ, ◌≤◌, ◌<◌, true, false, leb, List, [], ◌++◌, length, take, Option, Some, None, sym, ap, ◌∙◌, subst, arith, length-append}
use Rattle.std.proofs.lemmas.Bool.{lt-leb}
use Rattle.std.proofs.lemmas.Bool.Decides.{leb_tells}
use Rattle.std.proofs.lemmas.List.{append-nil, take-append-le}
use Rattle.std.specs.Prelude.{count_by, ◌==◌, ◌+◌, if◌then◌else◌, Bool}
use Rattle.std.specs.Io.KnownBytes.{Consumes, IsAtEnd}
use Rattle.ak_input.specs.Lines.{too_long, line_at, lines_of}
use Rattle.ak_script.specs.Script.{script_of, unless_long}

-- of a long input nothing is looked at but the front
long_at : (input : List ℕ) → 1048576 < length input → too_long input ≡ Some (line_at 1048576 input)
long_at input long = ap (λ (b : Bool). if b then None else Some (line_at 1048576 input)) (lt-leb (length input) 1048576 long)

long_script : (given rest : List ℕ) → 1048576 < length given → script_of given ≡ script_of (given ++ rest)
unfolding script_of
long_script given rest long =
    let longer : 1048576 < length (given ++ rest) = omega (arith, long, length-append given rest) in
    let front : take 1048576 (given ++ rest) ≡ take 1048576 given = take-append-le 1048576 given rest (omega (arith, long)) in
    let line : line_at 1048576 (given ++ rest) ≡ line_at 1048576 given = ap (λ (l : List ℕ). count_by (λ b. b == 10) l + 1) front in
    let one = ap (λ o. unless_long o (lines_of given)) (long_at given long) in
    let other = ap (λ o. unless_long o (lines_of (given ++ rest))) (long_at (given ++ rest) longer) in
    one ∙ ap (λ (n : ℕ). unless_long (Some n) (lines_of given)) (sym line) ∙ sym other

read_script : (given rest : List ℕ) → (length given ≤ 1048576 → rest ≡ []) → ((leb (length given) 1048576 ≡ true) × (length given ≤ 1048576)) ⊎ ((leb (length given) 1048576 ≡ false) × (1048576 < length given)) → script_of given ≡ script_of (given ++ rest)
read_script given rest ended (inl (_, short)) = ap script_of (sym (append-nil given) ∙ ap (λ (r : List ℕ). given ++ r) (sym (ended short)))
read_script given rest ended (inr (_, long)) = long_script given rest long

-- what was read is the text of the script that the input is the text of, or has its refusal
pub same_script : (input given : List ℕ) (old new : Option (List ℕ)) → old ≡ Some input → Consumes old new given → (length given ≤ 1048576 → IsAtEnd new) → script_of given ≡ script_of input
same_script input given old None told consumed at_end = absurd (subst (λ (left : Option (List ℕ)). Consumes left None given) told consumed)
same_script input given old (Some rest) told consumed at_end =
    let split : input ≡ given ++ rest = subst (λ (left : Option (List ℕ)). Consumes left (Some rest) given) told consumed in
    read_script given rest at_end (leb_tells (length given) 1048576) ∙ ap script_of (sym split)
