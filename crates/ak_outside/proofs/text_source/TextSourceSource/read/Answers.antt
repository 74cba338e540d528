-- What a read gives is the front of what is left.
use Rattle.std.proofs.Common.{◌≡◌, ℕ, ◌<◌, ◌≤◌, List, [], ◌++◌, length, take, drop, min, ap, arith}
use Rattle.std.proofs.lemmas.Grind.{common_steps}
use Rattle.std.proofs.lemmas.List.{drop-drop}
use Rattle.ak_outside.specs.TextSource.{TextState}
use Rattle.ak_outside.proofs.Joins.{take-rest}
use Rattle.ak_outside.proofs.text_source.TextSourceSource.read.Goals as goal

front_is_read : (left buf front : List ℕ) (n : ℕ) → n ≡ min (length left) (length buf) → front ≡ take n left → left ≡ take n (front ++ drop n buf) ++ drop n left
front_is_read left buf front n counted copied = grind (arith, common_steps)

front_fits : (left buf front : List ℕ) (n : ℕ) → n ≡ min (length left) (length buf) → front ≡ take n left → n ≤ length (front ++ drop n buf)
front_fits left buf front n counted copied = grind (arith, common_steps)

none_is_left : (left buf : List ℕ) (n : ℕ) → n ≡ min (length left) (length buf) → 0 < length buf → n ≡ 0 → drop n left ≡ []
none_is_left left buf n counted room none = grind (arith, common_steps)

pub returns-clause-bytes : goal.returns-clause-bytes
returns-clause-bytes c =
    let inside = c.self.inside in
    let left = drop inside.position inside.bytes in
    let counted : c.min-n.result ≡ min (length left) (length c.args.buf.now) = rw (c.as_slice.ensures, take-rest) at c.min-n.ensures in
    let copied : c.copy_from_slice.new.self ≡ take c.min-n.result left = rw (c.as_slice.ensures, take-rest) at c.copy_from_slice.ensures.after in
    rw (← ap (λ (s : TextState). s.left) c.self.view_is, ← drop-drop c.min-n.result inside.position inside.bytes)
    (front_fits left _ _ _ counted copied, front_is_read left _ _ _ counted copied, none_is_left left _ _ counted c.requires)
