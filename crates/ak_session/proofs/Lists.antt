-- Lists that are one longer.
use Rattle.std.proofs.Common.{◌≡◌, ◌+◌, List, [], ◌∷◌, ◌++◌, length, ap, length-append, arith}

pub one_longer : {X : Type 0} (list before : List X) (x : X) → list ≡ before ++ x ∷ [] → length list ≡ length before + 1
one_longer {X} list before x is = omega (arith, ap (λ (l : List X). length l) is, length-append before (x ∷ []))
