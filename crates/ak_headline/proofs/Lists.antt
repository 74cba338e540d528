-- Lists with one thing more.
use Rattle.std.proofs.Common.{◌≡◌, List, [], ◌∷◌, ◌++◌, get_or, ap}
use Rattle.std.proofs.lemmas.List.{append_cancel_left}

module _ {A : Type 0} where
  -- the last things of two lists that are the same
  pub same_last : (xs : List A) (x y : A) → xs ++ x ∷ [] ≡ xs ++ y ∷ [] → x ≡ y
  same_last xs x y e = ap (λ l. get_or l 0 x) (append_cancel_left xs (x ∷ []) (y ∷ []) e)
