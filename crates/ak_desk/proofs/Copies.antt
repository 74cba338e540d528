-- One element more of a list is copied.
use Rattle.std.proofs.Common.{◌≡◌, ℕ, ◌+◌, ◌<◌, List, [], ◌∷◌, ◌++◌, length, take, get_or, sym, ap, ◌∙◌}
use Rattle.std.proofs.lemmas.List.{take_more}

pub copied-next : {A : Type 0} (xs copies after : List A) (i : ℕ) (item copy : A) → i < length xs → item ≡ get_or xs i item → copy ≡ item → copies ≡ take i xs → after ≡ copies ++ copy ∷ [] → after ≡ take (i + 1) xs
copied-next xs copies after i item copy lt at same so_far more =
    more ∙ ap (λ l. l ++ copy ∷ []) so_far ∙ ap (λ x. take i xs ++ x ∷ []) (same ∙ at) ∙ sym (take_more xs i item lt)
