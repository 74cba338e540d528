-- One element more of a list is copied.
use Rattle.std.proofs.Common.{◌≡◌, ℕ, ◌+◌, ◌<◌, List, [], ◌∷◌, ◌++◌, length, map, take, get_or, sym, ap, ◌∙◌}
use Rattle.std.proofs.lemmas.List.{map-append, take_more}

pub copied-next : {A : Type 0} (xs copies after : List A) (i : ℕ) (item copy : A) → i < length xs → item ≡ get_or xs i item → copy ≡ item → copies ≡ take i xs → after ≡ copies ++ copy ∷ [] → after ≡ take (i + 1) xs
copied-next xs copies after i item copy lt at same so_far more =
    more ∙ ap (λ l. l ++ copy ∷ []) so_far ∙ ap (λ x. take i xs ++ x ∷ []) (same ∙ at) ∙ sym (take_more xs i item lt)

-- where a function of them is the same
pub seen-next : {A B : Type 0} (f : A → B) (xs copies after : List A) (i : ℕ) (item copy : A) → i < length xs → item ≡ get_or xs i item → f copy ≡ f item → map f copies ≡ map f (take i xs) → after ≡ copies ++ copy ∷ [] → map f after ≡ map f (take (i + 1) xs)
seen-next f xs copies after i item copy lt at same so_far more =
    ap (map f) more ∙ map-append f copies (copy ∷ []) ∙ ap (λ l. l ++ f copy ∷ []) so_far ∙ ap (λ y. map f (take i xs) ++ y ∷ []) (same ∙ ap f at) ∙ sym (map-append f (take i xs) (get_or xs i item ∷ [])) ∙ sym (ap (map f) (take_more xs i item lt))
