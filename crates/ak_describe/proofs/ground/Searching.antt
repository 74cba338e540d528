-- What a search in a list tells of what is in it.
use Rattle.std.proofs.Common.{◌≡◌, ℕ, ◌≤◌, Bool, true, false, Decides, Any, List, [], ◌∷◌, get_or, Some, None, is_some, find, position, slice_get, sym, ap, ◌∙◌, ⊎_elim}
use Rattle.std.specs.List.{list_any}
use Rattle.std.proofs.lemmas.Bool.{cases_lt}
use Rattle.std.proofs.lemmas.List.Folds.{Any-from_list_any, list_any-from_Any}
use Rattle.std.proofs.lemmas.List.Quantifiers.{position-Some}
use Rattle.std.proofs.lemmas.Option.{slice_get-get_or, slice_get_within, get_or_from_slice_get}
use Rattle.ak_action.proofs.Surface.{found_any}
use Rattle.ak_base.proofs.Surface.{is_some-position}

module _ {X : Type 0} (p : X → Bool) where
  found_at : (xs : List X) → is_some (position p xs) ≡ list_any p xs
  found_at xs = is_some-position p xs ∙ found_any p xs

  -- ---- the first one
  first_at_by : (xs : List X) (i : ℕ) (d : X) → position p xs ≡ Some i → (x : X) × (slice_get xs i ≡ Some x) × (p x ≡ true)
  first_at_by xs i d e = let at = position-Some p xs i d e in (get_or xs i d, slice_get-get_or xs i d at.0, at.1)

  pub first_at : (xs : List X) (i : ℕ) → position p xs ≡ Some i → (x : X) × (slice_get xs i ≡ Some x) × (p x ≡ true)
  first_at [] i e = absurd cc
  first_at (x ∷ xs) i e = first_at_by (x ∷ xs) i x e

  pub first_is_first : (xs : List X) (i j : ℕ) (x : X) → position p xs ≡ Some i → slice_get xs j ≡ Some x → p x ≡ true → i ≤ j
  first_is_first xs i j x e at passes =
      ⊎_elim
      (λ lt.
      let not_before = (position-Some p xs i x e).2 j lt in
      let same : p (get_or xs j x) ≡ p x = ap p (get_or_from_slice_get xs j x x at) in
      absurd (cc (not_before, same, passes)))
      (λ le. le)
      (cases_lt j i)

  module _ (P : X → Type 0) (decides : (x : X) → Decides (p x) (P x)) where
    pub any_decides : (xs : List X) → Decides (list_any p xs) (Any P xs)
    any_decides xs = (
      λ e. let a = Any-from_list_any p xs e in (a.0, a.1, a.2, a.3, (decides a.1).0 a.4),
      λ a. list_any-from_Any p xs (a.0, a.1, a.2, a.3, (decides a.1).1 a.4),
    )

    pub find_decides : (xs : List X) → Decides (is_some (find p xs)) (Any P xs)
    find_decides xs = (λ e. (any_decides xs).0 (sym (found_any p xs) ∙ e), λ a. found_any p xs ∙ (any_decides xs).1 a)

    pub position_decides : (xs : List X) → Decides (is_some (position p xs)) (Any P xs)
    position_decides xs = (λ e. (any_decides xs).0 (sym (found_at xs) ∙ e), λ a. found_at xs ∙ (any_decides xs).1 a)

  pub none_passes : (xs : List X) (j : ℕ) (x : X) → position p xs ≡ None → slice_get xs j ≡ Some x → p x ≡ true → ⊥
  none_passes xs j x none at passes =
      let found : is_some (position p xs) ≡ true =
      (position_decides (λ (y : X). p y ≡ true) (λ y. (λ e. e, λ e. e)) xs).1 (j, x, slice_get_within xs j x at, get_or_from_slice_get xs j x x at, passes) in
      let missing : is_some (position p xs) ≡ false = ap is_some none in
      cc
