-- What stands at a place of a list of which the last one is another, or that is one longer.
use Rattle.std.proofs.Common.{◌≡◌, ◌≢◌, ◌∙◌, ℕ, zero, suc, ◌<◌, List, [], ◌∷◌, ◌++◌, length, set, Option, None, Some, slice_get, All, refl, sym, ap, subst, ⊎_elim, arith}
use Rattle.std.proofs.lemmas.Bool.{cases_eq}
use Rattle.std.proofs.lemmas.List.Elements.{All-get_or}
use Rattle.std.proofs.lemmas.Option.{get_or_from_slice_get, slice_get_within}
use Rattle.ak_describe.proofs.ground.Ends.{get_push, get_set_other}

module _ {X : Type 0} where
  -- ---- what stands at a place
  pub item_there : (xs : List X) (i : ℕ) → i < length xs → (x : X) × (slice_get xs i ≡ Some x)
  item_there [] i lt = absurd (omega arith)
  item_there (x ∷ xs) zero lt = (x, refl)
  item_there (x ∷ xs) (suc i) lt = item_there xs i (omega arith)

  pub set_here : (xs : List X) (i : ℕ) (x y : X) → slice_get xs i ≡ Some x → slice_get (set xs i y) i ≡ Some y
  set_here [] i x y at = absurd cc
  set_here (z ∷ xs) zero x y at = refl
  set_here (z ∷ xs) (suc i) x y at = set_here xs i x y at

  pub push_there : (xs : List X) (y : X) (k : ℕ) → k ≢ length xs → slice_get (xs ++ y ∷ []) k ≡ slice_get xs k
  push_there [] y zero ne = absurd (ne refl)
  push_there [] y (suc k) ne = refl
  push_there (x ∷ xs) y zero ne = refl
  push_there (x ∷ xs) y (suc k) ne = push_there xs y k (λ e. ne (ap suc e))

  pub past : (xs : List X) → slice_get xs (length xs) ≡ None
  past [] = refl
  past (x ∷ xs) = past xs

  -- what is seen of a list stays, where the last one is seen as before
  pub same_set : {Z : Type 0} (F : Option X → Z) (xs : List X) (i : ℕ) (x y : X) → slice_get xs i ≡ Some x → F (Some y) ≡ F (Some x) → (k : ℕ) → F (slice_get (set xs i y) k) ≡ F (slice_get xs k)
  same_set F xs i x y at same k =
      ⊎_elim
      (λ (e : k ≡ i). ap (λ n. F (slice_get (set xs i y) n)) e ∙ ap F (set_here xs i x y at) ∙ same ∙ ap F (sym at) ∙ ap (λ n. F (slice_get xs n)) (sym e))
      (λ (ne : k ≢ i). ap F (get_set_other xs i k y ne))
      (cases_eq k i)

  pub same_push : {Z : Type 0} (F : Option X → Z) (xs : List X) (y : X) → F (Some y) ≡ F None → (k : ℕ) → F (slice_get (xs ++ y ∷ []) k) ≡ F (slice_get xs k)
  same_push F xs y same k =
      ⊎_elim
      (λ (e : k ≡ length xs). ap (λ n. F (slice_get (xs ++ y ∷ []) n)) e ∙ ap F (get_push xs y) ∙ same ∙ ap F (sym (past xs)) ∙ ap (λ n. F (slice_get xs n)) (sym e))
      (λ (ne : k ≢ length xs). ap F (push_there xs y k ne))
      (cases_eq k (length xs))

  -- ---- what holds of all holds of one that is there
  pub all_there : (P : X → Type 0) (xs : List X) (i : ℕ) (x : X) → slice_get xs i ≡ Some x → All P xs → P x
  all_there P xs i x at all =
      subst P (get_or_from_slice_get xs i x x at) (All-get_or P xs i x (slice_get_within xs i x at) all)
