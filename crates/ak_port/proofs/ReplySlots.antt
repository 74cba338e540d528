-- A slot's place among the slots, before and after one event.
use Rattle.std.proofs.Common.{◌≡◌, ◌≢◌, ℕ, zero, suc, ◌<◌, ◌⊎◌, List, [], ◌∷◌, ◌++◌, length, Some, sym, refl, ap, inl, inr, ⊎_elim, arith}
use Rattle.std.specs.Prelude.{slice_get}
use Rattle.ak_port.specs.Reply.{Stage, SlotData, slot_of, with_stage}

-- ---- lists
module _ {X : Type 0} where
  pub get_left : (xs ys : List X) (i : ℕ) → i < length xs → slice_get (xs ++ ys) i ≡ slice_get xs i
  get_left [] ys i lt = absurd (omega arith)
  get_left (x ∷ xs) ys zero lt = refl
  get_left (x ∷ xs) ys (suc i) lt = get_left xs ys i (omega arith)

  -- what stands in a list that is one longer
  pub get_push : (xs : List X) (x y : X) (i : ℕ) → slice_get (xs ++ x ∷ []) i ≡ Some y → (slice_get xs i ≡ Some y) ⊎ ((i ≡ length xs) × (x ≡ y))
  get_push [] x y zero e = inr (refl, cc)
  get_push [] x y (suc i) e = absurd (cc)
  get_push (z ∷ zs) x y zero e = inl e
  get_push (z ∷ zs) x y (suc i) e = ⊎_elim (λ t. inl t) (λ (t : (i ≡ length zs) × (x ≡ y)). inr (ap suc t.0, t.1)) (get_push zs x y i e)

  pub get_last : (xs : List X) (x : X) → slice_get (xs ++ x ∷ []) (length xs) ≡ Some x
  get_last [] x = refl
  get_last (y ∷ ys) x = get_last ys x

-- ---- a slot that changes
pub get_same : (slots : List SlotData) (n opener : ℕ) (old stage : Stage) → slice_get slots n ≡ Some (slot_of opener old) → slice_get (with_stage slots n stage) n ≡ Some (slot_of opener stage)
get_same [] n opener old stage there = absurd (cc)
get_same (slot ∷ slots) zero opener old stage there = let e : slot ≡ slot_of opener old = cc in ap (λ (s : SlotData). Some (slot_of s.opener stage)) e
get_same (slot ∷ slots) (suc n) opener old stage there = get_same slots n opener old stage there

pub get_other : (slots : List SlotData) (n m : ℕ) (stage : Stage) → m ≢ n → slice_get (with_stage slots n stage) m ≡ slice_get slots m
get_other [] n m stage ne = refl
get_other (slot ∷ slots) zero zero stage ne = absurd (ne refl)
get_other (slot ∷ slots) zero (suc m) stage ne = refl
get_other (slot ∷ slots) (suc n) zero stage ne = refl
get_other (slot ∷ slots) (suc n) (suc m) stage ne = get_other slots n m stage (λ e. ne (ap suc e))

-- what stands at a place of changed slots was there, or is the changed slot
pub get_staged
    : (slots : List SlotData) (n m : ℕ) (stage : Stage) (slot : SlotData) → slice_get (with_stage slots n stage) m ≡ Some slot
    → (slice_get slots m ≡ Some slot) ⊎ ((n ≡ m) × (slot.stage ≡ stage))
get_staged [] n m stage slot e = absurd (cc)
get_staged (s ∷ ss) zero zero stage slot e = let same : slot_of s.opener stage ≡ slot = cc in inr (refl, ap (λ (x : SlotData). x.stage) (sym same))
get_staged (s ∷ ss) zero (suc m) stage slot e = inl e
get_staged (s ∷ ss) (suc n) zero stage slot e = inl e
get_staged (s ∷ ss) (suc n) (suc m) stage slot e =
    ⊎_elim (λ t. inl t) (λ (t : (n ≡ m) × (slot.stage ≡ stage)). inr (ap suc t.0, t.1)) (get_staged ss n m stage slot e)
