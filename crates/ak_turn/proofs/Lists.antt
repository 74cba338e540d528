-- Queues and places of lists: what is one place longer or shorter, and how many distinct numbers there are below a bound.
use Rattle.std.proofs.Common.{◌≡◌, ◌≢◌, ℕ, zero, suc, ◌+◌, ◌*◌, ◌/◌, ◌%◌, ◌<◌, ◌≤◌, ◌⊎◌, List, [], ◌∷◌, ◌++◌, length, get_or, set, drop, All, Contains, sym, refl, ap, ◌∙◌, subst, inl, inr, ⊎_elim, arith, div-add-mod'}
use Rattle.std.proofs.Math.Nat.{mul-add-mod_self_right}
use mathlib.Core.Option.{some, some-injective, some-ne-none}
use lib.ListN.{get_elem?}
use Rattle.atomic_table.proofs.Lists.{at_set}
use Rattle.ak_base.proofs.Surface.{few_below}
use Rattle.ak_turn.specs.Rule.{Absent, AreDistinct}

-- ---- places
module _ {A : Type 0} where
  -- what stands in a list that is one longer
  pub at_push : (l : List A) (a b : A) (j : ℕ) → get_elem? (l ++ a ∷ []) j ≡ some b → (get_elem? l j ≡ some b) ⊎ ((j ≡ length l) × (a ≡ b))
  at_push [] a b zero e = inr (refl, some-injective a b e)
  at_push [] a b (suc j) e = absurd (some-ne-none b (sym e))
  at_push (x ∷ xs) a b zero e = inl e
  at_push (x ∷ xs) a b (suc j) e = ⊎_elim (λ t. inl t) (λ (t : (j ≡ length xs) × (a ≡ b)). inr (ap suc t.0, t.1)) (at_push xs a b j e)

  pub at_within : (l : List A) (j : ℕ) (b : A) → get_elem? l j ≡ some b → j < length l
  at_within [] j b e = absurd (some-ne-none b (sym e))
  at_within (x ∷ xs) zero b e = omega arith
  at_within (x ∷ xs) (suc j) b e = omega (arith, at_within xs j b e)

  -- what stands behind the first
  pub at_behind : (l : List A) (j : ℕ) → get_elem? (drop 1 l) j ≡ get_elem? l (suc j)
  at_behind [] j = refl
  at_behind (x ∷ xs) j = refl

  pub length_behind : (l : List A) → 0 < length l → length l ≡ suc (length (drop 1 l))
  length_behind [] h = absurd (omega arith)
  length_behind (x ∷ xs) h = refl

  pub at_or : (l : List A) (i : ℕ) (d : A) → i < length l → get_elem? l i ≡ some (get_or l i d)
  at_or [] i d h = absurd (omega arith)
  at_or (x ∷ xs) zero d h = refl
  at_or (x ∷ xs) (suc i) d h = at_or xs i d (omega arith)

  pub or_at : (l : List A) (i : ℕ) (b d : A) → get_elem? l i ≡ some b → get_or l i d ≡ b
  or_at [] i b d e = absurd (some-ne-none b (sym e))
  or_at (x ∷ xs) zero b d e = some-injective x b e
  or_at (x ∷ xs) (suc i) b d e = or_at xs i b d e

  -- one place changes, and what holds of each place stays
  pub each_stays : (F : ℕ → A → Type 0) (l : List A) (i : ℕ) (a : A) → F i a → ((j : ℕ) (b : A) → j ≢ i → get_elem? l j ≡ some b → F j b)
      → (j : ℕ) (b : A) → get_elem? (set l i a) j ≡ some b → F j b
  each_stays F l i a mine others j b e = ⊎_elim (λ (t : (j ≡ i) × (a ≡ b)). subst (λ (x : ℕ × A). F x.0 x.1) (λ k. (sym t.0 k, t.1 k)) mine)
      (λ (t : (j ≢ i) × (get_elem? l j ≡ some b)). others j b t.0 t.1) (at_set l i j a b e)

-- ---- distinct numbers
pub contains_at : (xs : List ℕ) (k x : ℕ) → get_elem? xs k ≡ some x → Contains xs x
contains_at xs k x e = (k, at_within xs k x e, or_at xs k x x e)

pub distinct_push : (xs : List ℕ) (x : ℕ) → AreDistinct xs → Absent xs x → AreDistinct (xs ++ x ∷ [])
distinct_push xs x differ new i j y at_i at_j =
    ⊎_elim
    (λ (a : get_elem? xs i ≡ some y).
    ⊎_elim (λ (b : get_elem? xs j ≡ some y). differ i j y a b)
    (λ (b : (j ≡ length xs) × (x ≡ y)). absurd (new i (a ∙ ap some (sym b.1)))) (at_push xs x y j at_j))
    (λ (a : (i ≡ length xs) × (x ≡ y)).
    ⊎_elim (λ (b : get_elem? xs j ≡ some y). absurd (new j (b ∙ ap some (sym a.1))))
    (λ (b : (j ≡ length xs) × (x ≡ y)). a.0 ∙ sym b.0) (at_push xs x y j at_j))
    (at_push xs x y i at_i)

pub distinct_behind : (xs : List ℕ) → AreDistinct xs → AreDistinct (drop 1 xs)
distinct_behind xs differ i j y at_i at_j = let e : suc i ≡ suc j = differ (suc i) (suc j) y (sym (at_behind xs i) ∙ at_i) (sym (at_behind xs j) ∙ at_j) in omega arith

-- distinct numbers below n are at most n
pub at_most : (n : ℕ) (xs : List ℕ) → AreDistinct xs → All (λ x. x < n) xs → length xs ≤ n
at_most n xs differ below =
    few_below n xs (λ i j d lt within e. let same : i ≡ j = differ i j (get_or xs j d) (at_or xs i d (omega arith) ∙ ap some e) (at_or xs j d within) in omega arith) below

-- ---- words
-- a word that counts one more
pub next_number : (x n : ℕ) → (x % n + 1) % n ≡ (x + 1) % n
next_number x n =
    let whole : x / n * n + (x % n + 1) ≡ x + 1 = let p = div-add-mod' x n in let q : ℕ = x / n * n in let r : ℕ = x % n in omega arith in
    sym (mul-add-mod_self_right (x / n) n (x % n + 1)) ∙ ap (λ (k : ℕ). k % n) whole
