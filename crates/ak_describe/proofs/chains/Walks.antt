-- Walks along numbers, each of which leads to another: those that come to 0 do so within as many steps as there are numbers.
use Rattle.std.proofs.Common.{◌≡◌, ◌≢◌, ◌∙◌, ℕ, zero, suc, ◌+◌, ◌*◌, ◌-◌, ◌<◌, ◌≤◌, ◌⊎◌, cond, eqb, refl, sym, ap, subst, inl, inr, ⊎_elim, arith}
use Rattle.std.proofs.lemmas.Bool.{cases_eq}
use Rattle.std.proofs.lemmas.Bool.Decides.{nat_tests}

abbrev pub walk : (ℕ → ℕ) → ℕ → ℕ → ℕ
walk f zero i = i
walk f (suc k) i = walk f k (f i)

-- after some number of steps it comes to 0
pub record Ends (f : ℕ → ℕ) (i : ℕ) : Type 0 where
  pub steps : ℕ
  pub is : walk f steps i ≡ 0

-- ---- steps put together
module _ (f : ℕ → ℕ) where
  pub walk_add : (a b i : ℕ) → walk f (a + b) i ≡ walk f b (walk f a i)
  walk_add zero b i = let e : zero + b ≡ b = omega arith in ap (λ k. walk f k i) e
  walk_add (suc a) b i = let e : suc a + b ≡ suc (a + b) = omega arith in ap (λ k. walk f k i) e ∙ walk_add a b (f i)

  pub walk_zero : f 0 ≡ 0 → (k : ℕ) → walk f k 0 ≡ 0
  walk_zero z zero = refl
  walk_zero z (suc k) = ap (walk f k) z ∙ walk_zero z k

  pub walk_more : f 0 ≡ 0 → (k m i : ℕ) → walk f k i ≡ 0 → k ≤ m → walk f m i ≡ 0
  walk_more z zero m i e le = ap (walk f m) e ∙ walk_zero z m
  walk_more z (suc k) zero i e le = absurd (omega arith)
  walk_more z (suc k) (suc m) i e le = walk_more z k m (f i) e (omega arith)

  -- ---- a walk that comes back does not end
  back_times : (k i : ℕ) → walk f (suc k) i ≡ i → (t : ℕ) → walk f (t * suc k) i ≡ i
  back_times k i back zero = let e : zero * suc k ≡ zero = omega arith in ap (λ n. walk f n i) e
  back_times k i back (suc t) =
      let e : suc t * suc k ≡ suc k + t * suc k = omega arith in
      ap (λ n. walk f n i) e ∙ walk_add (suc k) (t * suc k) i ∙ ap (walk f (t * suc k)) back ∙ back_times k i back t

  pub never_ends : f 0 ≡ 0 → (k i : ℕ) → i ≢ 0 → walk f (suc k) i ≡ i → (m : ℕ) → walk f m i ≢ 0
  never_ends z k i some back m e =
      let le : m ≤ m * suc k = omega arith in
      some (sym (back_times k i back m) ∙ walk_more z m (m * suc k) i e le)

  -- where it meets a number twice and ends, that number is 0
  met_twice_by : f 0 ≡ 0 → (a d i e : ℕ) → walk f a i ≡ walk f (a + suc d) i → walk f e i ≡ 0 → walk f a i ≡ 0
  met_twice_by z a d i e same is =
      let back : walk f (suc d) (walk f a i) ≡ walk f a i = sym (walk_add a (suc d) i) ∙ sym same in
      let ends : walk f e (walk f a i) ≡ 0 = sym (walk_add a e i) ∙ walk_more z e (a + e) i is (omega arith) in
      ⊎_elim (λ (h : walk f a i ≡ 0). h) (λ (h : walk f a i ≢ 0). absurd (never_ends z d (walk f a i) h back e ends)) (cases_eq (walk f a i) 0)

  met_twice : f 0 ≡ 0 → (a b i e : ℕ) → a < b → walk f a i ≡ walk f b i → walk f e i ≡ 0 → walk f a i ≡ 0
  met_twice z a b i e lt same is =
      let at : b ≡ a + suc (b - a - 1) = omega arith in
      met_twice_by z a (b - a - 1) i e (same ∙ ap (λ n. walk f n i) at) is

-- ---- of numbers below a bound, one more than the bound says, two are the same
found : (f : ℕ → ℕ) (v m : ℕ) → ((i : ℕ) × (i < m) × (f i ≡ v)) ⊎ ((i : ℕ) → i < m → f i ≢ v)
found f v zero = inr (λ i lt. absurd (omega arith))
found f v (suc m) =
    ⊎_elim
    (λ (t : (i : ℕ) × (i < m) × (f i ≡ v)). inl (t.0, omega (arith, t.1), t.2))
    (λ (none : (i : ℕ) → i < m → f i ≢ v).
    ⊎_elim
    (λ (same : f m ≡ v). inl (m, omega arith, same))
    (λ (other : f m ≢ v). inr (λ i lt. ⊎_elim (λ (e : i ≡ m). subst (λ k. f k ≢ v) (sym e) other) (λ (ne : i ≢ m). none i (omega arith)) (cases_eq i m)))
    (cases_eq (f m) v))
    (found f v m)

abbrev moved : (ℕ → ℕ) → ℕ → ℕ → ℕ
moved f m k = cond (eqb (f k) m) (f (suc m)) (f k)

moved_below : (x v m : ℕ) → x < suc m → v < suc m → x ≢ v → cond (eqb x m) v x < m
moved_below x v m a b ne = grind (arith, nat_tests)

moved_same : (x y v m : ℕ) → x ≢ v → y ≢ v → cond (eqb x m) v x ≡ cond (eqb y m) v y → x ≡ y
moved_same x y v m a b e = grind (arith, nat_tests)

abbrev Twice : (ℕ → ℕ) → ℕ → Type 0
Twice f n = (i : ℕ) × (j : ℕ) × (i < j) × (j ≤ n) × (f i ≡ f j)

pub twice : (n : ℕ) (f : ℕ → ℕ) → ((k : ℕ) → k ≤ n → f k < n) → Twice f n
twice zero f below = let h : f 0 < 0 = below 0 (omega arith) in absurd (omega arith)
twice (suc m) f below =
    ⊎_elim
    (λ (t : (i : ℕ) × (i < suc m) × (f i ≡ f (suc m))). let le : suc m ≤ suc m = omega arith in (t.0, suc m, t.1, le, t.2))
    (λ (none : (i : ℕ) → i < suc m → f i ≢ f (suc m)).
    let t : Twice (moved f m) m = twice m (moved f m) (λ k le. moved_below (f k) (f (suc m)) m (below k (omega arith)) (below (suc m) (omega arith)) (none k (omega arith))) in
    let same : f t.0 ≡ f t.1 = moved_same (f t.0) (f t.1) (f (suc m)) m (none t.0 (omega (arith, t.2, t.3))) (none t.1 (omega (arith, t.3))) t.4 in
    (t.0, t.1, t.2, omega (arith, t.3), same))
    (found f (f (suc m)) (suc m))

-- ---- walks below a bound end within it
walk_below : (f : ℕ → ℕ) (n : ℕ) → ((i : ℕ) → i < n → f i < n) → (k i : ℕ) → i < n → walk f k i < n
walk_below f n below zero i lt = lt
walk_below f n below (suc k) i lt = walk_below f n below k (f i) (below i lt)

pub ends_within : (f : ℕ → ℕ) (n : ℕ) → f 0 ≡ 0 → ((i : ℕ) → i < suc n → f i < suc n) → (i : ℕ) → i < suc n → Ends f i → walk f n i ≡ 0
ends_within f n z below i lt ends =
    let t : Twice (λ k. walk f k i) (suc n) = twice (suc n) (λ k. walk f k i) (λ k le. walk_below f (suc n) below k i lt) in
    walk_more f z t.0 n i (met_twice f z t.0 t.1 i ends.steps t.2 t.4 ends.is) (omega (arith, t.2, t.3))

-- ---- one number leads elsewhere, where the walk from it does not come back
module _ (f g : ℕ → ℕ) (row : ℕ) (same : (i : ℕ) → i ≢ row → f i ≡ g i) where
  before_row : (k x : ℕ) → ((j : ℕ) → j < k → walk f j x ≢ row) → walk f k x ≡ walk g k x
  before_row zero x apart = refl
  before_row (suc k) x apart =
      before_row k (f x) (λ j lt. apart (suc j) (omega arith)) ∙ ap (walk g k) (same x (apart 0 (omega arith)))

  pub ends_from_row : (m : ℕ) → ((i : ℕ) → i ≡ f row → walk g m i ≡ 0) → ((j : ℕ) → j < m → walk f (suc j) row ≢ row) → Ends f row
  ends_from_row m ends apart = record { steps = suc m; is = before_row m (f row) apart ∙ ends (f row) refl }

  one_step : (x : ℕ) → x ≢ row → Ends f (g x) → Ends f x
  one_step x ne e = record { steps = suc e.steps; is = ap (walk f e.steps) (same x ne) ∙ e.is }

  pub ends_from : Ends f row → (k i : ℕ) → walk g k i ≡ 0 → Ends f i
  ends_from e zero i is = record { steps = 0; is = is }
  ends_from e (suc k) i is =
      ⊎_elim (λ (at : i ≡ row). subst (Ends f) (sym at) e) (λ (ne : i ≢ row). one_step i ne (ends_from e k (g i) is)) (cases_eq i row)
