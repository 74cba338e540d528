-- Sums over the numbers below one.
use Rattle.std.proofs.Common.{◌≡◌, ◌≢◌, ◌⊎◌, ℕ, zero, suc, ◌+◌, ◌<◌, ◌≤◌, refl, sym, ap, inl, inr, ⊎_elim, arith}
use Rattle.std.proofs.lemmas.Bool.{cases_lt}

-- ---- sums
abbrev pub total : (ℕ → ℕ) → ℕ → ℕ
total f zero = 0
total f (suc n) = total f n + f n

-- both functions are the same below the number
pub total_same : (f g : ℕ → ℕ) (n : ℕ) → ((k : ℕ) → k < n → f k ≡ g k) → total f n ≡ total g n
total_same f g zero same = refl
total_same f g (suc n) same = omega (arith, total_same f g n (λ k lt. same k (omega (arith, lt))), same n (omega arith))

pub total_most : (f g : ℕ → ℕ) (n : ℕ) → ((k : ℕ) → k < n → f k ≤ g k) → total f n ≤ total g n
total_most f g zero most = omega arith
total_most f g (suc n) most = omega (arith, total_most f g n (λ k lt. most k (omega (arith, lt))), most n (omega arith))

-- and less in all where one of them is less
pub total_less : (f g : ℕ → ℕ) (n j : ℕ) → ((k : ℕ) → k < n → f k ≤ g k) → j < n → suc (f j) ≤ g j → suc (total f n) ≤ total g n
total_less f g zero j most lt less = absurd (omega (arith, lt))
total_less f g (suc n) j most lt less =
    ⊎_elim (λ (there : j < n). omega (arith, total_less f g n j (λ k within. most k (omega (arith, within))) there less, most n (omega arith)))
    (λ (here : n ≤ j).
    let same : j ≡ n = omega (arith, lt, here) in
    let few : f j ≡ f n = ap f same in
    let more : g j ≡ g n = ap g same in
    omega (arith, few, more, less, total_most f g n (λ k within. most k (omega (arith, within))))) (cases_lt j n)

pub total_sum : (f g : ℕ → ℕ) (n : ℕ) → total (λ k. f k + g k) n ≡ total f n + total g n
total_sum f g zero = omega arith
total_sum f g (suc n) = omega (arith, total_sum f g n)

pub total_none : (f : ℕ → ℕ) (n : ℕ) → ((k : ℕ) → k < n → f k ≡ 0) → total f n ≡ 0
total_none f zero none = refl
total_none f (suc n) none = omega (arith, total_none f n (λ k lt. none k (omega (arith, lt))), none n (omega arith))

-- each is at most the sum, and two of them together
pub total_one : (f : ℕ → ℕ) (n k : ℕ) → k < n → f k ≤ total f n
total_one f zero k lt = absurd (omega (arith, lt))
total_one f (suc n) k lt =
    ⊎_elim (λ (less : k < n). omega (arith, total_one f n k less))
    (λ (more : n ≤ k). let same : k ≡ n = omega (arith, lt, more) in let here : f k ≡ f n = ap f same in omega (arith, here)) (cases_lt k n)

pub total_two : (f : ℕ → ℕ) (n j k : ℕ) → j < n → k < n → j ≡ k ⊎ (f j + f k ≤ total f n)
total_two f zero j k lt lt' = absurd (omega (arith, lt))
total_two f (suc n) j k lt lt' =
    ⊎_elim
    (λ (less : j < n).
    ⊎_elim
    (λ (less' : k < n).
    ⊎_elim (λ (same : j ≡ k). inl same) (λ (both : f j + f k ≤ total f n). inr (omega (arith, both))) (total_two f n j k less less'))
    (λ (more' : n ≤ k).
    let same : k ≡ n = omega (arith, lt', more') in let here : f k ≡ f n = ap f same in
    inr (omega (arith, here, total_one f n j less)))
    (cases_lt k n))
    (λ (more : n ≤ j).
    let same : j ≡ n = omega (arith, lt, more) in let here : f j ≡ f n = ap f same in
    ⊎_elim (λ (less' : k < n). inr (omega (arith, here, total_one f n k less'))) (λ (more' : n ≤ k). inl (omega (arith, lt, more, lt', more'))) (cases_lt k n))
    (cases_lt j n)

-- where the sum is not 0, some number's is not
pub total_some : (f : ℕ → ℕ) (n : ℕ) → 1 ≤ total f n → (k : ℕ) × (k < n) × (1 ≤ f k)
total_some f zero some = absurd (omega (arith, some))
total_some f (suc n) some =
    ⊎_elim
    (λ (there : 0 < total f n). let found = total_some f n (omega (arith, there)) in (found.0, omega (arith, found.1), found.2))
    (λ (none : total f n ≤ 0). (n, omega arith, omega (arith, some, none))) (cases_lt 0 (total f n))

-- sums of sums, in either order
pub total_swap : (f : ℕ → ℕ → ℕ) (m n : ℕ) → total (λ j. total (f j) n) m ≡ total (λ k. total (λ j. f j k) m) n
total_swap f zero n = sym (total_none (λ k. 0) n (λ k lt. refl))
total_swap f (suc m) n = omega (arith, total_swap f m n, total_sum (λ k. total (λ j. f j k) m) (f m) n)

-- where all others are 0, the sum is that one
pub total_only : (f : ℕ → ℕ) (n j : ℕ) → j < n → ((k : ℕ) → k < n → k ≢ j → f k ≡ 0) → total f n ≡ f j
total_only f zero j lt others = absurd (omega (arith, lt))
total_only f (suc n) j lt others =
    ⊎_elim
    (λ (less : j < n).
    let last : f n ≡ 0 = others n (omega arith) (λ e. absurd (omega (arith, e, less))) in
    omega (arith, last, total_only f n j less (λ k within other. others k (omega (arith, within)) other)))
    (λ (more : n ≤ j).
    let same : j ≡ n = omega (arith, lt, more) in let here : f j ≡ f n = ap f same in
    omega (arith, here, total_none f n (λ k within. others k (omega (arith, within)) (λ e. absurd (omega (arith, e, within, more))))))
    (cases_lt j n)
