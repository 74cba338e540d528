-- Walks from places to next ones. Those that come back do not end; one that ends meets no place twice, and so has ended after as many steps as it met places.
use Rattle.std.proofs.Common.{◌≡◌, ◌≢◌, ℕ, zero, suc, ◌+◌, ◌-◌, ◌<◌, ◌≤◌, List, [], ◌∷◌, length, get_or, All, AllPairs, Option, None, Some, IfSome, option_and_then, sym, ap, ◌∙◌, ⊎_elim, arith}
use Rattle.std.proofs.lemmas.Bool.{cases_lt}
use Rattle.std.proofs.lemmas.List.Elements.{All-nil, All-cons}
use Rattle.std.proofs.lemmas.List.Kept.{AllPairs-cons}

-- where one comes after so many steps, if each leads to the next place
pub record IsWalk (next : ℕ → Option ℕ) (after : ℕ → Option ℕ → Option ℕ) : Type 0 where
  pub start : (at : Option ℕ) → after zero at ≡ at
  pub step : (n : ℕ) (at : Option ℕ) → after (suc n) at ≡ after n (option_and_then next at)

-- after some number of steps there is no next place
pub record Ends (after : ℕ → Option ℕ → Option ℕ) (at : Option ℕ) : Type 0 where
  pub steps : ℕ
  pub is : after steps at ≡ None

-- the first so many places that a walk meets
abbrev pub met : (ℕ → Option ℕ) → ℕ → Option ℕ → List ℕ
met next zero at = []
met next (suc n) None = []
met next (suc n) (Some place) = place ∷ met next n (next place)

module _ (next : ℕ → Option ℕ) (after : ℕ → Option ℕ → Option ℕ) (walk : IsWalk next after) where
  -- ---- more steps
  pub after_none : (n : ℕ) → after n None ≡ None
  after_none zero = walk.start None
  after_none (suc n) = walk.step n None ∙ after_none n

  pub after_more : (n m : ℕ) (at : Option ℕ) → after n at ≡ None → n ≤ m → after m at ≡ None
  after_more zero m at e le = ap (after m) (sym (walk.start at) ∙ e) ∙ after_none m
  after_more (suc n) zero at e le = absurd (omega arith)
  after_more (suc n) (suc m) at e le = walk.step m at ∙ after_more n m (option_and_then next at) (sym (walk.step n at) ∙ e) (omega arith)

  pub after_add : (n m : ℕ) (at : Option ℕ) → after (n + m) at ≡ after m (after n at)
  after_add zero m at = let e : zero + m ≡ m = omega arith in ap (λ k. after k at) e ∙ ap (after m) (sym (walk.start at))
  after_add (suc n) m at =
      let e : suc n + m ≡ suc (n + m) = omega arith in
      ap (λ k. after k at) e ∙ walk.step (n + m) at ∙ after_add n m (option_and_then next at) ∙ ap (after m) (sym (walk.step n at))

  pub ended : Ends after None
  ended = record { steps = zero; is = walk.start None }

  pub ends_before : (place : ℕ) → Ends after (next place) → Ends after (Some place)
  ends_before place e = record { steps = suc e.steps; is = walk.step e.steps (Some place) ∙ e.is }

  -- ---- a walk that comes back does not end
  once_less : (n p place : ℕ) → after (suc p) (Some place) ≡ Some place → after n (Some place) ≡ None → suc p ≤ n → after (n - suc p) (Some place) ≡ None
  once_less n p place back e le =
      let whole : suc p + (n - suc p) ≡ n = omega arith in
      sym (ap (after (n - suc p)) back) ∙ sym (after_add (suc p) (n - suc p) (Some place)) ∙ ap (λ k. after k (Some place)) whole ∙ e

  too_short : (n p place : ℕ) → after (suc p) (Some place) ≡ Some place → after n (Some place) ≡ None → n ≤ suc p → ⊥
  too_short n p place back e le =
      let over = after_more n (suc p) (Some place) e le in
      absurd (cc (over, back))

  comes_back : (n fuel p place : ℕ) → n ≤ fuel → after (suc p) (Some place) ≡ Some place → after n (Some place) ≢ None
  comes_back n zero p place le back e = too_short n p place back e (omega arith)
  comes_back n (suc fuel) p place le back e =
      ⊎_elim
      (λ short. too_short n p place back e (omega arith))
      (λ long. comes_back (n - suc p) fuel p place (omega arith) back (once_less n p place back e long))
      (cases_lt n (suc p))

  pub back_never_ends : (p place : ℕ) → after (suc p) (Some place) ≡ Some place → Ends after (Some place) → ⊥
  back_never_ends p place back e = comes_back e.steps e.steps p place (omega arith) back e.is

  -- ---- the places that a walk meets
  met_at : (n k : ℕ) (at : Option ℕ) (d : ℕ) → k < length (met next n at) → after k at ≡ Some (get_or (met next n at) k d)
  met_at zero k at d lt = absurd (omega arith)
  met_at (suc n) k None d lt = absurd (omega arith)
  met_at (suc n) zero (Some place) d lt = walk.start (Some place)
  met_at (suc n) (suc k) (Some place) d lt = walk.step k (Some place) ∙ met_at n k (next place) d (omega arith)

  differs : (n k place d : ℕ) → after (suc n) (Some place) ≡ None → k < length (met next n (next place)) → place ≢ get_or (met next n (next place)) k d
  differs n k place d e lt same =
      comes_back (suc n) (suc n) k place (omega arith) (walk.step k (Some place) ∙ met_at n k (next place) d lt ∙ ap Some (sym same)) e

  pub met_once : (n : ℕ) (at : Option ℕ) → after n at ≡ None → AllPairs (λ a b. a ≢ b) (met next n at)
  met_once zero at e = λ i j d lt within. absurd (omega arith)
  met_once (suc n) None e = λ i j d lt within. absurd (omega arith)
  met_once (suc n) (Some place) e =
      AllPairs-cons (λ a b. a ≢ b) place (met next n (next place)) (λ k d lt. differs n k place d e lt) (met_once n (next place) (sym (walk.step n (Some place)) ∙ e))

  -- a walk that ended has ended after as many steps as it met places
  pub met_long : (n m : ℕ) (at : Option ℕ) → after n at ≡ None → length (met next n at) ≤ m → after m at ≡ None
  met_long zero m at e le = ap (after m) (sym (walk.start at) ∙ e) ∙ after_none m
  met_long (suc n) m None e le = after_none m
  met_long (suc n) zero (Some place) e le = absurd (omega arith)
  met_long (suc n) (suc m) (Some place) e le = walk.step m (Some place) ∙ met_long n m (next place) (sym (walk.step n (Some place)) ∙ e) (omega arith)

-- what holds of a place and of each next one holds of all that a walk meets
pub met_all : (next : ℕ → Option ℕ) (P : ℕ → Type 0) → ((place : ℕ) → IfSome (next place) P) → (n : ℕ) (at : Option ℕ) → IfSome at P → All P (met next n at)
met_all next P each zero at h = All-nil P
met_all next P each (suc n) None h = All-nil P
met_all next P each (suc n) (Some place) h = All-cons P place (met next n (next place)) h (met_all next P each n (next place) (each place))
