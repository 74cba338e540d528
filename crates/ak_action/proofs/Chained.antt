-- Steps along the chains of a plan, one at a time.
use Rattle.std.proofs.Common.{◌≡◌, ℕ, zero, suc, ◌+◌, ◌-◌, ◌<◌, false, ◌&&◌, List, length, Option, Some, is_none, option_and_then, ap, subst, ⊎_elim, arith}
use Rattle.std.proofs.lemmas.Bool.{and_left, and_right, cases_eq}
use Rattle.ak_action.specs.declared.plan.PlanRow.{PlanRow}
use Rattle.ak_action.specs.Plan.{chains_end_below, next_place, place_after}

module _ (rows : List PlanRow) where
  -- ---- one step less
  pub after_step : (n i : ℕ) (at : Option ℕ) → i < n → place_after rows (n - i) at ≡ place_after rows (n - (i + 1)) (option_and_then (next_place rows) at)
  after_step n i at lt =
      let e : n - i ≡ suc (n - (i + 1)) = omega arith in
      ap (λ k. place_after rows k at) e

  pub after_all : (n : ℕ) (at : Option ℕ) → place_after rows (n - n) at ≡ at
  after_all n at =
      let e : n - n ≡ zero = omega arith in
      ap (λ k. place_after rows k at) e

  pub after_first : (n : ℕ) (at : Option ℕ) → place_after rows (n - 0) at ≡ place_after rows n at
  after_first n at =
      let e : n - 0 ≡ n = omega arith in
      ap (λ k. place_after rows k at) e

  -- ---- one handler more
  pub ends_below-more : (n : ℕ) → chains_end_below rows (n + 1) ≡ (chains_end_below rows n && is_none (place_after rows (length rows) (Some n)))
  ends_below-more n =
      let e : n + 1 ≡ suc n = omega arith in
      ap (chains_end_below rows) e

  pub one_does_not : (n m : ℕ) → is_none (place_after rows (length rows) (Some n)) ≡ false → n < m → chains_end_below rows m ≡ false
  one_does_not n zero e lt = absurd (omega arith)
  one_does_not n (suc m) e lt =
      ⊎_elim
      (λ same. and_right (chains_end_below rows m) _ (subst (λ k. is_none (place_after rows (length rows) (Some k)) ≡ false) same e))
      (λ other. and_left _ (is_none (place_after rows (length rows) (Some m))) (one_does_not n m e (omega arith)))
      (cases_eq n m)

pub ruleset stepping = (after_step, after_all, after_first)

pub ruleset ending = (ends_below-more, one_does_not)
