-- Chains of handlers as walks along their places: a handler without a next one leads to the looper, whose place is 0.
use Rattle.std.proofs.Common.{◌≡◌, ◌≢◌, ◌∙◌, ℕ, zero, suc, ◌-◌, ◌<◌, true, false, eqb, List, length, Some, is_none, refl, sym, ap, arith, eq-eqb, ne_eqb}
use Rattle.std.proofs.lemmas.Bool.{and_from}
use Rattle.ak_action.specs.declared.plan.PlanRow.{PlanRow}
use Rattle.ak_action.specs.Plan.{chains_end, chains_end_below, next_place, place_after}
use Rattle.ak_action.proofs.Surface.{one_does_not}
use Rattle.ak_describe.proofs.chains.Chaining.{after_none}
use Rattle.ak_describe.proofs.chains.Walks.{walk, Ends, ends_within, walk_zero}

-- each place leads to that of the next handler
pub record LeadsAs (rows : List PlanRow) (f : ℕ → ℕ) : Type 0 where
  pub looper : f 0 ≡ 0
  pub within : (i : ℕ) → i < length rows → f i < length rows
  pub next : (i : ℕ) → i < length rows → i ≢ 0 → next_place rows i ≡ Some (f i)

module _ (rows : List PlanRow) (f : ℕ → ℕ) (leads : LeadsAs rows f) where
  after_walk : (n i : ℕ) → i < length rows → is_none (place_after rows (suc n) (Some i)) ≡ eqb (walk f n i) 0
  after_walk n zero lt = ap is_none (after_none rows n) ∙ sym (eq-eqb (walk f n 0) 0 (walk_zero f leads.looper n))
  after_walk zero (suc i) lt =
      ap is_none (leads.next (suc i) lt (λ e. absurd (omega arith))) ∙ sym (ne_eqb (suc i) 0 (λ e. absurd (omega arith)))
  after_walk (suc n) (suc i) lt =
      ap (λ o. is_none (place_after rows (suc n) o)) (leads.next (suc i) lt (λ e. absurd (omega arith)))
      ∙ after_walk n (f (suc i)) (leads.within (suc i) lt)

  after_all : (n i : ℕ) → length rows ≡ suc n → i < length rows → is_none (place_after rows (length rows) (Some i)) ≡ eqb (walk f n i) 0
  after_all n i e lt = ap (λ k. is_none (place_after rows k (Some i))) e ∙ after_walk n i lt

  all_end : (m : ℕ) → ((k : ℕ) → k < m → is_none (place_after rows (length rows) (Some k)) ≡ true) → chains_end_below rows m ≡ true
  all_end zero each = refl
  all_end (suc m) each = and_from _ _ (all_end m (λ k lt. each k (omega arith))) (each m (omega arith))

  ends_by : (n : ℕ) → length rows ≡ suc n → ((i : ℕ) → Ends f i) → chains_end rows ≡ true
  ends_by n e ends =
      all_end (length rows) (λ k lt.
      after_all n k e lt ∙ eq-eqb (walk f n k) 0
      (ends_within f n leads.looper (λ i within. let b : f i < length rows = leads.within i (omega arith) in omega arith) k (omega arith) (ends k)))

  pub all_chains_end : 0 < length rows → ((i : ℕ) → Ends f i) → chains_end rows ≡ true
  all_chains_end some ends = ends_by (length rows - 1) (omega arith) ends

  pub one_goes_on : (row : ℕ) → row < length rows → ((m : ℕ) → walk f m row ≢ 0) → chains_end rows ≡ false
  one_goes_on row lt on =
      one_does_not rows row (length rows) (after_all (length rows - 1) row (omega arith) lt ∙ ne_eqb (walk f (length rows - 1) row) 0 (on (length rows - 1))) lt
