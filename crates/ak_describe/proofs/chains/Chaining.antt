-- The chains of a plan: each of them ends, or one of them comes back.
use Rattle.std.proofs.Common.{◌≡◌, ◌≢◌, ◌⊎◌, ℕ, zero, suc, ◌+◌, ◌<◌, ◌≤◌, ◌==◌, Bool, true, false, cond, List, length, Option, None, Some, IfSome, is_none, option_and_then, slice_get, bytes_eq, refl, sym, ap, subst, ◌∙◌, ⊎_elim, inl, inr, arith}
use Rattle.std.proofs.lemmas.Bool.{cases_eq, cases_lt, and_parts, and_from}
use Rattle.std.proofs.lemmas.List.Quantifiers.{position-Some}
use Rattle.std.proofs.lemmas.Option.{slice_get_past, slice_get_within}
use Rattle.ak_action.specs.declared.plan.PlanRow.{PlanRow}
use Rattle.ak_action.specs.Plan.{place_or_looper, next_place, place_after, chains_end_below, chains_end}
use Rattle.ak_handler.proofs.Surface as walks
use Rattle.ak_handler.proofs.Surface.{IsWalk, after_add, met, met_all, met_long, met_once}
use Rattle.ak_base.proofs.Surface.{few_below, none_is}

is_none_of : {X : Type 0} (o : Option X) → o ≡ None → is_none o ≡ true
is_none_of o e = ap is_none e

module _ (rows : List PlanRow) where
  places_walk : IsWalk (next_place rows) (place_after rows)
  places_walk = record { start = λ at. refl; step = λ n at. refl }

  -- after some number of steps there is no next handler
  abbrev pub Ends : Option ℕ → Type 0
  Ends at = walks.Ends (place_after rows) at

  pub after_none : (n : ℕ) → place_after rows n None ≡ None
  after_none n = walks.after_none (next_place rows) (place_after rows) places_walk n

  pub ended : Ends None
  ended = walks.ended (next_place rows) (place_after rows) places_walk

  pub ends_before : (place : ℕ) → Ends (next_place rows place) → Ends (Some place)
  ends_before place e = walks.ends_before (next_place rows) (place_after rows) places_walk place e

  pub back_never_ends : (p place : ℕ) → place_after rows (suc p) (Some place) ≡ Some place → Ends (Some place) → ⊥
  back_never_ends p place back e = walks.back_never_ends (next_place rows) (place_after rows) places_walk p place back e

  -- ---- next places are there
  or_looper_within : (d : PlanRow) (name : Option (List ℕ)) (q : ℕ) → 1 ≤ length rows → place_or_looper rows name ≡ Some q → q < length rows
  or_looper_within d None q least e = let same : 0 ≡ q = cc in omega arith
  or_looper_within d (Some name) q least e = (position-Some (λ row. bytes_eq row.name name) rows q d e).0

  next_within_by : (b : Bool) (o : Option PlanRow) (place q : ℕ) → slice_get rows place ≡ o → cond b None (option_and_then (λ row. place_or_looper rows row.next) o) ≡ Some q → q < length rows
  next_within_by true o place q is e = cc
  next_within_by false None place q is e = cc
  next_within_by false (Some row) place q is e = or_looper_within row row.next q (omega (arith, slice_get_within rows place row is)) e

  next_within : (place q : ℕ) → next_place rows place ≡ Some q → q < length rows
  next_within place q e = next_within_by (place == 0) (slice_get rows place) place q refl e

  next_is_within : (place : ℕ) (at : Option ℕ) → next_place rows place ≡ at → IfSome at (λ p. p < length rows)
  next_is_within place None e = tt
  next_is_within place (Some q) e = next_within place q e

  -- it is enough that a chain ends at all
  ends_in_time : (place : ℕ) → place < length rows → Ends (Some place) → place_after rows (length rows) (Some place) ≡ None
  ends_in_time place lt e =
      let within = met_all (next_place rows) (λ p. p < length rows) (λ p. next_is_within p (next_place rows p) refl) e.steps (Some place) lt in
      let few = few_below (length rows) (met (next_place rows) e.steps (Some place)) (met_once (next_place rows) (place_after rows) places_walk e.steps (Some place) e.is) within in
      met_long (next_place rows) (place_after rows) places_walk e.steps (length rows) (Some place) e.is few

  -- ---- the test of all chains
  below_from : (m : ℕ) → m ≤ length rows → ((place : ℕ) → Ends (Some place)) → chains_end_below rows m ≡ true
  below_from zero le all = refl
  below_from (suc m) le all =
      and_from (chains_end_below rows m) _ (below_from m (omega arith) all) (is_none_of _ (ends_in_time m (omega arith) (all m)))

  pub true_if_all_end : ((place : ℕ) → Ends (Some place)) → chains_end rows ≡ true
  true_if_all_end all = below_from (length rows) (omega arith) all

  below_gives : (m place : ℕ) → chains_end_below rows m ≡ true → place < m → place_after rows (length rows) (Some place) ≡ None
  below_gives zero place e lt = absurd (omega arith)
  below_gives (suc m) place e lt =
      let parts = and_parts (chains_end_below rows m) (is_none (place_after rows (length rows) (Some m))) e in
      ⊎_elim
      (λ same. subst (λ k. place_after rows (length rows) (Some k) ≡ None) (sym same) (none_is _ parts.1))
      (λ other. below_gives m place parts.0 (omega (arith, other)))
      (cases_eq place m)

  no_next_by : (b : Bool) (o : Option PlanRow) → o ≡ None → cond b None (option_and_then (λ row. place_or_looper rows row.next) o) ≡ None
  no_next_by true o e = refl
  no_next_by false o e = ap (option_and_then (λ (row : PlanRow). place_or_looper rows row.next)) e

  no_next_past : (place : ℕ) → length rows ≤ place → next_place rows place ≡ None
  no_next_past place le = no_next_by (place == 0) (slice_get rows place) (slice_get_past rows place le)

  pub all_end_if_true : chains_end rows ≡ true → (place : ℕ) → Ends (Some place)
  all_end_if_true e place =
      ⊎_elim
      (λ lt. record { steps = length rows; is = below_gives (length rows) place e lt })
      (λ le. record { steps = suc zero; is = no_next_past place le })
      (cases_lt place (length rows))

-- ---- chains that ended, with one next handler given anew
module _ (old new : List PlanRow) where
  -- where all next places stay, so do the ends
  same_after : ((p : ℕ) → next_place old p ≡ next_place new p) → (n : ℕ) (at : Option ℕ) → place_after old n at ≡ None → place_after new n at ≡ None
  same_after same zero at e = e
  same_after same (suc n) None e = after_none new n
  same_after same (suc n) (Some place) e = same_after same n (next_place new place) (ap (place_after old n) (sym (same place)) ∙ e)

  pub ends_alike : ((p : ℕ) → next_place old p ≡ next_place new p) → (at : Option ℕ) → Ends old at → Ends new at
  ends_alike same at e = record { steps = e.steps; is = same_after same e.steps at e.is }

  module _ (row : ℕ) (same : (p : ℕ) → p ≢ row → next_place old p ≡ next_place new p) where
    abbrev Meets : Option ℕ → Type 0
    Meets at = (steps : ℕ) × (place_after new steps at ≡ Some row)

    further : (place : ℕ) → Meets (next_place new place) ⊎ Ends new (next_place new place) → Meets (Some place) ⊎ Ends new (Some place)
    further place (inl found) = inl (suc found.0, found.1)
    further place (inr e) = inr (ends_before new place e)

    either_way : (n : ℕ) (at : Option ℕ) → place_after old n at ≡ None → Meets at ⊎ Ends new at
    either_way zero at e = inr (record { steps = zero; is = e })
    either_way (suc n) None e = inr (ended new)
    either_way (suc n) (Some place) e =
        ⊎_elim
        (λ here. inl (zero, ap Some here))
        (λ other. further place (either_way n (next_place new place) (ap (place_after old n) (sym (same place other)) ∙ e)))
        (cases_eq place row)

    -- from the row on
    from_row_by : ((p : ℕ) → Ends old (Some p)) → (at : Option ℕ) → Meets at ⊎ Ends new at
    from_row_by ends None = inr (ended new)
    from_row_by ends (Some place) = let e = ends place in either_way e.steps (Some place) e.is

    once_met : Ends new (Some row) → (at : Option ℕ) → Meets at → Ends new at
    once_met e at found =
        record {
          steps = found.0 + e.steps;
          is = after_add (next_place new) (place_after new) (places_walk new) found.0 e.steps at ∙ ap (place_after new e.steps) found.1 ∙ e.is;
        }

    all_then : ((p : ℕ) → Ends old (Some p)) → Ends new (Some row) → (place : ℕ) → Ends new (Some place)
    all_then ends e place =
        let before = ends place in
        ⊎_elim (λ found. once_met e (Some place) found) (λ is. is) (either_way before.steps (Some place) before.is)

    back_or_end : ((p : ℕ) → Ends old (Some p)) → Meets (next_place new row) ⊎ Ends new (next_place new row)
        → ((steps : ℕ) × (place_after new (suc steps) (Some row) ≡ Some row)) ⊎ ((place : ℕ) → Ends new (Some place))
    back_or_end ends (inl found) = inl (found.0, found.1)
    back_or_end ends (inr e) = inr (all_then ends (ends_before new row e))

    pub comes_back_or_all_end : ((p : ℕ) → Ends old (Some p)) → ((steps : ℕ) × (place_after new (suc steps) (Some row) ≡ Some row)) ⊎ ((place : ℕ) → Ends new (Some place))
    comes_back_or_all_end ends = back_or_end ends (from_row_by ends (next_place new row))
