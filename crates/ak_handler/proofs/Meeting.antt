-- Whether a chain meets a handler, one step at a time.
use Rattle.std.proofs.Common.{◌≡◌, ℕ, zero, suc, ◌+◌, ◌-◌, ◌<◌, ◌≤◌, Bool, false, ◌||◌, List, Option, None, Some, refl, ap, arith}
use Rattle.std.specs.List.{list_any}
use Rattle.ak_handler.specs.Handlers.{HandlerData, chain_of, next_in}

module _ {R : Type 0} (list : List (HandlerData R)) (test : ℕ → Bool) where
  -- with so many steps taken
  abbrev pub meets_from : ℕ → ℕ → Option ℕ → Bool
  meets_from all taken at = list_any test (chain_of list (all - taken) at)

  none_met : (n : ℕ) → list_any test (chain_of list n None) ≡ false
  none_met zero = refl
  none_met (suc n) = refl

  pub meets_none : (all taken : ℕ) → meets_from all taken None ≡ false
  meets_none all taken = none_met (all - taken)

  pub meets_end : (all taken : ℕ) (at : Option ℕ) → all ≤ taken → meets_from all taken at ≡ false
  meets_end all taken at le = let e : all - taken ≡ 0 = omega arith in ap (λ n. list_any test (chain_of list n at)) e

  pub meets_some : (all taken token : ℕ) → taken < all → meets_from all taken (Some token) ≡ (test token || meets_from all (taken + 1) (next_in list token))
  meets_some all taken token lt =
      let e : all - taken ≡ suc (all - (taken + 1)) = omega arith in
      ap (λ n. list_any test (chain_of list n (Some token))) e

pub ruleset meeting = (meets_none, meets_end, meets_some)
