-- The filters of one handler after the other, one step at a time.
use Rattle.std.proofs.Common.{◌≡◌, ℕ, zero, suc, ◌+◌, ◌-◌, ◌<◌, ◌==◌, ◌||◌, Bool, true, false, cond, List, [], ◌∷◌, length, Option, None, Some, option_and_then, refl, sym, ap, ap₂, ◌∙◌, eq-eqb, arith}
use Rattle.ak_filter.specs.declared.filter.Filter.{Filter}
use Rattle.ak_handler.specs.Handlers.{HandlersData}
use Rattle.ak_property.specs.HandlerRow.{RowData}
use Rattle.ak_route.specs.Handlers.{row_of}
use Rattle.ak_route.specs.Filtering.{Passing, Origin, Settled, settled, passing_after, run_list, settle, settle_from, asked_already}

module _ (s : HandlersData RowData) (o : Origin) where
  -- ---- one handler after the other: of those asked no more counts than which they are
  asked_same : (t : ℕ) (asked other : List ℕ) → ((token : ℕ) → asked_already asked token ≡ asked_already other token) → (token : ℕ) → asked_already (t ∷ asked) token ≡ asked_already (t ∷ other) token
  asked_same t asked other same token = ap (λ b. (t == token) || b) (same token)

  then_same : (rest other : Passing → Option Settled) (q : Option Passing) → ((p : Passing) → passing_after (rest p) ≡ passing_after (other p)) → passing_after (option_and_then rest q) ≡ passing_after (option_and_then other q)
  then_same rest other None same = refl
  then_same rest other (Some q) same = same q

  step_same : (a b : Bool) (asked other : List ℕ) (p : Passing) (on other_on : Option Settled) → a ≡ b → passing_after on ≡ passing_after other_on → passing_after (cond a (Some (settled p asked)) on) ≡ passing_after (cond b (Some (settled p other)) other_on)
  step_same true true asked other p on other_on is same = refl
  step_same true false asked other p on other_on is same = absurd cc
  step_same false true asked other p on other_on is same = absurd cc
  step_same false false asked other p on other_on is same = same

  pub settle_same : (n : ℕ) (asked other : List ℕ) (p : Passing) → ((token : ℕ) → asked_already asked token ≡ asked_already other token) → passing_after (settle_from s o n asked p) ≡ passing_after (settle_from s o n other p)
  settle_same zero asked other p same = refl
  settle_same (suc n) asked other p same =
      step_same (asked_already asked p.target) (asked_already other p.target) asked other p
      (option_and_then (settle_from s o n (p.target ∷ asked)) (run_list s o (row_of s p.target).filters p))
      (option_and_then (settle_from s o n (p.target ∷ other)) (run_list s o (row_of s p.target).filters p))
      (same p.target)
      (then_same (settle_from s o n (p.target ∷ asked)) (settle_from s o n (p.target ∷ other)) (run_list s o (row_of s p.target).filters p)
      (λ q. settle_same n (p.target ∷ asked) (p.target ∷ other) q (asked_same p.target asked other same)))

  -- the filters of one more handler run
  one_more : (n : ℕ) (asked other : List ℕ) (p q : Passing) → asked_already asked p.target ≡ false → run_list s o (row_of s p.target).filters p ≡ Some q → ((token : ℕ) → asked_already (p.target ∷ asked) token ≡ asked_already other token) → passing_after (settle_from s o (suc n) asked p) ≡ passing_after (settle_from s o n other q)
  one_more n asked other p q new run same =
      ap₂ (λ b r. passing_after (cond b (Some (settled p asked)) (option_and_then (settle_from s o n (p.target ∷ asked)) r))) new run ∙ settle_same n (p.target ∷ asked) other q same

  pub settle_step : (all count : ℕ) (asked other : List ℕ) (p q : Passing) → count < all → asked_already asked p.target ≡ false → run_list s o (row_of s p.target).filters p ≡ Some q → ((token : ℕ) → asked_already (p.target ∷ asked) token ≡ asked_already other token) → passing_after (settle_from s o (all - count) asked p) ≡ passing_after (settle_from s o (all - (count + 1)) other q)
  settle_step all count asked other p q lt new run same =
      let e : all - count ≡ suc (all - (count + 1)) = omega arith in
      ap (λ n. passing_after (settle_from s o n asked p)) e ∙ one_more (all - (count + 1)) asked other p q new run same

  -- those of one more skip the message
  pub settle_skipped : (all count : ℕ) (asked : List ℕ) (p : Passing) → count < all → asked_already asked p.target ≡ false → run_list s o (row_of s p.target).filters p ≡ None → passing_after (settle_from s o (all - count) asked p) ≡ None
  settle_skipped all count asked p lt new run =
      let e : all - count ≡ suc (all - (count + 1)) = omega arith in
      ap (λ n. passing_after (settle_from s o n asked p)) e ∙ ap₂ (λ b r. passing_after (cond b (Some (settled p asked)) (option_and_then (settle_from s o (all - (count + 1)) (p.target ∷ asked)) r))) new run

  -- after the common ones none is asked yet
  pub settle_begun : (common : List Filter) (all : ℕ) (asked : List ℕ) (p q : Passing) → all ≡ length s.list → asked ≡ [] → run_list s o common p ≡ Some q → passing_after (settle_from s o (all - 0) asked q) ≡ passing_after (settle s o common p)
  settle_begun common all asked p q many none run =
      let e : all - 0 ≡ length s.list = omega arith in
      (λ i. passing_after (settle_from s o (e i) (none i) q)) ∙ sym (ap (λ r. passing_after (option_and_then (settle_from s o (length s.list) []) r)) run)

  -- where the filters of its target ran, the message stays there
  pub settle_asked : (n : ℕ) (asked : List ℕ) (p : Passing) → asked_already asked p.target ≡ true → passing_after (settle_from s o n asked p) ≡ Some p
  settle_asked zero asked p is = refl
  settle_asked (suc n) asked p is = rw is refl

  -- so does it where its target is not there
  pub settle_missing : (n : ℕ) (asked : List ℕ) (p : Passing) → (row_of s p.target).filters ≡ [] → passing_after (settle_from s o n asked p) ≡ Some p
  settle_missing zero asked p none = refl
  settle_missing (suc n) asked p none =
      missing_by (asked_already asked p.target)
    where
      missing_by : (b : Bool) → passing_after (cond b (Some (settled p asked)) (option_and_then (settle_from s o n (p.target ∷ asked)) (run_list s o (row_of s p.target).filters p))) ≡ Some p
      missing_by true = refl
      missing_by false =
          ap (λ fs. passing_after (option_and_then (settle_from s o n (p.target ∷ asked)) (run_list s o fs p))) none ∙ settle_asked n (p.target ∷ asked) p (rw (eq-eqb p.target p.target refl) refl)
