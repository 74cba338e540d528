-- Whose filters run: no handler's twice, and those of each handler that a message is passed to.
use Rattle.std.proofs.Common.{◌≡◌, ◌≢◌, ℕ, zero, suc, ◌+◌, ◌≤◌, ◌==◌, ◌||◌, Bool, true, false, cond, List, [], ◌∷◌, ◌++◌, length, reverse, get_or, All, AllPairs, Contains, Option, None, Some, IfSome, option_and_then, refl, sym, ap, ◌∙◌, eqb-true, append_assoc, arith}
use mathlib.Core.List.{reverse-cons}
use Rattle.std.proofs.lemmas.Bool.{cond_both, eqb-false, or_parts}
use Rattle.std.proofs.lemmas.List.{length-map}
use Rattle.std.proofs.lemmas.List.Elements.{All-nil, All-cons, All-weaker, All-contains}
use Rattle.std.proofs.lemmas.List.Kept.{AllPairs-cons}
use Rattle.ak_handler.specs.Handlers.{HandlersData, tokens_of}
use Rattle.ak_base.proofs.Surface.{pigeons}
use Rattle.ak_property.specs.HandlerRow.{RowData}
use Rattle.ak_route.specs.Handlers.{row_of}
use Rattle.ak_route.specs.Filtering.{Passing, Origin, Settled, settled, passing_after, run_list, settle_from, asked_already}
use Rattle.ak_route.specs.Laws.{FiltersRunAtMostOnce, AllFiltersRun, StepsAreEnough, run_lists, after_run, passed_to}
use Rattle.ak_route.proofs.Targets.{IsKept, list_kept, then_kept}

AllPairs-nil : {A : Type 0} (P : A → A → Type 0) → AllPairs P []
AllPairs-nil P = λ i j d lt within. absurd (omega arith)

-- ---- none twice
after_both : (P : List ℕ → Type 0) (q : Option Passing) (on : Passing → List ℕ) → P [] → ((p : Passing) → P (on p)) → P (after_run q on)
after_both P None on none some = none
after_both P (Some p) on none some = some p

module _ (s : HandlersData RowData) (o : Origin) where
  asked_new : (n : ℕ) (asked : List ℕ) (p : Passing) → All (λ t. asked_already asked t ≡ false) (passed_to s o n asked p)
  asked_new zero asked p = All-nil (λ t. asked_already asked t ≡ false)
  asked_new (suc n) asked p =
      cond_both (asked_already asked p.target) [] (p.target ∷ after_run (run_list s o (row_of s p.target).filters p) (passed_to s o n (p.target ∷ asked))) (All (λ t. asked_already asked t ≡ false))
      (λ _. All-nil (λ t. asked_already asked t ≡ false))
      (λ new. All-cons (λ t. asked_already asked t ≡ false) p.target (after_run (run_list s o (row_of s p.target).filters p) (passed_to s o n (p.target ∷ asked))) new
      (after_both (All (λ t. asked_already asked t ≡ false)) (run_list s o (row_of s p.target).filters p) (passed_to s o n (p.target ∷ asked))
      (All-nil (λ t. asked_already asked t ≡ false))
      (λ q k d lt. (or_parts (p.target == get_or (passed_to s o n (p.target ∷ asked) q) k d) (asked_already asked (get_or (passed_to s o n (p.target ∷ asked) q) k d)) (asked_new n (p.target ∷ asked) q k d lt)).1)))

  asked_once : (n : ℕ) (asked : List ℕ) (p : Passing) → AllPairs (λ a b. a ≢ b) (passed_to s o n asked p)
  asked_once zero asked p = AllPairs-nil (λ a b. a ≢ b)
  asked_once (suc n) asked p =
      cond_both (asked_already asked p.target) [] (p.target ∷ after_run (run_list s o (row_of s p.target).filters p) (passed_to s o n (p.target ∷ asked))) (AllPairs (λ a b. a ≢ b))
      (λ _. AllPairs-nil (λ a b. a ≢ b))
      (λ _. AllPairs-cons (λ a b. a ≢ b) p.target (after_run (run_list s o (row_of s p.target).filters p) (passed_to s o n (p.target ∷ asked)))
      (after_both (All (λ t. p.target ≢ t)) (run_list s o (row_of s p.target).filters p) (passed_to s o n (p.target ∷ asked))
      (All-nil (λ t. p.target ≢ t))
      (λ q k d lt. eqb-false p.target (get_or (passed_to s o n (p.target ∷ asked) q) k d) (or_parts (p.target == get_or (passed_to s o n (p.target ∷ asked) q) k d) (asked_already asked (get_or (passed_to s o n (p.target ∷ asked) q) k d)) (asked_new n (p.target ∷ asked) q k d lt)).0))
      (after_both (AllPairs (λ a b. a ≢ b)) (run_list s o (row_of s p.target).filters p) (passed_to s o n (p.target ∷ asked))
      (AllPairs-nil (λ a b. a ≢ b))
      (λ q. asked_once n (p.target ∷ asked) q)))

-- ---- the filters of those that it is passed to run, and nothing else
module _ (s : HandlersData RowData) (o : Origin) where
  runs_by : (b : Bool) (asked : List ℕ) (p : Passing) (q : Option Passing) (on : Passing → Option Settled) (rest : Passing → List ℕ) → ((r : Passing) → passing_after (on r) ≡ run_lists s o (rest r) r) → run_list s o (row_of s p.target).filters p ≡ q → passing_after (cond b (Some (settled p asked)) (option_and_then on q)) ≡ run_lists s o (cond b [] (p.target ∷ after_run q rest)) p
  runs_by true asked p q on rest same is = refl
  runs_by false asked p None on rest same is = rw is refl
  runs_by false asked p (Some q) on rest same is = rw is (same q)

  lists_run : (n : ℕ) (asked : List ℕ) (p : Passing) → passing_after (settle_from s o n asked p) ≡ run_lists s o (passed_to s o n asked p) p
  lists_run zero asked p = refl
  lists_run (suc n) asked p =
      runs_by (asked_already asked p.target) asked p (run_list s o (row_of s p.target).filters p) (settle_from s o n (p.target ∷ asked)) (passed_to s o n (p.target ∷ asked)) (lists_run n (p.target ∷ asked)) refl

  -- ---- and they are told as asked
  abbrev Tells : List ℕ → List ℕ → Settled → Type 0
  Tells tokens asked d = d.asked ≡ reverse tokens ++ asked

  one_told : (t : ℕ) (tokens asked : List ℕ) (d : Option Settled) → IfSome d (Tells tokens (t ∷ asked)) → IfSome d (Tells (t ∷ tokens) asked)
  one_told t tokens asked None told = tt
  one_told t tokens asked (Some d) told = told ∙ sym (ap (λ l. l ++ asked) (reverse-cons t tokens) ∙ append_assoc (reverse tokens) (t ∷ []) asked)

  tells_by : (b : Bool) (asked : List ℕ) (p : Passing) (q : Option Passing) (on : Passing → Option Settled) (rest : Passing → List ℕ) → ((r : Passing) → IfSome (on r) (Tells (rest r) (p.target ∷ asked))) → IfSome (cond b (Some (settled p asked)) (option_and_then on q)) (Tells (cond b [] (p.target ∷ after_run q rest)) asked)
  tells_by true asked p q on rest told = refl
  tells_by false asked p None on rest told = tt
  tells_by false asked p (Some q) on rest told = one_told p.target (rest q) asked (on q) (told q)

  lists_told : (n : ℕ) (asked : List ℕ) (p : Passing) → IfSome (settle_from s o n asked p) (Tells (passed_to s o n asked p) asked)
  lists_told zero asked p = refl
  lists_told (suc n) asked p =
      tells_by (asked_already asked p.target) asked p (run_list s o (row_of s p.target).filters p) (settle_from s o n (p.target ∷ asked)) (passed_to s o n (p.target ∷ asked)) (lists_told n (p.target ∷ asked))

-- ---- all that are passed to
others : (asked : List ℕ) (t : ℕ) → asked_already asked t ≡ false → All (λ x. t ≢ x) asked
others [] t e = All-nil (λ x. t ≢ x)
others (x ∷ asked) t e =
    let apart = or_parts (x == t) (asked_already asked t) e in
    All-cons (λ x. t ≢ x) x asked (λ same. eqb-false x t apart.0 (sym same)) (others asked t apart.1)

not_asked : (asked : List ℕ) (t : ℕ) → asked_already asked t ≡ false → ¬ Contains asked t
not_asked asked t e = λ has. All-contains (λ x. t ≢ x) asked t (others asked t e) has refl

is_asked_by : (x : ℕ) (asked : List ℕ) (t : ℕ) (b : Bool) → x == t ≡ b → (asked_already asked t ≡ true → Contains asked t) → b || asked_already asked t ≡ true → Contains (x ∷ asked) t
is_asked_by x asked t true is rest e = (zero, omega arith, eqb-true x t is)
is_asked_by x asked t false is rest e = let there = rest e in (suc there.0, omega (arith, there.1), there.2)

is_asked : (asked : List ℕ) (t : ℕ) → asked_already asked t ≡ true → Contains asked t
is_asked [] t e = absurd cc
is_asked (x ∷ asked) t e = is_asked_by x asked t (x == t) refl (is_asked asked t) e

module _ (s : HandlersData RowData) (o : Origin) where
  -- all of these are there, and none twice
  record AreAsked (asked : List ℕ) : Type 0 where
    pub once : AllPairs (λ a b. a ≢ b) asked
    pub there : All (λ t. Contains (tokens_of s.list) t) asked

  one_more : (asked : List ℕ) (t : ℕ) → AreAsked asked → Contains (tokens_of s.list) t → asked_already asked t ≡ false → AreAsked (t ∷ asked)
  one_more asked t are there new =
      record {
        once = AllPairs-cons (λ a b. a ≢ b) t asked (others asked t new) are.once;
        there = All-cons (λ t. Contains (tokens_of s.list) t) t asked there are.there;
      }

  few : (asked : List ℕ) → AreAsked asked → length asked ≤ length s.list
  few asked are = omega (arith, pigeons asked (tokens_of s.list) are.once are.there, length-map s.list (λ h. h.token))

  -- where as many were asked as there are, each was
  all_asked : (asked : List ℕ) (t : ℕ) (b : Bool) → AreAsked asked → Contains (tokens_of s.list) t → length s.list ≤ length asked → asked_already asked t ≡ b → b ≡ true
  all_asked asked t true are there le is = refl
  all_asked asked t false are there le is = absurd (omega (arith, le, few (t ∷ asked) (one_more asked t are there is)))

  stays : (n : ℕ) (asked : List ℕ) (p : Passing) → asked_already asked p.target ≡ true → settle_from s o n asked p ≡ Some (settled p asked)
  stays zero asked p e = refl
  stays (suc n) asked p e = rw e refl

  then_enough : (q : Option Passing) (f g : Passing → Option Settled) → IfSome q (IsKept s o) → ((p : Passing) → IsKept s o p → f p ≡ g p) → option_and_then f q ≡ option_and_then g q
  then_enough None f g there same = refl
  then_enough (Some p) f g there same = same p there

  end : (n m : ℕ) (asked : List ℕ) (p : Passing) → AreAsked asked → IsKept s o p → length s.list ≤ length asked → settle_from s o n asked p ≡ settle_from s o m asked p
  end n m asked p are there le =
      let e = all_asked asked p.target (asked_already asked p.target) are there le refl in
      stays n asked p e ∙ sym (stays m asked p e)

  step_enough : (n m : ℕ) (asked : List ℕ) (p : Passing) (b : Bool) → asked_already asked p.target ≡ b → IsKept s o p → (asked_already asked p.target ≡ false → (q : Passing) → IsKept s o q → settle_from s o n (p.target ∷ asked) q ≡ settle_from s o m (p.target ∷ asked) q) → settle_from s o (suc n) asked p ≡ settle_from s o (suc m) asked p
  step_enough n m asked p true is there rest = stays (suc n) asked p is ∙ sym (stays (suc m) asked p is)
  step_enough n m asked p false is there rest =
      ap (λ q. cond (asked_already asked p.target) (Some (settled p asked)) q)
      (then_enough (run_list s o (row_of s p.target).filters p) (settle_from s o n (p.target ∷ asked)) (settle_from s o m (p.target ∷ asked)) (list_kept s o (row_of s p.target).filters p there) (rest is))

  -- any two numbers of steps that are enough
  enough : (n m : ℕ) (asked : List ℕ) (p : Passing) → AreAsked asked → IsKept s o p → length s.list ≤ n + length asked → length s.list ≤ m + length asked → settle_from s o n asked p ≡ settle_from s o m asked p
  enough zero m asked p are there le within = end zero m asked p are there (omega (arith, le))
  enough (suc n) zero asked p are there le within = end (suc n) zero asked p are there (omega (arith, within))
  enough (suc n) (suc m) asked p are there le within =
      step_enough n m asked p (asked_already asked p.target) refl there
      (λ new q kept. enough n m (p.target ∷ asked) q (one_more asked p.target are there new) kept (omega (arith, le)) (omega (arith, within)))

  -- ---- where it stays the filters ran
  abbrev Rests : Settled → Type 0
  Rests d = Contains d.asked d.passing.target

  rests : (n : ℕ) (asked : List ℕ) (p : Passing) → AreAsked asked → IsKept s o p → length s.list ≤ n + length asked → IfSome (settle_from s o n asked p) Rests
  rests zero asked p are there le = is_asked asked p.target (all_asked asked p.target (asked_already asked p.target) are there (omega (arith, le)) refl)
  rests (suc n) asked p are there le =
      cond_both (asked_already asked p.target) (Some (settled p asked)) (option_and_then (settle_from s o n (p.target ∷ asked)) (run_list s o (row_of s p.target).filters p)) (λ q. IfSome q Rests)
      (λ e. is_asked asked p.target e)
      (λ new. then_kept s o Rests (run_list s o (row_of s p.target).filters p) (settle_from s o n (p.target ∷ asked)) (list_kept s o (row_of s p.target).filters p there)
      (λ q kept. rests n (p.target ∷ asked) q (one_more asked p.target are there new) kept (omega (arith, le))))

  none_asked : AreAsked []
  none_asked = record { once = AllPairs-nil (λ a b. a ≢ b); there = All-nil (λ t. Contains (tokens_of s.list) t) }

pub once-proof : FiltersRunAtMostOnce
once-proof s o n asked p =
    record {
      runs = lists_run s o n asked p;
      differ = asked_once s o n asked p;
      new = All-weaker (λ t. asked_already asked t ≡ false) (λ t. ¬ Contains asked t) (not_asked asked) (passed_to s o n asked p) (asked_new s o n asked p);
      told = lists_told s o n asked p;
    }

pub all-proof : AllFiltersRun
all-proof s o common p h there =
    then_kept s o (Rests s o) (run_list s o common p) (settle_from s o (length s.list) []) (list_kept s o common p there)
    (λ q kept. rests s o (length s.list) [] q (none_asked s o) kept (omega arith))

pub enough-proof : StepsAreEnough
enough-proof s o n p h there le =
    enough s o n (length s.list) [] p (none_asked s o) there (omega (arith, le)) (omega arith)
