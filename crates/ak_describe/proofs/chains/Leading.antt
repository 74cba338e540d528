-- The chains of a looper's handlers, as the lines give one next handler after another.
use Rattle.std.proofs.Common.{◌≡◌, ◌≢◌, ◌⊎◌, ℕ, zero, suc, ◌+◌, ◌<◌, ◌==◌, Bool, true, false, cond, ltb, List, [], ◌∷◌, Option, None, Some, option_map, option_and_then, slice_get, refl, sym, ap, subst, ◌∙◌, ⊎_elim, inl, inr, le-ltb, lt-ltb, arith}
use Rattle.std.proofs.lemmas.Bool.{cases_eq, cases_lt}
use lib.Dec.{leb-suc-suc}
use Rattle.ak_action.specs.declared.plan.PlanRow.{PlanRow}
use Rattle.ak_action.specs.Plan.{place_or_looper, next_place, place_after, chains_end}
use Rattle.ak_describe.specs.Described.{plan_row}
use Rattle.ak_describe.specs.Describes.{ComesBack}
use Rattle.ak_describe.specs.Parts.{RowData, LooperData}
use Rattle.ak_describe.specs.Second.{without_next, chained_to}
use Rattle.ak_describe.proofs.chains.Chaining.{Ends, ended, ends_before, back_never_ends, true_if_all_end, all_end_if_true, ends_alike, comes_back_or_all_end}
use Rattle.ak_describe.proofs.chains.LedPlaces.{chained_first, get_bare, place_of, place_of-chained}

abbrev kept_if : Bool → RowData → PlanRow
kept_if true r = plan_row r
kept_if false r = without_next (plan_row r)

-- ---- the handler at a place
get_chained : (n : ℕ) (rows : List RowData) (p : ℕ) → slice_get (chained_first n rows) p ≡ option_map (kept_if (ltb p n)) (slice_get rows p)
get_chained zero rows p =
    let out : ltb p zero ≡ false = le-ltb p zero (omega arith) in
    get_bare rows p ∙ ap (λ (b : Bool). option_map (kept_if b) (slice_get rows p)) (sym out)
get_chained (suc n) [] p = refl
get_chained (suc n) (r ∷ rows) zero =
    let first : ltb zero (suc n) ≡ true = lt-ltb zero (suc n) (omega arith) in
    ap (λ (b : Bool). Some (kept_if b r)) (sym first)
get_chained (suc n) (r ∷ rows) (suc p) =
    get_chained n rows p ∙ ap (λ (b : Bool). option_map (kept_if b) (slice_get rows p)) (sym (leb-suc-suc (suc p) n))

-- ---- where each leads
abbrev next_by : List RowData → Bool → Option RowData → Option ℕ
next_by rows kept None = None
next_by rows true (Some r) = place_of rows r.next
next_by rows false (Some r) = Some 0

next_chained_by : (n : ℕ) (rows : List RowData) (b : Bool) (o : Option RowData) → option_and_then (λ (row : PlanRow). place_or_looper (chained_first n rows) row.next) (option_map (kept_if b) o) ≡ next_by rows b o
next_chained_by n rows b None = refl
next_chained_by n rows true (Some r) = place_of-chained n rows r.next
next_chained_by n rows false (Some r) = refl

next_chained : (n : ℕ) (rows : List RowData) (p : ℕ) → next_place (chained_first n rows) p ≡ cond (p == 0) None (next_by rows (ltb p n) (slice_get rows p))
next_chained n rows p =
    ap (λ (o : Option PlanRow). cond (p == 0) None (option_and_then (λ (row : PlanRow). place_or_looper (chained_first n rows) row.next) o)) (get_chained n rows p)
    ∙ ap (cond (p == 0) None) (next_chained_by n rows (ltb p n) (slice_get rows p))

-- ---- with one handler more
test_other : (p n : ℕ) → p ≢ n → ltb p n ≡ ltb p (suc n)
test_other p n other =
    ⊎_elim
    (λ lt. lt-ltb p n lt ∙ sym (lt-ltb p (suc n) (omega arith)))
    (λ le. le-ltb p n le ∙ sym (le-ltb p (suc n) (omega (arith, other))))
    (cases_lt p n)

next_other : (n : ℕ) (rows : List RowData) (p : ℕ) → p ≢ n → next_place (chained_first n rows) p ≡ next_place (chained_first (suc n) rows) p
next_other n rows p other =
    next_chained n rows p ∙ ap (λ (b : Bool). cond (p == 0) None (next_by rows b (slice_get rows p))) (test_other p n other) ∙ sym (next_chained (suc n) rows p)

abbrev HasNoNext : Option RowData → Type 0
HasNoNext None = Unit {0}
HasNoNext (Some r) = r.next ≡ None

either_kept : (rows : List RowData) (b c : Bool) (o : Option RowData) → HasNoNext o → next_by rows b o ≡ next_by rows c o
either_kept rows b c None h = refl
either_kept rows true true (Some r) h = refl
either_kept rows true false (Some r) h = ap (place_of rows) h
either_kept rows false true (Some r) h = sym (ap (place_of rows) h)
either_kept rows false false (Some r) h = refl

next_alike : (n : ℕ) (rows : List RowData) → HasNoNext (slice_get rows n) → (p : ℕ) → next_place (chained_first n rows) p ≡ next_place (chained_first (suc n) rows) p
next_alike n rows h p =
    ⊎_elim
    (λ same.
    next_chained n rows p
    ∙ ap (cond (p == 0) None) (either_kept rows (ltb p n) (ltb p (suc n)) (slice_get rows p) (subst (λ (k : ℕ). HasNoNext (slice_get rows k)) (sym same) h))
    ∙ sym (next_chained (suc n) rows p))
    (λ other. next_other n rows p other)
    (cases_eq p n)

-- ---- all of them end
looper_ends : (rows : List PlanRow) → Ends rows (Some 0)
looper_ends rows = record { steps = suc zero; is = refl }

none_led : (all : List PlanRow) (rows : List RowData) (b : Bool) (o : Option RowData) → Ends all (cond b None (next_by rows false o))
none_led all rows true o = ended all
none_led all rows false None = ended all
none_led all rows false (Some r) = looper_ends all

first_all_end : (rows : List RowData) (p : ℕ) → Ends (chained_first zero rows) (Some p)
first_all_end rows p =
    let out : ltb p zero ≡ false = le-ltb p zero (omega arith) in
    let is : next_place (chained_first zero rows) p ≡ cond (p == 0) None (next_by rows false (slice_get rows p)) =
    next_chained zero rows p ∙ ap (λ (b : Bool). cond (p == 0) None (next_by rows b (slice_get rows p))) out in
    ends_before (chained_first zero rows) p (subst (λ (at : Option ℕ). Ends (chained_first zero rows) at) (sym is) (none_led (chained_first zero rows) rows (p == 0) (slice_get rows p)))

-- the lines of the handlers before this one close no loop
abbrev pub AreLed : List RowData → ℕ → Type 0
AreLed rows n = (k : ℕ) (r : RowData) (name : List ℕ) → k < n → slice_get rows k ≡ Some r → r.next ≡ Some name → chains_end (chained_to k rows) ≡ true

one_more : (n : ℕ) (rows : List RowData) → chained_to n rows ≡ chained_first (suc n) rows
one_more n rows = let e : n + 1 ≡ suc n = omega arith in ap (λ (k : ℕ). chained_first k rows) e

more_end : (n : ℕ) (rows : List RowData) → HasNoNext (slice_get rows n) → ((p : ℕ) → Ends (chained_first n rows) (Some p)) → (p : ℕ) → Ends (chained_first (suc n) rows) (Some p)
more_end n rows h before p = ends_alike (chained_first n rows) (chained_first (suc n) rows) (next_alike n rows h) (Some p) (before p)

more_end_by : (n : ℕ) (rows : List RowData) (r : RowData) (next : Option (List ℕ)) → slice_get rows n ≡ Some r → r.next ≡ next → AreLed rows (suc n) → ((p : ℕ) → Ends (chained_first n rows) (Some p)) → (p : ℕ) → Ends (chained_first (suc n) rows) (Some p)
more_end_by n rows r None is e led before = more_end n rows (subst HasNoNext (sym is) e) before
more_end_by n rows r (Some name) is e led before =
    all_end_if_true (chained_first (suc n) rows) (subst (λ (all : List PlanRow). chains_end all ≡ true) (one_more n rows) (led n r name (omega arith) is e))

more_end_at : (n : ℕ) (rows : List RowData) (o : Option RowData) → slice_get rows n ≡ o → AreLed rows (suc n) → ((p : ℕ) → Ends (chained_first n rows) (Some p)) → (p : ℕ) → Ends (chained_first (suc n) rows) (Some p)
more_end_at n rows None is led before = more_end n rows (subst HasNoNext (sym is) tt) before
more_end_at n rows (Some r) is led before = more_end_by n rows r r.next is refl led before

all_end : (n : ℕ) (rows : List RowData) → AreLed rows n → (p : ℕ) → Ends (chained_first n rows) (Some p)
all_end zero rows led = first_all_end rows
all_end (suc n) rows led =
    more_end_at n rows (slice_get rows n) refl led (all_end n rows (λ k r name lt is e. led k r name (omega arith) is e))

-- ---- the line of one handler
back_or_ends : (l : LooperData) (row : ℕ) → ((steps : ℕ) × (place_after (chained_first (suc row) l.rows) (suc steps) (Some row) ≡ Some row)) ⊎ ((place : ℕ) → Ends (chained_first (suc row) l.rows) (Some place))
    → ComesBack l row ⊎ (chains_end (chained_to row l.rows) ≡ true)
back_or_ends l row (inl back) = inl (back.0, subst (λ (all : List PlanRow). place_after all (suc back.0) (Some row) ≡ Some row) (sym (one_more row l.rows)) back.1)
back_or_ends l row (inr all) = inr (subst (λ (all : List PlanRow). chains_end all ≡ true) (sym (one_more row l.rows)) (true_if_all_end (chained_first (suc row) l.rows) all))

-- where the lines before close no loop, it closes one or the chains end
pub loop_or_ends : (l : LooperData) (row : ℕ) → AreLed l.rows row → ComesBack l row ⊎ (chains_end (chained_to row l.rows) ≡ true)
loop_or_ends l row led =
    back_or_ends l row (comes_back_or_all_end (chained_first row l.rows) (chained_first (suc row) l.rows) row (λ p other. next_other row l.rows p other) (all_end row l.rows led))

pub no_loop_where_ends : (l : LooperData) (row : ℕ) → ComesBack l row → chains_end (chained_to row l.rows) ≡ true → ⊥
no_loop_where_ends l row back ends = back_never_ends (chained_to row l.rows) back.0 row back.1 (all_end_if_true (chained_to row l.rows) ends row)
