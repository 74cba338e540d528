-- Where the second pass finds no fault, the loopers are plans.
use Rattle.std.proofs.Common.{◌≡◌, ◌≢◌, ◌∙◌, ◌⊎◌, ℕ, zero, suc, ◌+◌, ◌<◌, ◌≤◌, Bool, true, false, cond, if◌then◌else◌, List, [], ◌∷◌, length, get_or, Option, None, Some, is_some, slice_get, All, nat_le, refl, sym, ap, subst, inl, inr, ⊎_elim, arith, le-leb}
use Rattle.std.specs.List.{list_all}
use Rattle.std.proofs.lemmas.Bool.{and_from, cases_eq}
use Rattle.std.proofs.lemmas.List.{length-map}
use Rattle.std.proofs.lemmas.List.Elements.{All-weaker}
use Rattle.std.proofs.lemmas.Option.{same_Some, slice_get_within, slice_get-get_or}
use Rattle.ak_base.specs.declared.ending.RefusalKind.{RefusalKind}
use Rattle.ak_base.specs.declared.ending.RefusalKind.TheVariants as refusal
use Rattle.ak_action.proofs.Surface.{Tests}
use Rattle.ak_action.specs.declared.plan.PlanFault.{PlanFault}
use Rattle.ak_action.specs.declared.plan.PlanParts.{PlanParts}
use Rattle.ak_action.specs.declared.plan.PlanRow.{PlanRow}
use Rattle.ak_action.specs.Plan.{IsPlan, begin_with_looper, chains_end, first_of_faults, fits_actions, fits_table, kinds_fit, looper_fault, may_be, names_are_there, names_fault, place_named, rows_fault, table_names_differ}
use Rattle.ak_describe.specs.declared.named.Named.{Named}
use Rattle.ak_describe.specs.declared.named.Need.{Need}
use Rattle.ak_describe.specs.declared.named.Need.TheVariants as needs
use Rattle.ak_describe.specs.Described.{AreWhole, HasRoom, IsWhole, elements_of, plan_parts, plan_row, plan_rows, table_of}
use Rattle.ak_describe.specs.Parts.{RowData, LooperData, AppData, row_named}
use Rattle.ak_describe.specs.Pass.{Refusal, loopers_in, rows_in}
use Rattle.ak_describe.specs.Second.{chained_to, fault_in_app, fault_in_looper, fault_of, named_fault, next_fault, or_next, second_fault, unknown}
use Rattle.ak_describe.proofs.built.AppLines.{pref_at, pref_in}
use Rattle.ak_describe.proofs.chains.ChainWalks.{all_chains_end}
use Rattle.ak_describe.proofs.built.Fits.{AppFits, LooperFits, RowFits}
use Rattle.ak_describe.proofs.chains.Following.{Follows, next_at, next_in}
use Rattle.ak_describe.proofs.chains.FollowingMore.{has_line}
use Rattle.ak_describe.proofs.built.Forming.{reactions_still, with_properties}
use Rattle.ak_describe.proofs.built.PartsKept.{HasName, first_is}
use Rattle.ak_describe.proofs.chains.LedNames.{ends_at_once, kept_none}
use Rattle.ak_describe.proofs.chains.LedPlaces.{LooperFirst, chained_first, leads_as, length_chained}
use Rattle.ak_describe.proofs.built.LooperLines.{called_named, is_there}
use Rattle.ak_describe.proofs.ground.Places.{all_there}

-- ---- a plan is one by its tests
passes : (b : Bool) (o : Option PlanFault) (f : PlanFault) → b ≡ true → o ≡ None → cond b o (Some f) ≡ None
passes true o f e none = none
passes false o f e none = absurd cc

both_none : (o p : Option PlanFault) → o ≡ None → p ≡ None → first_of_faults o p ≡ None
both_none None p e none = none
both_none (Some f) p e none = absurd cc

is_plan : (parts : PlanParts) → Tests parts → IsPlan parts
is_plan parts t =
    both_none (looper_fault parts parts.rows) (first_of_faults (names_fault parts parts.rows) (rows_fault parts.rows))
    (passes _ _ _ t.looper (passes _ _ _ t.capacity (passes _ _ _ t.limit refl)))
    (both_none (names_fault parts parts.rows) (rows_fault parts.rows)
    (passes _ _ _ t.words (passes _ _ _ t.differ (passes _ _ _ t.there (passes _ _ _ t.chains refl))))
    (passes _ _ _ t.suites (passes _ _ _ t.tables (passes _ _ _ t.actions refl))))

-- ---- what the second pass found good
no_fault_by : (kind : Option RefusalKind) (line : ℕ) (o : Option Refusal) → or_next kind line o ≡ None → (kind ≡ None) × (o ≡ None)
no_fault_by None line o e = (refl, e)
no_fault_by (Some kind) line o e = absurd cc

each_good : (apps : List AppData) (names : List Named) → second_fault apps names ≡ None → (k : ℕ) (n : Named) → slice_get names k ≡ Some n → named_fault apps n ≡ None
unfolding second_fault
each_good apps [] e k n at = absurd cc
each_good apps (m ∷ names) e zero n at =
    let same : m ≡ n = cc in
    subst (λ (z : Named). named_fault apps z ≡ None) same (no_fault_by (named_fault apps m) m.line (second_fault apps names) e).0
each_good apps (m ∷ names) e (suc k) n at = each_good apps names (no_fault_by (named_fault apps m) m.line (second_fault apps names) e).1 k n at

next_good_by : (b c : Bool) → (if b then (if c then None else Some refusal.ChainLoop) else Some refusal.UnknownName) ≡ None → (b ≡ true) × (c ≡ true)
next_good_by true true e = (refl, refl)
next_good_by true false e = absurd cc
next_good_by false c e = absurd cc

known : (o : Option ℕ) → unknown o ≡ None → is_some o ≡ true
known None e = absurd cc
known (Some place) e = refl

fault_is : (apps : List AppData) (n : Named) (a : AppData) (l : LooperData) (need : Need) → slice_get apps n.app ≡ Some a → slice_get a.loopers n.looper ≡ Some l → n.need ≡ need → named_fault apps n ≡ fault_of apps a l n need
fault_is apps n a l need app looper is =
    ap (fault_in_app apps n) app ∙ ap (fault_in_looper apps a n) looper ∙ ap (fault_of apps a l n) is

-- ---- what holds of each handler
each_row : (p : PlanRow → Bool) (rows : List RowData) → ((i : ℕ) (r : RowData) → slice_get rows i ≡ Some r → p (plan_row r) ≡ true) → list_all p (plan_rows rows) ≡ true
each_row p [] each = refl
each_row p (r ∷ rows) each = and_from (p (plan_row r)) (list_all p (plan_rows rows)) (each zero r refl) (each_row p rows (λ i. each (suc i)))

-- ---- chains
chained_all : (m : ℕ) (rows : List RowData) → ((i : ℕ) (r : RowData) → m ≤ i → slice_get rows i ≡ Some r → r.next ≡ None) → chained_first m rows ≡ plan_rows rows
chained_all zero [] none = refl
chained_all zero (r ∷ rows) none =
    let bare : r.next ≡ None = none zero r (omega arith) refl in
    let rest : chained_first zero rows ≡ plan_rows rows = chained_all zero rows (λ i q le at. none (suc i) q (omega arith) at) in
    ap (λ (next : Option (List ℕ)). record (plan_row r) { next = next } ∷ chained_first zero rows) (sym bare) ∙ ap (λ (ps : List PlanRow). plan_row r ∷ ps) rest
chained_all (suc m) [] none = refl
chained_all (suc m) (r ∷ rows) none =
    ap (λ (ps : List PlanRow). plan_row r ∷ ps) (chained_all m rows (λ i q le at. none (suc i) q (omega arith) at))

-- the last handler that has a next one
record LastNext (rows : List RowData) : Type 0 where
  place : ℕ
  row : RowData
  name : List ℕ
  is : slice_get rows place ≡ Some row
  next : row.next ≡ Some name
  behind : (i : ℕ) (r : RowData) → place + 1 ≤ i → slice_get rows i ≡ Some r → r.next ≡ None

abbrev NoneBehind : List RowData → ℕ → Type 0
NoneBehind rows m = (i : ℕ) (r : RowData) → m ≤ i → slice_get rows i ≡ Some r → r.next ≡ None

one_less : (rows : List RowData) (m : ℕ) (o : Option RowData) → slice_get rows m ≡ o → NoneBehind rows (suc m) → LastNext rows ⊎ NoneBehind rows m
one_less rows m None at none = inr (λ i r le is. by_place i r le is)
  where
    by_place : (i : ℕ) (r : RowData) → m ≤ i → slice_get rows i ≡ Some r → r.next ≡ None
    by_place i r le is = ⊎_elim (λ (e : i ≡ m). let same : slice_get rows m ≡ Some r = ap (slice_get rows) (sym e) ∙ is in absurd (cc (at, same))) (λ (ne : i ≢ m). none i r (omega arith) is) (cases_eq i m)
one_less rows m (Some q) at none = by_next q.next refl
  where
    by_next : (next : Option (List ℕ)) → q.next ≡ next → LastNext rows ⊎ NoneBehind rows m
    by_next (Some name) e = inl (record { place = m; row = q; name = name; is = at; next = e; behind = λ i r le is. none i r (omega arith) is })
    by_next None e = inr (λ i r le is.
        ⊎_elim
        (λ (same : i ≡ m). let row : q ≡ r = same_Some q r (sym at ∙ ap (slice_get rows) (sym same) ∙ is) in subst (λ (z : RowData). z.next ≡ None) row e)
        (λ (ne : i ≢ m). none i r (omega arith) is)
        (cases_eq i m))

last_next : (rows : List RowData) (m : ℕ) → NoneBehind rows m → LastNext rows ⊎ NoneBehind rows 0
last_next rows zero none = inr none
last_next rows (suc m) none = ⊎_elim (λ (t : LastNext rows). inl t) (λ (fewer : NoneBehind rows m). last_next rows m fewer) (one_less rows m (slice_get rows m) refl none)

length_rows : (rows : List RowData) → length (plan_rows rows) ≡ length rows
length_rows rows = length-map rows plan_row

first_there : (rows : List RowData) (name : List ℕ) → begin_with_looper (plan_rows rows) name ≡ true → 0 < length rows
first_there [] name e = absurd cc
first_there (r ∷ rows) name e = omega arith

no_chains : (rows : List RowData) → 0 < length rows → LooperFirst rows → NoneBehind rows 0 → chains_end (plan_rows rows) ≡ true
no_chains rows some first none =
    ap chains_end (sym (chained_all 0 rows none))
    ∙ all_chains_end (chained_first 0 rows) (λ _. 0) (leads_as 0 rows (λ _. 0) first (kept_none rows (λ _. 0) (λ i. refl))) (omega (arith, length_chained 0 rows)) (ends_at_once (λ _. 0) (λ i. refl))

-- ---- a looper at its place
module _ (apps : List AppData) (names : List Named) (good : second_fault apps names ≡ None) (nexts : Follows apps 0 names) (preferred : (a x : ℕ) (name : List ℕ) → pref_at apps a x ≡ Some name → HasName names a x name)
    (a x : ℕ) (app : AppData) (l : LooperData) (app_is : slice_get apps a ≡ Some app) (looper_is : slice_get app.loopers x ≡ Some l) (few : length app.loopers ≤ 8) (f : LooperFits l) where
  next_is : (i : ℕ) (r : RowData) (name : List ℕ) → slice_get l.rows i ≡ Some r → r.next ≡ Some name → next_at apps a x i ≡ Some name
  next_is i r name at has =
      ap (λ p. next_in (slice_get (rows_in (slice_get (loopers_in p) x)) i)) app_is
      ∙ ap (λ p. next_in (slice_get (rows_in p) i)) looper_is
      ∙ ap next_in at ∙ has

  looper_few : x < 8
  looper_few = let lt = slice_get_within app.loopers x l looper_is in omega (arith, few, lt)

  next_good : (i : ℕ) (r : RowData) (name : List ℕ) → slice_get l.rows i ≡ Some r → r.next ≡ Some name → (is_some (row_named l.rows name) ≡ true) × (chains_end (chained_to i l.rows) ≡ true)
  next_good i r name at has =
      let lt : i < length l.rows = slice_get_within l.rows i r at in
      let h = has_line apps names 0 a x i name looper_few (omega (arith, f.few)) (omega arith) (next_is i r name at has) nexts in
      let fault : named_fault apps h.named ≡ next_fault l.rows h.named.row name =
      fault_is apps h.named app l (needs.Next name) (ap (slice_get apps) h.app ∙ app_is) (ap (slice_get app.loopers) h.looper ∙ looper_is) h.need in
      let none : next_fault l.rows i name ≡ None = ap (λ k. next_fault l.rows k name) (sym h.row) ∙ sym fault ∙ each_good apps names good h.place h.named h.is in
      next_good_by (is_some (row_named l.rows name)) (chains_end (chained_to i l.rows)) none

  named_too : (name : List ℕ) → is_some (place_named (plan_rows l.rows) name) ≡ is_some (row_named l.rows name)
  named_too name = is_there (plan_rows l.rows) name ∙ sym (called_named l.rows name)

  next_there : (i : ℕ) (r : RowData) (next : Option (List ℕ)) → slice_get l.rows i ≡ Some r → r.next ≡ next → may_be (plan_rows l.rows) next ≡ true
  next_there i r None at e = refl
  next_there i r (Some name) at e = named_too name ∙ (next_good i r name at e).0

  all_there_are : names_are_there (plan_rows l.rows) ≡ true
  all_there_are =
      each_row (λ (row : PlanRow). may_be (plan_rows l.rows) row.next) l.rows (λ i r at. next_there i r r.next at refl)

  preferred_there : (o : Option (List ℕ)) → l.preferred ≡ o → may_be (plan_rows l.rows) o ≡ true
  preferred_there None e = refl
  preferred_there (Some name) e =
      let h = preferred a x name (ap (λ p. pref_in (slice_get (loopers_in p) x)) app_is ∙ ap pref_in looper_is ∙ e) in
      let fault : named_fault apps h.named ≡ unknown (row_named l.rows name) =
      fault_is apps h.named app l (needs.Handler name) (ap (slice_get apps) h.app ∙ app_is) (ap (slice_get app.loopers) h.looper ∙ looper_is) h.need in
      named_too name ∙ known (row_named l.rows name) (sym fault ∙ each_good apps names good h.place h.named h.is)

  first_bare : LooperFirst l.rows
  first_bare r at = first_is l.rows l.name r at f.looper

  chains : chains_end (plan_rows l.rows) ≡ true
  chains =
      ⊎_elim
      (λ (t : LastNext l.rows). ap chains_end (sym (chained_all (t.place + 1) l.rows t.behind)) ∙ (next_good t.place t.row t.name t.is t.next).1)
      (λ (none : NoneBehind l.rows 0). no_chains l.rows (first_there l.rows l.name f.looper) first_bare none)
      (last_next l.rows (length l.rows) (λ i r le at. let lt : i < length l.rows = slice_get_within l.rows i r at in absurd (omega arith)))

  row_fits : (i : ℕ) (r : RowData) → slice_get l.rows i ≡ Some r → RowFits r
  row_fits i r at = all_there RowFits l.rows i r at f.rows

  acts : (r : RowData) → RowFits r → fits_actions (plan_row r) ≡ true
  acts r h = reactions_still (with_properties r.properties) (plan_row r) (record { named = λ name e. e; of_kind = λ name kind e. e }) r.reactions h.actions_fit

  pub is_whole : IsWhole l
  is_whole =
      record {
        rows = All-weaker RowFits HasRoom (λ r h. record { properties = h.properties; reactions = h.reactions }) l.rows f.rows;
        plan = is_plan (plan_parts l)
            (record {
              looper = f.looper;
              capacity = f.capacity;
              limit = le-leb (length (plan_rows l.rows)) 64 (omega (arith, f.few, length_rows l.rows));
              words = f.words;
              differ = f.names_differ;
              there = and_from (names_are_there (plan_rows l.rows)) (may_be (plan_rows l.rows) l.preferred) all_there_are (preferred_there l.preferred refl);
              chains = chains;
              suites = each_row (λ (row : PlanRow). nat_le (length row.suites) 16) l.rows (λ i r at. le-leb (length r.suites) 16 (row_fits i r at).suites);
              tables = each_row fits_table l.rows (λ i r at. and_from (table_names_differ (table_of r.properties)) (kinds_fit (table_of r.properties) (elements_of r.properties)) (row_fits i r at).names_differ (row_fits i r at).kinds_fit);
              actions = each_row fits_actions l.rows (λ i r at. acts r (row_fits i r at));
            });
      }

-- ---- all of them
pub all_whole : (apps : List AppData) (names : List Named) → second_fault apps names ≡ None → All AppFits apps → Follows apps 0 names → ((a x : ℕ) (name : List ℕ) → pref_at apps a x ≡ Some name → HasName names a x name) → AreWhole apps
all_whole apps names good fits nexts preferred a d lt x e within =
    let app : AppFits (get_or apps a d) = fits a d lt in
    is_whole apps names good nexts preferred a x (get_or apps a d) (get_or (get_or apps a d).loopers x e) (slice_get-get_or apps a d lt) (slice_get-get_or (get_or apps a d).loopers x e within) app.few (app.loopers x e within)
