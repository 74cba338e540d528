-- The places that are kept of next handlers lead as the handlers do that have theirs by then.
use Rattle.std.proofs.Common.{◌≡◌, ◌≢◌, ◌∙◌, ℕ, zero, suc, ◌+◌, ◌-◌, ◌<◌, ◌≤◌, if◌then◌else◌, eq-eqb, Bool, true, false, cond, ltb, eqb, List, [], ◌∷◌, ◌++◌, length, map, take, drop, set, Option, None, Some, option_map, option_and_then, slice_get, refl, sym, ap, subst, ⊎_elim, arith, get_or-set_other, get_or-set_same, eqb-true, ne_eqb}
use Rattle.std.specs.List.{position_or_len}
use Rattle.std.specs.Str.{bytes_eq}
use Rattle.std.proofs.lemmas.Bool.{cases_eq, cases_lt}
use Rattle.std.proofs.lemmas.List.{length-set}
use Rattle.std.proofs.lemmas.List.Quantifiers.{position-Some}
use Rattle.std.proofs.lemmas.Option.{same_Some, slice_get_within, unwrap_or-slice_get}
use Rattle.ak_base.specs.declared.ending.RefusalKind.TheVariants as refusal
use Rattle.ak_action.specs.declared.plan.PlanRow.{PlanRow}
use Rattle.ak_action.specs.Plan.{chains_end, next_place, place_named, place_or_looper}
use Rattle.ak_describe.specs.declared.second.Chains.{Chains}
use Rattle.ak_describe.specs.Described.{plan_row, plan_rows}
use Rattle.ak_describe.specs.Led.{comes_back, led, meets, next_of}
use Rattle.ak_describe.specs.Parts.{RowData, opened, row_named}
use Rattle.ak_describe.specs.Second.{chained_to, without_next}
use Rattle.ak_describe.proofs.chains.ChainWalks.{LeadsAs, all_chains_end, one_goes_on}
use Rattle.ak_describe.proofs.ground.Places.{item_there}
use Rattle.ak_describe.proofs.chains.Walks.{walk, Ends, ends_from, ends_from_row, ends_within, never_ends}

-- ---- the handlers of which the first so many have their next ones
abbrev is_within : ℕ → ℕ → Bool
is_within zero i = false
is_within (suc m) zero = true
is_within (suc m) (suc i) = is_within m i

is_below : (m i : ℕ) → is_within m i ≡ true → i < m
is_below zero i e = absurd cc
is_below (suc m) zero e = omega arith
is_below (suc m) (suc i) e = let lt : i < m = is_below m i e in omega arith

is_over : (m i : ℕ) → is_within m i ≡ false → m ≤ i
is_over zero i e = omega arith
is_over (suc m) zero e = absurd cc
is_over (suc m) (suc i) e = let le : m ≤ i = is_over m i e in omega arith

abbrev chained_row : ℕ → ℕ → RowData → PlanRow
chained_row m i r = cond (is_within m i) (plan_row r) (without_next (plan_row r))

abbrev pub chained_first : ℕ → List RowData → List PlanRow
chained_first m rows = plan_rows (take m rows) ++ map without_next (plan_rows (drop m rows))

pub get_bare : (rows : List RowData) (i : ℕ) → slice_get (map without_next (plan_rows rows)) i ≡ option_map (λ (r : RowData). without_next (plan_row r)) (slice_get rows i)
get_bare [] i = refl
get_bare (r ∷ rows) zero = refl
get_bare (r ∷ rows) (suc i) = get_bare rows i

get_chained : (m : ℕ) (rows : List RowData) (i : ℕ) → slice_get (chained_first m rows) i ≡ option_map (chained_row m i) (slice_get rows i)
get_chained zero rows i = get_bare rows i
get_chained (suc m) [] i = refl
get_chained (suc m) (r ∷ rows) zero = refl
get_chained (suc m) (r ∷ rows) (suc i) = get_chained m rows i

length_bare : (rows : List RowData) → length (map without_next (plan_rows rows)) ≡ length rows
length_bare [] = refl
length_bare (r ∷ rows) = ap suc (length_bare rows)

pub length_chained : (m : ℕ) (rows : List RowData) → length (chained_first m rows) ≡ length rows
length_chained zero rows = length_bare rows
length_chained (suc m) [] = refl
length_chained (suc m) (r ∷ rows) = ap suc (length_chained m rows)

abbrev is_called : List ℕ → RowData → Bool
is_called name r = bytes_eq r.name name

abbrev is_planned : List ℕ → PlanRow → Bool
is_planned name r = bytes_eq r.name name

place_bare : (rows : List RowData) (name : List ℕ) → position_or_len (is_planned name) (map without_next (plan_rows rows)) ≡ position_or_len (is_called name) rows
place_bare [] name = refl
place_bare (r ∷ rows) name = rw (place_bare rows name) refl

place_chained : (m : ℕ) (rows : List RowData) (name : List ℕ) → position_or_len (is_planned name) (chained_first m rows) ≡ position_or_len (is_called name) rows
place_chained zero rows name = place_bare rows name
place_chained (suc m) [] name = refl
place_chained (suc m) (r ∷ rows) name = rw (place_chained m rows name) refl

abbrev place_in : ℕ → ℕ → Option ℕ
place_in n len = cond (ltb n len) (Some n) None

pub named_chained : (m : ℕ) (rows : List RowData) (name : List ℕ) → place_named (chained_first m rows) name ≡ row_named rows name
named_chained m rows name =
    ap (λ n. place_in n (length (chained_first m rows))) (place_chained m rows name)
    ∙ ap (place_in (position_or_len (is_called name) rows)) (length_chained m rows)

-- ---- the places that are kept
abbrev pub place_of : List RowData → Option (List ℕ) → Option ℕ
place_of rows None = Some 0
place_of rows (Some name) = row_named rows name

-- those of the first so many handlers
pub record Kept (rows : List RowData) (m : ℕ) (f : ℕ → ℕ) : Type 0 where
  pub places : (i : ℕ) (r : RowData) → slice_get rows i ≡ Some r → i < m → place_of rows r.next ≡ Some (f i)
  pub rest : (i : ℕ) → m ≤ i → f i ≡ 0
  pub past : (i : ℕ) → length rows ≤ i → f i ≡ 0

-- the looper is led on to none
abbrev pub LooperFirst : List RowData → Type 0
LooperFirst rows = (r : RowData) → slice_get rows 0 ≡ Some r → r.next ≡ None

pub place_of-chained : (m : ℕ) (rows : List RowData) (next : Option (List ℕ)) → place_or_looper (chained_first m rows) next ≡ place_of rows next
place_of-chained m rows None = refl
place_of-chained m rows (Some name) = named_chained m rows name

place_within : (rows : List RowData) (next : Option (List ℕ)) (place : ℕ) → 0 < length rows → place_of rows next ≡ Some place → place < length rows
place_within rows None place some e = let z : 0 ≡ place = same_Some 0 place e in omega arith
place_within rows (Some name) place some e = (position-Some (is_called name) rows place (opened []) e).0

module _ (m : ℕ) (rows : List RowData) (f : ℕ → ℕ) (first : LooperFirst rows) (kept : Kept rows m f) where
  pub looper_stays : f 0 ≡ 0
  looper_stays =
      ⊎_elim
      (λ (lt : 0 < length rows).
      ⊎_elim
      (λ (led : 0 < m).
      let r = item_there rows 0 lt in
      same_Some (f 0) 0 (sym (kept.places 0 r.0 r.1 led) ∙ ap (place_of rows) (first r.0 r.1)))
      (λ (le : m ≤ 0). kept.rest 0 le)
      (cases_lt 0 m))
      (λ (le : length rows ≤ 0). kept.past 0 le)
      (cases_lt 0 (length rows))

  stays_within : (i : ℕ) → i < length rows → f i < length rows
  stays_within i lt =
      ⊎_elim
      (λ (led : i < m). let r = item_there rows i lt in place_within rows r.0.next (f i) (omega arith) (kept.places i r.0 r.1 led))
      (λ (le : m ≤ i). let z : f i ≡ 0 = kept.rest i le in omega arith)
      (cases_lt i m)

  next_by : (i : ℕ) (o : Option RowData) → slice_get rows i ≡ o → i < length rows → (b : Bool) → is_within m i ≡ b
      → option_and_then (λ (row : PlanRow). place_or_looper (chained_first m rows) row.next) (option_map (chained_row m i) o) ≡ Some (f i)
  next_by i None is lt b at = let r = item_there rows i lt in absurd (cc (is, r.1))
  next_by i (Some r) is lt true at =
      ap (λ t. place_or_looper (chained_first m rows) (cond t (plan_row r) (without_next (plan_row r))).next) at
      ∙ place_of-chained m rows r.next ∙ kept.places i r is (is_below m i at)
  next_by i (Some r) is lt false at =
      ap (λ t. place_or_looper (chained_first m rows) (cond t (plan_row r) (without_next (plan_row r))).next) at
      ∙ ap (λ (n : ℕ). Some n) (sym (kept.rest i (is_over m i at)))

  next_is : (i : ℕ) → i < length rows → i ≢ 0 → next_place (chained_first m rows) i ≡ Some (f i)
  next_is i lt ne =
      ap (λ b. cond b None (option_and_then (λ (row : PlanRow). place_or_looper (chained_first m rows) row.next) (slice_get (chained_first m rows) i))) (ne_eqb i 0 ne)
      ∙ ap (option_and_then (λ (row : PlanRow). place_or_looper (chained_first m rows) row.next)) (get_chained m rows i)
      ∙ next_by i (slice_get rows i) refl lt (is_within m i) refl

  pub leads_as : LeadsAs (chained_first m rows) f
  leads_as =
      record {
        looper = looper_stays;
        within = λ i lt. let b : f i < length rows = stays_within i (omega (arith, length_chained m rows)) in omega (arith, length_chained m rows);
        next = λ i lt ne. next_is i (omega (arith, length_chained m rows)) ne;
      }

  -- it is bounded where it ends
  pub kept_within : (n i : ℕ) → length rows ≡ suc n → i < length rows → Ends f i → walk f n i ≡ 0
  kept_within n i e lt ends =
      ends_within f n looper_stays (λ k below. let b : f k < length rows = stays_within k (omega arith) in omega arith) i (omega arith) ends

-- ---- one place more
module _ (c : Chains) (row next : ℕ) (room : row < length c.next) where
  pub led_here : next_of (led c row next) row ≡ next
  led_here = unwrap_or-slice_get (set c.next row next) row 0 ∙ get_or-set_same c.next row next 0 room

  pub led_other : (i : ℕ) → i ≢ row → next_of (led c row next) i ≡ next_of c i
  led_other i ne = unwrap_or-slice_get (set c.next row next) i 0 ∙ get_or-set_other c.next row i next 0 ne ∙ sym (unwrap_or-slice_get c.next i 0)

  pub led_room : length (led c row next).next ≡ length c.next
  led_room = length-set c.next row next

pub kept_more : (rows : List RowData) (c : Chains) (row next : ℕ) (r : RowData) → row < length c.next → slice_get rows row ≡ Some r → place_of rows r.next ≡ Some next
    → Kept rows row (next_of c) → Kept rows (row + 1) (next_of (led c row next))
kept_more rows c row next r room is to kept =
    let lt : row < length rows = slice_get_within rows row r is in
    record {
      places = λ i q at below.
          ⊎_elim
          (λ (same : i ≡ row).
          let q_is : q ≡ r = same_Some q r (sym at ∙ ap (slice_get rows) same ∙ is) in
          ap (λ (x : RowData). place_of rows x.next) q_is ∙ to ∙ ap (λ (n : ℕ). Some n) (sym (ap (next_of (led c row next)) same ∙ led_here c row next room)))
          (λ (ne : i ≢ row).
          kept.places i q at (omega arith) ∙ ap (λ (n : ℕ). Some n) (sym (led_other c row next room i ne)))
          (cases_eq i row);
      rest = λ i le. led_other c row next room i (λ e. absurd (omega arith)) ∙ kept.rest i (omega arith);
      past = λ i le. led_other c row next room i (λ e. absurd (omega arith)) ∙ kept.past i le;
    }

-- ---- whether a walk comes back
abbrev Meets : Chains → ℕ → ℕ → ℕ → Type 0
Meets c row n at = (j : ℕ) × (j < n) × (walk (next_of c) (suc j) at ≡ row)

met_by : (c : Chains) (row n at : ℕ) (b : Bool) → eqb (next_of c at) row ≡ b → cond b true (meets c row n (next_of c at)) ≡ true → (meets c row n (next_of c at) ≡ true → Meets c row n (next_of c at)) → Meets c row (suc n) at
met_by c row n at true e h later = (0, omega arith, eqb-true (next_of c at) row e)
met_by c row n at false e h later = let t : Meets c row n (next_of c at) = later h in (suc t.0, omega (arith, t.1), t.2)

met : (c : Chains) (row n at : ℕ) → meets c row n at ≡ true → Meets c row n at
met c row zero at h = absurd cc
met c row (suc n) at h = met_by c row n at (eqb (next_of c at) row) refl h (met c row n (next_of c at))

apart_by : (b t : Bool) → cond b true t ≡ false → (b ≡ false) × (t ≡ false)
apart_by true t e = absurd cc
apart_by false t e = (refl, e)

apart : (c : Chains) (row n at : ℕ) → meets c row n at ≡ false → (j : ℕ) → j < n → walk (next_of c) (suc j) at ≢ row
apart c row zero at h j lt = absurd (omega arith)
apart c row (suc n) at h zero lt =
    let both = apart_by (eqb (next_of c at) row) (meets c row n (next_of c at)) h in
    λ e. let yes : eqb (next_of c at) row ≡ true = eq-eqb (next_of c at) row e in absurd (cc (yes, both.0))
apart c row (suc n) at h (suc j) lt =
    let both = apart_by (eqb (next_of c at) row) (meets c row n (next_of c at)) h in
    apart c row n (next_of c at) both.1 j (omega arith)

-- ---- where all walks ended before the line, it closes a loop exactly where the walk from its row comes back
pub record Closing (rows : List RowData) (c : Chains) (row next : ℕ) (r : RowData) : Type 0 where
  pub room : length c.next ≡ 64
  pub few : length rows ≤ 64
  pub first : LooperFirst rows
  pub handler : row ≢ 0
  pub is : slice_get rows row ≡ Some r
  pub to : place_of rows r.next ≡ Some next
  pub kept : Kept rows row (next_of c)
  pub ends : (i : ℕ) → Ends (next_of c) i

module _ (rows : List RowData) (c : Chains) (row next : ℕ) (r : RowData) (h : Closing rows c row next r) where
  here : row < length rows
  here = slice_get_within rows row r h.is

  in_room : row < length c.next
  in_room = omega (arith, here, h.room, h.few)

  pub kept_then : Kept rows (row + 1) (next_of (led c row next))
  kept_then = kept_more rows c row next r in_room h.is h.to h.kept

  leads_then : LeadsAs (chained_to row rows) (next_of (led c row next))
  leads_then = leads_as (row + 1) rows (next_of (led c row next)) h.first kept_then

  steps : ℕ
  steps = length (led c row next).next

  loops : comes_back (led c row next) row ≡ true → chains_end (chained_to row rows) ≡ false
  loops back =
      let t : Meets (led c row next) row (length (led c row next).next) row = met (led c row next) row (length (led c row next).next) row back in
      one_goes_on (chained_to row rows) (next_of (led c row next)) leads_then row (omega (arith, here, length_chained (row + 1) rows))
      (never_ends (next_of (led c row next)) leads_then.looper t.0 row h.handler t.2)

  next_there : next < length rows
  next_there = place_within rows r.next next (omega (arith, here)) h.to

  row_ends : comes_back (led c row next) row ≡ false → Ends (next_of (led c row next)) row
  row_ends none =
      ends_from_row (next_of (led c row next)) (next_of c) row (λ i ne. led_other c row next in_room i ne) (length rows - 1)
      (λ i e.
      let at : i ≡ next = e ∙ led_here c row next in_room in
      subst (λ k. walk (next_of c) (length rows - 1) k ≡ 0) (sym at)
      (kept_within row rows (next_of c) h.first h.kept (length rows - 1) next (omega (arith, here)) next_there (h.ends next)))
      (λ j lt. apart (led c row next) row (length (led c row next).next) row none j (omega (arith, led_room c row next in_room, h.room, h.few)))

  pub ends_then : comes_back (led c row next) row ≡ false → (i : ℕ) → Ends (next_of (led c row next)) i
  ends_then none i =
      let e : Ends (next_of c) i = h.ends i in
      ends_from (next_of (led c row next)) (next_of c) row (λ k ne. led_other c row next in_room k ne) (row_ends none) e.steps i e.is

  all_end : comes_back (led c row next) row ≡ false → chains_end (chained_to row rows) ≡ true
  all_end none =
      all_chains_end (chained_to row rows) (next_of (led c row next)) leads_then (omega (arith, here, length_chained (row + 1) rows)) (ends_then none)

  closes_by : (b : Bool) → comes_back (led c row next) row ≡ b → (if b then Some refusal.ChainLoop else None) ≡ (if chains_end (chained_to row rows) then None else Some refusal.ChainLoop)
  closes_by true back = sym (ap (λ t. if t then None else Some refusal.ChainLoop) (loops back))
  closes_by false none = sym (ap (λ t. if t then None else Some refusal.ChainLoop) (all_end none))

  pub closes : (if comes_back (led c row next) row then Some refusal.ChainLoop else None) ≡ (if chains_end (chained_to row rows) then None else Some refusal.ChainLoop)
  closes = closes_by (comes_back (led c row next) row) refl
