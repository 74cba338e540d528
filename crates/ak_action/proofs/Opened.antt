-- The handlers that a plan opens are handlers of a looper: their tokens are their places.
use Rattle.std.proofs.Common.{◌≡◌, ◌≢◌, ◌∙◌, ℕ, zero, suc, ◌+◌, ◌<◌, ◌≤◌, ◌==◌, Bool, true, false, cond, List, [], ◌∷◌, ◌++◌, length, get_or, All, AllPairs, Option, None, Some, IfSome, is_none, nat_le, option_map, option_and_then, bytes_eq, slice_get, refl, sym, ap, subst, ⊎_elim, eq-eqb, ne_eqb, arith}
use Rattle.std.proofs.lemmas.Bool.{and_parts, leb-true, cases_eq, cond-true, cond-false, cond_both}
use Rattle.std.proofs.lemmas.List.{get_or-map, length-map}
use Rattle.std.proofs.lemmas.List.Elements.{All-weaker}
use Rattle.ak_base.specs.Word.{is_word}
use Rattle.ak_handler.specs.Changes.{from_rows, numbered_rows}
use Rattle.ak_handler.specs.Handlers.{HandlerData, BeginsWithLooper, IsHandlers, IsThere, after_steps, handler_of, next_in}
use Rattle.ak_base.proofs.Surface.{position-within, none_is}
use Rattle.ak_action.specs.declared.plan.PlanParts.{PlanParts}
use Rattle.ak_action.specs.declared.plan.PlanRow.{PlanRow}
use Rattle.ak_action.specs.declared.row.DeskRow.{DeskRow}
use Rattle.ak_action.specs.Opening.{described_from, described_rows, opening_handlers, row_of_plan}
use Rattle.ak_action.specs.OpeningInside.{described_row, described_with, nexts_from}
use Rattle.ak_action.specs.Plan.{IsPlan, chains_end_below, fits_table, may_be, next_place, place_after, place_named, place_or_looper}
use Rattle.ak_action.specs.Whole.{IsNamed, IsWholeTable, PlansAreWhole}
use Rattle.ak_action.proofs.Tested.{All-list_all, Tests, looper_is, named, names_apart, no_row, table_whole, tests_passed}

-- ---- the handlers from a place on
module _ (all : List PlanRow) where
  abbrev pub opened_from : ℕ → List PlanRow → List (HandlerData DeskRow)
  opened_from place rows = numbered_rows place (described_from all place rows)

  abbrev pub opened_at : ℕ → PlanRow → HandlerData DeskRow
  opened_at place row = record { token = place; name = row.name; next = next_place all place; content = row_of_plan row }

  pub length-described : (place : ℕ) (rows : List PlanRow) → length (described_from all place rows) ≡ length rows
  length-described place [] = refl
  length-described place (row ∷ rows) = ap suc (length-described (place + 1) rows)

  pub length-opened : (place : ℕ) (rows : List PlanRow) → length (opened_from place rows) ≡ length rows
  length-opened place [] = refl
  length-opened place (row ∷ rows) = ap suc (length-opened (place + 1) rows)

  pub get_opened : (place : ℕ) (rows : List PlanRow) (k : ℕ) (d : HandlerData DeskRow) (r : PlanRow) → k < length rows → get_or (opened_from place rows) k d ≡ opened_at (place + k) (get_or rows k r)
  get_opened place [] k d r lt = absurd (omega arith)
  get_opened place (row ∷ rows) zero d r lt = let e : place ≡ place + zero = omega arith in ap (λ n. opened_at n row) e
  get_opened place (row ∷ rows) (suc k) d r lt =
      let e : place + 1 + k ≡ place + suc k = omega arith in
      get_opened (place + 1) rows k d r (omega arith) ∙ ap (λ n. opened_at n (get_or rows k r)) e

  pub handler_opened : (place : ℕ) (rows : List PlanRow) (k token : ℕ) → token ≡ place + k → handler_of (opened_from place rows) token ≡ option_map (opened_at token) (slice_get rows k)
  handler_opened place [] k token e = refl
  handler_opened place (row ∷ rows) zero token e =
      let same : place ≡ token = omega arith in
      cond-true (place == token) _ _ (eq-eqb place token same) ∙ ap (λ n. Some (opened_at n row)) same
  handler_opened place (row ∷ rows) (suc k) token e =
      cond-false (place == token) _ _ (ne_eqb place token (λ same. absurd (omega arith))) ∙ handler_opened (place + 1) rows k token (omega arith)

-- ---- chains
module _ (rows : List PlanRow) where
  abbrev pub opened : List (HandlerData DeskRow)
  opened = opened_from rows 0 rows

  none_both : (b : Bool) (next : Option ℕ) → next ≡ None → cond b None next ≡ None
  none_both true next e = refl
  none_both false next e = e

  next_by : (token : ℕ) (o : Option PlanRow) → slice_get rows token ≡ o → option_and_then (λ h. h.next) (option_map (opened_at rows token) o) ≡ next_place rows token
  next_by token (Some row) e = refl
  next_by token None e =
      sym (none_both (token == 0) (option_and_then (λ row. place_or_looper rows row.next) (slice_get rows token)) (ap (option_and_then (λ row. place_or_looper rows row.next)) e))

  pub next_opened : (token : ℕ) → next_in opened token ≡ next_place rows token
  next_opened token =
      ap (option_and_then (λ h. h.next)) (handler_opened rows 0 rows token token (omega arith)) ∙ next_by token (slice_get rows token) refl

  pub after_opened : (n : ℕ) (at : Option ℕ) → after_steps opened n at ≡ place_after rows n at
  after_opened zero at = refl
  after_opened (suc n) None = after_opened n None
  after_opened (suc n) (Some token) = after_opened n (next_in opened token) ∙ ap (place_after rows n) (next_opened token)

  below_ends : (n k : ℕ) → chains_end_below rows n ≡ true → k < n → place_after rows (length rows) (Some k) ≡ None
  below_ends zero k e lt = absurd (omega arith)
  below_ends (suc n) k e lt =
      let both = and_parts (chains_end_below rows n) (is_none (place_after rows (length rows) (Some n))) e in
      ⊎_elim
      (λ same. subst (λ j. place_after rows (length rows) (Some j) ≡ None) (sym same) (none_is _ both.1))
      (λ other. below_ends n k both.0 (omega arith))
      (cases_eq k n)

  -- ---- who is there
  default : HandlerData DeskRow
  default = opened_at rows 0 no_row

  pub there : (at : Option ℕ) → IfSome at (λ place. place < length rows) → IsThere opened at
  there None h = tt
  there (Some place) lt =
      let within : place < length opened = omega (arith, length-opened rows 0 rows) in
      let is = ap (λ h. h.token) (get_opened rows 0 rows place default no_row lt) in
      let sum : 0 + place ≡ place = omega arith in
      (place, omega (arith, length-map opened (λ h. h.token)), get_or-map (λ h. h.token) opened place default place within ∙ is ∙ sum)

  named_within : (name : Option (List ℕ)) → 0 < length rows → IfSome (place_or_looper rows name) (λ place. place < length rows)
  named_within None some = some
  named_within (Some name) some = position-within (λ row. bytes_eq row.name name) rows

  next_within_by : (o : Option PlanRow) → 0 < length rows → IfSome (option_and_then (λ row. place_or_looper rows row.next) o) (λ place. place < length rows)
  next_within_by None some = tt
  next_within_by (Some row) some = named_within row.next some

  next_within : (place : ℕ) → 0 < length rows → IfSome (next_place rows place) (λ next. next < length rows)
  next_within place some =
      cond_both (place == 0) None (option_and_then (λ row. place_or_looper rows row.next) (slice_get rows place)) (λ o. IfSome o (λ next. next < length rows)) (λ _. tt) (λ _. next_within_by (slice_get rows place) some)

  preferred_within : (name : Option (List ℕ)) → IfSome (option_and_then (place_named rows) name) (λ place. place < length rows)
  preferred_within None = tt
  preferred_within (Some name) = position-within (λ row. bytes_eq row.name name) rows

  opened_is : (k : ℕ) (d : HandlerData DeskRow) → k < length opened → get_or opened k d ≡ opened_at rows k (get_or rows k no_row)
  opened_is k d lt =
      let sum : 0 + k ≡ k = omega arith in
      get_opened rows 0 rows k d no_row (omega (arith, length-opened rows 0 rows)) ∙ ap (λ n. opened_at rows n (get_or rows k no_row)) sum

  each : (P : HandlerData DeskRow → Type 0) → ((k : ℕ) → k < length rows → P (opened_at rows k (get_or rows k no_row))) → All P opened
  each P h k d lt = subst P (sym (opened_is k d lt)) (h k (omega (arith, length-opened rows 0 rows)))

  token_is : (k : ℕ) (d : HandlerData DeskRow) → k < length opened → (get_or opened k d).token ≡ k
  token_is k d lt = ap (λ h. h.token) (opened_is k d lt)

  tokens_below : All (λ h. h.token < length (described_from rows 0 rows)) opened
  tokens_below k d lt = omega (arith, token_is k d lt, length-described rows 0 rows, length-opened rows 0 rows)

  tokens_rise : AllPairs (λ a b. a.token < b.token) opened
  tokens_rise i j d lt within = omega (arith, token_is i d (omega arith), token_is j d within)

  names_apart-opened : AllPairs (λ a b. a.name ≢ b.name) rows → AllPairs (λ a b. a.name ≢ b.name) opened
  names_apart-opened apart i j d lt within same =
      apart i j no_row lt (omega (arith, length-opened rows 0 rows))
      (sym (ap (λ h. h.name) (opened_is i d (omega arith))) ∙ same ∙ ap (λ h. h.name) (opened_is j d within))

  ends : chains_end_below rows (length rows) ≡ true → All (λ h. after_steps opened (length opened) (Some h.token) ≡ None) opened
  ends e =
      each (λ h. after_steps opened (length opened) (Some h.token) ≡ None)
      (λ k lt. after_opened (length opened) (Some k) ∙ ap (λ n. place_after rows n (Some k)) (length-opened rows 0 rows) ∙ below_ends (length rows) k e lt)

begins : (rows : List PlanRow) → 1 ≤ length rows → BeginsWithLooper (opened rows)
begins [] some = absurd (omega arith)
begins (row ∷ rows) some = (refl, refl)

pub handlers_open : (parts : PlanParts) → Tests parts → IsHandlers (opening_handlers parts)
handlers_open parts t =
    let some = (looper_is parts.rows parts.name t.looper).1 in
    let few : length parts.rows ≤ 64 = leb-true _ _ t.limit in
    record {
      looper = begins parts.rows some;
      limit = omega (arith, few, length-opened parts.rows 0 parts.rows);
      tokens_rise = tokens_rise parts.rows;
      tokens_below = tokens_below parts.rows;
      next_token = omega (arith, few, length-described parts.rows 0 parts.rows);
      names_differ = names_apart-opened parts.rows (names_apart parts.rows t.differ);
      next_is_there = each parts.rows (λ h. IsThere (opened parts.rows) h.next) (λ k lt. there parts.rows (next_place parts.rows k) (next_within parts.rows k some));
      preferred_is_there = there parts.rows _ (preferred_within parts.rows parts.preferred);
      chains_end = ends parts.rows t.chains;
    }

pub plans_are_whole-proof : PlansAreWhole
plans_are_whole-proof parts e =
    let t = tests_passed parts e in
    let looper = looper_is parts.rows parts.name t.looper in
    let capacity = and_parts _ _ t.capacity in
    let named_all = and_parts _ _ t.there in
    record {
      looper_first = looper.0;
      some_handler = looper.1;
      few_handlers = leb-true _ _ t.limit;
      capacity_least = leb-true _ _ capacity.0;
      capacity_most = leb-true _ _ capacity.1;
      names_are_words = All-list_all (λ row. is_word row.name) parts.rows t.words;
      names_differ = names_apart parts.rows t.differ;
      next_is_there =
          All-weaker (λ row. may_be parts.rows row.next ≡ true) (λ row. IsNamed parts.rows row.next) (λ row. named parts.rows row.next) parts.rows
          (All-list_all (λ row. may_be parts.rows row.next) parts.rows named_all.0);
      preferred_is_there = named parts.rows parts.preferred named_all.1;
      handlers_open = handlers_open parts t;
      few_suites =
          All-weaker (λ row. nat_le (length row.suites) 16 ≡ true) (λ row. length row.suites ≤ 16) (λ row. leb-true (length row.suites) 16) parts.rows
          (All-list_all (λ row. nat_le (length row.suites) 16) parts.rows t.suites);
      tables_are_whole =
          All-weaker (λ row. fits_table row ≡ true) IsWholeTable table_whole parts.rows (All-list_all fits_table parts.rows t.tables);
    }

-- ---- how they are made
pub nexts_from-more : (all : List PlanRow) (place n : ℕ) → nexts_from all place (n + 1) ≡ nexts_from all place n ++ next_place all (place + n) ∷ []
nexts_from-more all place zero =
    let one : zero + 1 ≡ suc zero = omega arith in
    let same : place ≡ place + zero = omega arith in
    ap (nexts_from all place) one ∙ ap (λ k. next_place all k ∷ []) same
nexts_from-more all place (suc n) =
    let more : suc n + 1 ≡ suc (n + 1) = omega arith in
    let same : place + 1 + n ≡ place + suc n = omega arith in
    ap (nexts_from all place) more
    ∙ ap (λ rest. next_place all place ∷ rest) (nexts_from-more all (place + 1) n ∙ ap (λ k. nexts_from all (place + 1) n ++ next_place all k ∷ []) same)

described_from-with : (all : List PlanRow) (place : ℕ) (rows : List PlanRow) → described_with rows (nexts_from all place (length rows)) ≡ described_from all place rows
described_from-with all place [] = refl
described_from-with all place (row ∷ rows) =
    ap (λ rest. described_row row (next_place all place) ∷ rest) (described_from-with all (place + 1) rows)

pub described_rows-with : (rows : List PlanRow) → described_with rows (nexts_from rows 0 (length rows)) ≡ described_rows rows
described_rows-with rows = described_from-with rows 0 rows

pub two_differ : (a b : List ℕ) → a ≢ b → AllPairs (λ x y. x ≢ y) (a ∷ b ∷ [])
two_differ a b ne zero zero d lt within = absurd (omega arith)
two_differ a b ne zero (suc zero) d lt within = ne
two_differ a b ne zero (suc (suc j)) d lt within = absurd (omega arith)
two_differ a b ne (suc i) zero d lt within = absurd (omega arith)
two_differ a b ne (suc i) (suc zero) d lt within = absurd (omega arith)
two_differ a b ne (suc i) (suc (suc j)) d lt within = absurd (omega arith)

-- ---- the opening handlers as they are made
module _ (parts : PlanParts) (nexts : List (Option ℕ)) (rows : List (List ℕ × Option ℕ × DeskRow)) (preferred : Option ℕ) where
  pub record AreMade : Type 0 where
    pub nexts_are : nexts ≡ nexts_from parts.rows 0 (length parts.rows)
    pub rows_are : rows ≡ described_with parts.rows nexts
    pub preferred_is : preferred ≡ option_and_then (place_named parts.rows) parts.preferred

  pub made_open : AreMade → from_rows rows preferred ≡ opening_handlers parts
  made_open m =
      let described = m.rows_are ∙ ap (described_with parts.rows) m.nexts_are ∙ described_rows-with parts.rows in
      λ i. from_rows (described i) (m.preferred_is i)

  pub made_handlers : IsPlan parts → AreMade → IsHandlers (from_rows rows preferred)
  made_handlers h m = subst IsHandlers (sym (made_open m)) (handlers_open parts (tests_passed parts h))

pub first_more : (all : List PlanRow) (n : ℕ) → nexts_from all 0 (n + 1) ≡ nexts_from all 0 n ++ next_place all n ∷ []
first_more all n =
    let same : 0 + n ≡ n = omega arith in
    nexts_from-more all 0 n ∙ ap (λ k. nexts_from all 0 n ++ next_place all k ∷ []) same
