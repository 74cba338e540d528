-- The second pass with the places kept finds the fault that the second pass finds.
use Rattle.std.proofs.Common.{◌≡◌, ◌∙◌, ℕ, zero, suc, ◌+◌, ◌<◌, ◌≤◌, Bool, true, false, ◌&&◌, eqb, if◌then◌else◌, List, [], ◌∷◌, length, replicate, Option, None, Some, is_some, slice_get, unwrap_or, refl, sym, ap, subst, ⊎_elim, arith, eqb-true}
use Rattle.std.proofs.lemmas.Bool.{and_parts, and_cases, cases_lt, cases_order, eqb-false}
use Rattle.std.proofs.lemmas.List.{length-replicate}
use Rattle.ak_base.specs.declared.ending.RefusalKind.{RefusalKind}
use Rattle.ak_base.specs.declared.ending.RefusalKind.TheVariants as refusal
use Rattle.ak_action.specs.Plan.{chains_end}
use Rattle.ak_describe.specs.declared.named.Named.{Named}
use Rattle.ak_describe.specs.declared.named.Need.{Need}
use Rattle.ak_describe.specs.declared.named.Need.TheVariants as needs
use Rattle.ak_describe.specs.declared.second.Chains.{Chains}
use Rattle.ak_describe.specs.Led.{chained, chains_after, chains_in_app, chains_in_looper, chains_of, chains_of_need, chains_with, closed, comes_back, entered, kind_in_app, kind_in_looper, kind_of, kind_of_need, led_fault, next_of}
use Rattle.ak_describe.specs.Parts.{RowData, LooperData, AppData, row_named}
use Rattle.ak_describe.specs.Pass.{Refusal, loopers_in, rows_in}
use Rattle.ak_describe.specs.Second.{chained_to, fault_in_app, fault_in_looper, fault_of, named_fault, next_fault, or_next, second_fault}
use Rattle.ak_describe.proofs.chains.Following.{Follows, NextFollows, NextHere, RowsFit, next_at, next_in, rank, rank_behind, rank_of, rows_at}
use Rattle.ak_describe.proofs.chains.FollowingMore.{IsOtherNeed}
use Rattle.ak_describe.proofs.chains.LedPlaces.{Closing, Kept, closes, ends_then, kept_then, led_room, place_of}
use Rattle.ak_describe.proofs.chains.Walks.{Ends}

-- ---- what is kept says which handlers lead where, up to a place
pub record Keeps (apps : List AppData) (c : Chains) (from : ℕ) : Type 0 where
  pub looper : c.looper < 8
  pub room : length c.next ≡ 64
  pub row : ℕ
  pub from_is : from ≡ rank c.app c.looper row
  pub row_within : row ≤ 64
  pub kept : Kept (rows_at apps c.app c.looper) row (next_of c)
  pub ends : (i : ℕ) → Ends (next_of c) i

-- ---- none kept yet
zeros : (n i : ℕ) → ◌≡◌ {A = ℕ} (unwrap_or (slice_get (replicate n 0) i) 0) 0
zeros zero i = refl
zeros (suc n) zero = refl
zeros (suc n) (suc i) = zeros n i

pub kept_none : (rows : List RowData) (f : ℕ → ℕ) → ((i : ℕ) → f i ≡ 0) → Kept rows 0 f
kept_none rows f none =
    record {
      places = λ i r at lt. absurd (omega arith);
      rest = λ i le. none i;
      past = λ i le. none i;
    }

pub ends_at_once : (f : ℕ → ℕ) → ((i : ℕ) → f i ≡ 0) → (i : ℕ) → Ends f i
ends_at_once f none i = record { steps = suc zero; is = none i }

pub keeps_none : (apps : List AppData) → Keeps apps (chains_of 0 0) 0
keeps_none apps =
    record {
      looper = omega arith;
      room = length-replicate {A = ℕ} 64 0;
      row = 0;
      from_is = omega arith;
      row_within = omega arith;
      kept = kept_none (rows_at apps 0 0) (next_of (chains_of 0 0)) (zeros 64);
      ends = ends_at_once (next_of (chains_of 0 0)) (zeros 64);
    }

-- ---- handlers without a next one are led to the looper as before
kept_on : (rows : List RowData) (m k : ℕ) (f : ℕ → ℕ) → m ≤ k → ((i : ℕ) (r : RowData) → m ≤ i → i < k → slice_get rows i ≡ Some r → r.next ≡ None) → Kept rows m f → Kept rows k f
kept_on rows m k f le none kept =
    record {
      places = λ i r at lt.
          ⊎_elim
          (λ (below : i < m). kept.places i r at below)
          (λ (over : m ≤ i). ap (place_of rows) (none i r over lt at) ∙ ap (λ (n : ℕ). Some n) (sym (kept.rest i over)))
          (cases_lt i m);
      rest = λ i over. kept.rest i (omega arith);
      past = kept.past;
    }

none_at : (apps : List AppData) (a l i : ℕ) (r : RowData) → next_at apps a l i ≡ None → slice_get (rows_at apps a l) i ≡ Some r → r.next ≡ None
none_at apps a l i r none at = sym (ap next_in at) ∙ none

-- where another looper follows, it follows whole
before_looper : (a l r b m q i : ℕ) → l < 8 → m < 8 → r ≤ 64 → q < 64 → rank a l r ≤ rank b m q → (a ≡ b → l ≡ m → ⊥) → rank a l r ≤ rank b m i
before_looper a l r b m q i la ma ra qa le apart =
    ⊎_elim
    (λ (same : a ≡ b).
    ⊎_elim
    (λ (h : l ≡ m). absurd (apart same h))
    (⊎_elim (λ (h : l < m). omega arith) (λ (h : m < l). absurd (omega arith)))
    (cases_order l m))
    (⊎_elim (λ (h : a < b). omega arith) (λ (h : b < a). absurd (omega arith)))
    (cases_order a b)

-- ---- entered at the looper of a line
pub record EnteredAt (apps : List AppData) (c : Chains) (n : Named) : Type 0 where
  pub app : c.app ≡ n.app
  pub looper : c.looper ≡ n.looper
  pub room : length c.next ≡ 64
  pub kept : Kept (rows_at apps n.app n.looper) n.row (next_of c)
  pub ends : (i : ℕ) → Ends (next_of c) i

abbrev entered_if : Bool → Chains → ℕ → ℕ → Chains
entered_if b c app looper = if b then c else chains_of app looper

module _ (apps : List AppData) (c : Chains) (from : ℕ) (n : Named) (name : List ℕ) (keeps : Keeps apps c from) (here : NextHere apps from n name) where
  same_looper : c.app ≡ n.app → c.looper ≡ n.looper → EnteredAt apps c n
  same_looper app looper =
      let le : keeps.row ≤ n.row = omega (arith, keeps.from_is, here.behind, app, looper) in
      let kept : Kept (rows_at apps n.app n.looper) keeps.row (next_of c) = subst (λ (x : ℕ × ℕ). Kept (rows_at apps x.0 x.1) keeps.row (next_of c)) (λ i. (app i, looper i)) keeps.kept in
      record {
        app = app;
        looper = looper;
        room = keeps.room;
        kept = kept_on (rows_at apps n.app n.looper) keeps.row n.row (next_of c) le
            (λ i r over below at. none_at apps n.app n.looper i r (here.gap n.app n.looper i here.looper (omega (arith, here.row)) (omega (arith, keeps.from_is, app, looper)) (omega arith)) at)
            kept;
        ends = keeps.ends;
      }

  before : (c.app ≡ n.app → c.looper ≡ n.looper → ⊥) → (i : ℕ) → from ≤ rank n.app n.looper i
  before apart i =
      subst (λ k. k ≤ rank n.app n.looper i) (sym keeps.from_is)
      (before_looper c.app c.looper keeps.row n.app n.looper n.row i keeps.looper here.looper keeps.row_within here.row (subst (λ k. k ≤ rank_of n) keeps.from_is here.behind) apart)

  other_looper : (c.app ≡ n.app → c.looper ≡ n.looper → ⊥) → EnteredAt apps (chains_of n.app n.looper) n
  other_looper apart =
      record {
        app = refl;
        looper = refl;
        room = length-replicate {A = ℕ} 64 0;
        kept = kept_on (rows_at apps n.app n.looper) 0 n.row (next_of (chains_of n.app n.looper)) (omega arith)
            (λ i r over below at. none_at apps n.app n.looper i r (here.gap n.app n.looper i here.looper (omega (arith, here.row)) (before apart i) (omega arith)) at)
            (kept_none (rows_at apps n.app n.looper) (next_of (chains_of n.app n.looper)) (zeros 64));
        ends = ends_at_once (next_of (chains_of n.app n.looper)) (zeros 64);
      }

  entered_by : (b : Bool) → (eqb c.app n.app && eqb c.looper n.looper) ≡ b → EnteredAt apps (entered_if b c n.app n.looper) n
  entered_by true e =
      let both = and_parts (eqb c.app n.app) (eqb c.looper n.looper) e in
      same_looper (eqb-true c.app n.app both.0) (eqb-true c.looper n.looper both.1)
  entered_by false e =
      other_looper (λ app looper.
      ⊎_elim (λ h. eqb-false c.app n.app h app) (λ h. eqb-false c.looper n.looper h looper) (and_cases (eqb c.app n.app) (eqb c.looper n.looper) e))

  entered_at : EnteredAt apps (entered c n.app n.looper) n
  entered_at = entered_by (eqb c.app n.app && eqb c.looper n.looper) refl

-- ---- a line with a next handler
-- both look at the looper that is there
record SeenThere (apps : List AppData) (c : Chains) (n : Named) (name : List ℕ) (o : Option AppData) (rows : List RowData) : Type 0 where
  kind : kind_in_app apps c n o ≡ closed c n (row_named rows name)
  fault : fault_in_app apps n o ≡ next_fault rows n.row name
  chains : chains_in_app c n o ≡ chained c n (row_named rows name)

seen_in_looper : (apps : List AppData) (c : Chains) (n : Named) (name : List ℕ) (a : AppData) (p : Option LooperData) → n.need ≡ needs.Next name → next_in (slice_get (rows_in p) n.row) ≡ Some name
    → (kind_in_looper apps a c n p ≡ closed c n (row_named (rows_in p) name)) × (fault_in_looper apps a n p ≡ next_fault (rows_in p) n.row name) × (chains_in_looper c n p ≡ chained c n (row_named (rows_in p) name))
seen_in_looper apps c n name a None need is = absurd cc
seen_in_looper apps c n name a (Some l) need is =
    (ap (kind_of_need apps a l c n) need, ap (fault_of apps a l n) need, ap (chains_of_need l c n) need)

seen_in_app : (apps : List AppData) (c : Chains) (n : Named) (name : List ℕ) (o : Option AppData) → n.need ≡ needs.Next name → next_in (slice_get (rows_in (slice_get (loopers_in o) n.looper)) n.row) ≡ Some name
    → SeenThere apps c n name o (rows_in (slice_get (loopers_in o) n.looper))
seen_in_app apps c n name None need is = absurd cc
seen_in_app apps c n name (Some a) need is =
    let t = seen_in_looper apps c n name a (slice_get a.loopers n.looper) need is in
    record { kind = t.0; fault = t.1; chains = t.2 }

row_there : (o : Option RowData) (name : List ℕ) → next_in o ≡ Some name → (r : RowData) × (o ≡ Some r) × (r.next ≡ Some name)
row_there None name is = absurd cc
row_there (Some r) name is = (r, refl, is)

-- what is found, and what is kept then
record Steps (apps : List AppData) (c : Chains) (from : ℕ) (n : Named) (need : Need) : Type 0 where
  same : kind_of apps c n ≡ named_fault apps n
  then_kept : kind_of apps c n ≡ None → Keeps apps (chains_after apps c n) (rank_behind from n need)

shown : (b : Bool) → (if b then Some refusal.ChainLoop else None) ≡ None → b ≡ false
shown true e = absurd cc
shown false e = refl

module _ (apps : List AppData) (fits : RowsFit apps) (c : Chains) (from : ℕ) (n : Named) (name : List ℕ) (keeps : Keeps apps c from) (here : NextHere apps from n name) where
  closing : (next : ℕ) (r : RowData) → slice_get (rows_at apps n.app n.looper) n.row ≡ Some r → r.next ≡ Some name → row_named (rows_at apps n.app n.looper) name ≡ Some next
      → Closing (rows_at apps n.app n.looper) (entered c n.app n.looper) n.row next r
  closing next r is has to =
      let e = entered_at apps c from n name keeps here in
      record {
        room = e.room;
        few = fits.few n.app n.looper;
        first = fits.first n.app n.looper;
        handler = λ z. let none : r.next ≡ None = fits.first n.app n.looper r (sym (ap (slice_get (rows_at apps n.app n.looper)) z) ∙ is) in absurd (cc (none, has));
        is = is;
        to = ap (place_of (rows_at apps n.app n.looper)) has ∙ to;
        kept = e.kept;
        ends = e.ends;
      }

  keeps_then : (next : ℕ) (r : RowData) → Closing (rows_at apps n.app n.looper) (entered c n.app n.looper) n.row next r → comes_back (chains_with c n next) n.row ≡ false
      → Keeps apps (chains_with c n next) (rank_of n + 1)
  keeps_then next r h none =
      let e = entered_at apps c from n name keeps here in
      let app : (chains_with c n next).app ≡ n.app = e.app in
      let looper : (chains_with c n next).looper ≡ n.looper = e.looper in
      let kept : Kept (rows_at apps n.app n.looper) (n.row + 1) (next_of (chains_with c n next)) = kept_then (rows_at apps n.app n.looper) (entered c n.app n.looper) n.row next r h in
      record {
        looper = subst (λ k. k < 8) (sym looper) here.looper;
        room = ap length refl ∙ led_room (entered c n.app n.looper) n.row next (subst (λ k. n.row < k) (sym e.room) here.row) ∙ e.room;
        row = n.row + 1;
        from_is = ap (λ (x : ℕ × ℕ). rank x.0 x.1 n.row + 1) (λ i. (sym app i, sym looper i)) ∙ added (chains_with c n next).app (chains_with c n next).looper n.row;
        row_within = omega (arith, here.row);
        kept = subst (λ (x : ℕ × ℕ). Kept (rows_at apps x.0 x.1) (n.row + 1) (next_of (chains_with c n next))) (λ i. (sym app i, sym looper i)) kept;
        ends = ends_then (rows_at apps n.app n.looper) (entered c n.app n.looper) n.row next r h none;
      }
    where
      added : (a l i : ℕ) → rank a l i + 1 ≡ rank a l (i + 1)
      added a l i = omega arith

  next_step : (o : Option ℕ) (r : RowData) → slice_get (rows_at apps n.app n.looper) n.row ≡ Some r → r.next ≡ Some name → row_named (rows_at apps n.app n.looper) name ≡ o
      → (closed c n o ≡ next_fault (rows_at apps n.app n.looper) n.row name) × (closed c n o ≡ None → Keeps apps (chained c n o) (rank_of n + 1))
  next_step None r is has to =
      (sym (ap (λ (q : Option ℕ). if is_some q then (if chains_end (chained_to n.row (rows_at apps n.app n.looper)) then None else Some refusal.ChainLoop) else Some refusal.UnknownName) to), λ e. absurd cc)
  next_step (Some next) r is has to =
      let h = closing next r is has to in (
        closes (rows_at apps n.app n.looper) (entered c n.app n.looper) n.row next r h
            ∙ sym (ap (λ (q : Option ℕ). if is_some q then (if chains_end (chained_to n.row (rows_at apps n.app n.looper)) then None else Some refusal.ChainLoop) else Some refusal.UnknownName) to),
        λ e. keeps_then next r h (shown (comes_back (chains_with c n next) n.row) e),
      )

  next_line : n.need ≡ needs.Next name → Steps apps c from n (needs.Next name)
  next_line need =
      let s = seen_in_app apps c n name (slice_get apps n.app) need here.here in
      let t = row_there (slice_get (rows_at apps n.app n.looper) n.row) name here.here in
      let found = next_step (row_named (rows_at apps n.app n.looper) name) t.0 t.1 t.2 refl in
      record {
        same = s.kind ∙ found.0 ∙ sym s.fault;
        then_kept = λ none. subst (λ (x : Chains). Keeps apps x (rank_of n + 1)) (sym s.chains) (found.1 (sym s.kind ∙ none));
      }

-- ---- another line
same_need : (apps : List AppData) (a : AppData) (l : LooperData) (c : Chains) (n : Named) (need : Need) → IsOtherNeed need → (kind_of_need apps a l c n need ≡ fault_of apps a l n need) × (chains_of_need l c n need ≡ c)
same_need apps a l c n (needs.Next name) h = absurd h
same_need apps a l c n (needs.Handler name) h = (refl, refl)
same_need apps a l c n (needs.Looper name) h = (refl, refl)
same_need apps a l c n (needs.AskLooper name) h = (refl, refl)
same_need apps a l c n (needs.AskApp word) h = (refl, refl)

same_in_looper : (apps : List AppData) (a : AppData) (c : Chains) (n : Named) (p : Option LooperData) → IsOtherNeed n.need → (kind_in_looper apps a c n p ≡ fault_in_looper apps a n p) × (chains_in_looper c n p ≡ c)
same_in_looper apps a c n None h = (refl, refl)
same_in_looper apps a c n (Some l) h = same_need apps a l c n n.need h

same_in_app : (apps : List AppData) (c : Chains) (n : Named) (o : Option AppData) → IsOtherNeed n.need → (kind_in_app apps c n o ≡ fault_in_app apps n o) × (chains_in_app c n o ≡ c)
same_in_app apps c n None h = (refl, refl)
same_in_app apps c n (Some a) h = same_in_looper apps a c n (slice_get a.loopers n.looper) h

other_line : (apps : List AppData) (c : Chains) (from : ℕ) (n : Named) (need : Need) → rank_behind from n need ≡ from → IsOtherNeed n.need → Keeps apps c from → Steps apps c from n need
other_line apps c from n need at h keeps =
    let s = same_in_app apps c n (slice_get apps n.app) h in
    record {
      same = s.0;
      then_kept = λ none. subst (λ (x : Chains × ℕ). Keeps apps x.0 x.1) (λ i. (sym s.1 i, sym at i)) keeps;
    }

step : (apps : List AppData) → RowsFit apps → (c : Chains) (from : ℕ) (n : Named) (need : Need) → n.need ≡ need → Keeps apps c from → NextFollows apps from n need → Steps apps c from n need
step apps fits c from n (needs.Next name) e keeps here = next_line apps fits c from n name keeps here e
step apps fits c from n (needs.Handler name) e keeps here = other_line apps c from n (needs.Handler name) refl (subst IsOtherNeed (sym e) tt) keeps
step apps fits c from n (needs.Looper name) e keeps here = other_line apps c from n (needs.Looper name) refl (subst IsOtherNeed (sym e) tt) keeps
step apps fits c from n (needs.AskLooper name) e keeps here = other_line apps c from n (needs.AskLooper name) refl (subst IsOtherNeed (sym e) tt) keeps
step apps fits c from n (needs.AskApp word) e keeps here = other_line apps c from n (needs.AskApp word) refl (subst IsOtherNeed (sym e) tt) keeps

-- ---- all names
or_next_same : (kind : Option RefusalKind) (line : ℕ) (x y : Option Refusal) → (kind ≡ None → x ≡ y) → or_next kind line x ≡ or_next kind line y
or_next_same None line x y h = h refl
or_next_same (Some kind) line x y h = refl

pub led_names : (apps : List AppData) → RowsFit apps → (names : List Named) (c : Chains) (from : ℕ) → Keeps apps c from → Follows apps from names → led_fault apps c names ≡ second_fault apps names
unfolding led_fault second_fault
led_names apps fits [] c from keeps follows = refl
led_names apps fits (n ∷ names) c from keeps follows =
    let s = step apps fits c from n n.need refl keeps follows.0 in
    or_next_same (kind_of apps c n) n.line (led_fault apps (chains_after apps c n) names) (second_fault apps names)
    (λ none. led_names apps fits names (chains_after apps c n) (rank_behind from n n.need) (s.then_kept none) follows.1)
    ∙ ap (λ kind. or_next kind n.line (second_fault apps names)) s.same
