-- The names that may be given later stand in the order of their lines, and each next handler is among them.
use Rattle.std.proofs.Common.{◌≡◌, ◌⊎◌, true, ℕ, zero, suc, ◌+◌, ◌-◌, ◌<◌, ◌≤◌, List, [], ◌∷◌, ◌++◌, length, Option, Some, None, option_map, slice_get, refl, sym, ap, subst, ◌∙◌, ⊎_elim, inl, inr, arith}
use Rattle.std.proofs.lemmas.List.{length_push}
use Rattle.std.proofs.lemmas.Option.{slice_get_within}
use Rattle.ak_base.specs.declared.limited.Limited.{Limited}
use Rattle.ak_action.specs.declared.action.Action.{Action}
use Rattle.ak_describe.specs.declared.form.heads.AppForm.{AppForm}
use Rattle.ak_describe.specs.declared.form.heads.LooperForm.{LooperForm}
use Rattle.ak_describe.specs.declared.keyword.After.TheVariants as following
use Rattle.ak_describe.specs.declared.keyword.Keyword.{Keyword}
use Rattle.ak_describe.specs.declared.keyword.Keyword.TheVariants as key
use Rattle.ak_describe.specs.declared.named.Named.{Named}
use Rattle.ak_describe.specs.declared.named.Need.{Need}
use Rattle.ak_describe.specs.declared.named.Need.TheVariants as needs
use Rattle.ak_describe.specs.Parts.{RowData, LooperData, AppData, opened}
use Rattle.ak_describe.specs.Pass.{State, last_item, loopers_in, open_looper, rows_in, new_app, new_looper, new_name, with_need, new_property, new_reaction}
use Rattle.ak_describe.specs.Says.{Form, says_app, says_looper, says_hook, says_prefer, says_common, says_handler, says_next, says_suite, says_filter, says_property, says_element, says_on, says_action, MayStand, Says, with_changed, in_app, in_looper, in_row, usage_of, element_added, action_added, with_form, names_in}
use Rattle.ak_describe.proofs.chains.Following.{next_in}
use Rattle.ak_describe.proofs.ground.Ends.{some_there, last_there, last_within, length_changed, changed_get, push_cases, get_before, get_push}
use Rattle.ak_describe.proofs.lines.Keeping.{loopers_changed, loopers_with, open_with}
use Rattle.ak_describe.proofs.lines.Standing.{StateFits, is_open_after, fits_at, opened_parts}

-- ---- how many there are of what is open
abbrev looper_count : List AppData → ℕ
looper_count apps = length (loopers_in (last_item apps))

abbrev row_count : List AppData → ℕ
row_count apps = length (rows_in (open_looper apps))

pub record Counted (apps : List AppData) : Type 0 where
  pub some_app : 1 ≤ length apps
  pub some_looper : 1 ≤ looper_count apps
  pub some_row : 1 ≤ row_count apps

-- a name stands no later than what is open
pub record IsUpTo (apps : List AppData) (n : Named) : Type 0 where
  pub app : n.app + 1 ≤ length apps
  pub looper : n.app + 1 ≡ length apps → n.looper + 1 ≤ looper_count apps
  pub row : n.app + 1 ≡ length apps → n.looper + 1 ≡ looper_count apps → n.row + 1 ≤ row_count apps

-- what a line adds stands behind
pub data Grows (apps left : List AppData) : Type 0 where
  by_app : length left ≡ length apps + 1 → Grows apps left
  by_looper : length left ≡ length apps → looper_count left ≡ looper_count apps + 1 → Grows apps left
  by_row : length left ≡ length apps → looper_count left ≡ looper_count apps → row_count apps ≤ row_count left → Grows apps left

up_to_then : (apps left : List AppData) (n : Named) → Grows apps left → IsUpTo apps n → IsUpTo left n
up_to_then apps left n (by_app e) h =
    record { app = omega (arith, e, h.app); looper = λ same. absurd (omega (arith, e, h.app, same)); row = λ same other. absurd (omega (arith, e, h.app, same)) }
up_to_then apps left n (by_looper e f) h =
    record {
      app = omega (arith, e, h.app);
      looper = λ same. let was = h.looper (same ∙ e) in omega (arith, f, was);
      row = λ same other. let was = h.looper (same ∙ e) in absurd (omega (arith, f, was, other));
    }
up_to_then apps left n (by_row e f g) h =
    record {
      app = omega (arith, e, h.app);
      looper = λ same. let was = h.looper (same ∙ e) in omega (arith, f, was);
      row = λ same other. let was = h.row (same ∙ e) (other ∙ f) in omega (arith, g, was);
    }

new_up_to : (left : List AppData) (line : ℕ) (need : Need) → Counted left → IsUpTo left (new_name left line need)
new_up_to left line need c =
    record { app = omega (arith, c.some_app); looper = λ same. omega (arith, c.some_looper); row = λ same other. omega (arith, c.some_row) }

-- ---- the next handlers that lines give
abbrev RowNext : LooperData → ℕ → List ℕ → Type 0
RowNext l p name = (r : RowData) × (slice_get l.rows p ≡ Some r) × (r.next ≡ Some name)

abbrev LooperNext : AppData → ℕ → ℕ → List ℕ → Type 0
LooperNext a j p name = (l : LooperData) × (slice_get a.loopers j ≡ Some l) × RowNext l p name

abbrev pub NextAt : List AppData → ℕ → ℕ → ℕ → List ℕ → Type 0
NextAt apps i j p name = (a : AppData) × (slice_get apps i ≡ Some a) × LooperNext a j p name

-- the name of a next handler is given there
pub record IsNamedAt (names : List Named) (i j p : ℕ) : Type 0 where
  pub place : ℕ
  pub named : Named
  pub is_at : slice_get names place ≡ Some named
  pub app : named.app ≡ i
  pub looper : named.looper ≡ j
  pub row : named.row ≡ p
  pub name : List ℕ
  pub need : named.need ≡ needs.Next name

pub record NamesFit (apps : List AppData) (names : List Named) : Type 0 where
  pub up_to : (k : ℕ) (n : Named) → slice_get names k ≡ Some n → IsUpTo apps n
  pub in_order : (j k : ℕ) (m n : Named) → j < k → slice_get names j ≡ Some m → slice_get names k ≡ Some n → m.app ≡ n.app → m.looper ≡ n.looper → m.row ≤ n.row
  pub next_named : (i j p : ℕ) (name : List ℕ) → NextAt apps i j p name → IsNamedAt names i j p

pub nothing_named : NamesFit [] []
nothing_named = record { up_to = λ k n e. absurd cc; in_order = λ j k m n lt e f same other. absurd cc; next_named = λ i j p name h. absurd (let e = h.1 in cc) }

-- ---- a line without a name, and one with a name
names_same : (apps left : List AppData) (names : List Named) → NamesFit apps names → Grows apps left → ((i j p : ℕ) (name : List ℕ) → NextAt left i j p name → NextAt apps i j p name) → NamesFit left names
names_same apps left names h grows back =
    record {
      up_to = λ k n e. up_to_then apps left n grows (h.up_to k n e);
      in_order = h.in_order;
      next_named = λ i j p name at. h.next_named i j p name (back i j p name at);
    }

pub record IsNewNext (left : List AppData) (i j p : ℕ) (need : Need) : Type 0 where
  pub app : i + 1 ≡ length left
  pub looper : j + 1 ≡ looper_count left
  pub row : p + 1 ≡ row_count left
  pub name : List ℕ
  pub is_next : need ≡ needs.Next name

module _ (apps left : List AppData) (names : List Named) (h : NamesFit apps names) (grows : Grows apps left) (c : Counted left) (line : ℕ) (need : Need) where
  abbrev new : Named
  new = new_name left line need

  abbrev more : List Named
  more = names ++ new ∷ []

  more_up_to : (k : ℕ) (n : Named) → (slice_get names k ≡ Some n) ⊎ ((k ≡ length names) × (new ≡ n)) → IsUpTo left n
  more_up_to k n (inl e) = up_to_then apps left n grows (h.up_to k n e)
  more_up_to k n (inr (_, e)) = subst (IsUpTo left) e (new_up_to left line need c)

  more_in_order : (j k : ℕ) (m n : Named) → j < k → (slice_get names j ≡ Some m) ⊎ ((j ≡ length names) × (new ≡ m)) → (slice_get names k ≡ Some n) ⊎ ((k ≡ length names) × (new ≡ n)) → m.app ≡ n.app → m.looper ≡ n.looper → m.row ≤ n.row
  more_in_order j k m n lt (inl e) (inl f) same other = h.in_order j k m n lt e f same other
  more_in_order j k m n lt (inl e) (inr (_, f)) same other =
      let was = up_to_then apps left m grows (h.up_to j m e) in
      let here : m.app + 1 ≡ length left = omega (arith, same, ap (λ (x : Named). x.app) f, c.some_app) in
      let there : m.looper + 1 ≡ looper_count left = omega (arith, other, ap (λ (x : Named). x.looper) f, c.some_looper) in
      omega (arith, was.row here there, ap (λ (x : Named). x.row) f, c.some_row)
  more_in_order j k m n lt (inr (e, _)) (inl f) same other = absurd (omega (arith, e, lt, slice_get_within names k n f))
  more_in_order j k m n lt (inr (e, _)) (inr (f, _)) same other = absurd (omega (arith, e, f, lt))

  named_before : (i j p : ℕ) → IsNamedAt names i j p → IsNamedAt more i j p
  named_before i j p at =
      record {
        place = at.place;
        named = at.named;
        is_at = get_before names new at.place at.named at.is_at;
        app = at.app;
        looper = at.looper;
        row = at.row;
        name = at.name;
        need = at.need;
      }

  named_now : (i j p : ℕ) → IsNewNext left i j p need → IsNamedAt more i j p
  named_now i j p is =
      record {
        place = length names;
        named = new;
        is_at = get_push names new;
        app = omega (arith, is.app);
        looper = omega (arith, is.looper);
        row = omega (arith, is.row);
        name = is.name;
        need = is.is_next;
      }

  names_more : ((i j p : ℕ) (name : List ℕ) → NextAt left i j p name → NextAt apps i j p name ⊎ IsNewNext left i j p need) → NamesFit left more
  names_more back =
      record {
        up_to = λ k n e. more_up_to k n (push_cases names new k n e);
        in_order = λ j k m n lt e f same other. more_in_order j k m n lt (push_cases names new j m e) (push_cases names new k n f) same other;
        next_named = λ i j p name at. ⊎_elim (λ was. named_before i j p (h.next_named i j p name was)) (λ is. named_now i j p is) (back i j p name at);
      }

with_names : (apps left : List AppData) (names : List Named) (line : ℕ) (need : Option Need) → NamesFit apps names → Grows apps left → Counted left → ((i j p : ℕ) (name : List ℕ) → NextAt left i j p name → NextAt apps i j p name) → NamesFit left (with_need names left line need)
with_names apps left names line None h grows c back = names_same apps left names h grows back
with_names apps left names line (Some need) h grows c back = names_more apps left names h grows c line need (λ i j p name at. inl (back i j p name at))

-- ---- what stands at a place of a list that a line changes
module _ {A : Type 0} (P : A → Type 0) where
  changed_by : (change : A → A) (xs : List A) (i : ℕ) (y : A) → P y → (slice_get xs i ≡ Some y) ⊎ ((x : A) × (i + 1 ≡ length xs) × (slice_get xs i ≡ Some x) × (y ≡ change x))
      → ((x : A) × (slice_get xs i ≡ Some x) × P x) ⊎ ((x : A) × (i + 1 ≡ length xs) × (slice_get xs i ≡ Some x) × P (change x))
  changed_by change xs i y h (inl e) = inl (y, e, h)
  changed_by change xs i y h (inr (x, last, is, e)) = inr (x, last, is, subst P e h)

  at_changed : (change : A → A) (xs : List A) (i : ℕ) → (y : A) × (slice_get (with_changed change xs) i ≡ Some y) × P y
      → ((x : A) × (slice_get xs i ≡ Some x) × P x) ⊎ ((x : A) × (i + 1 ≡ length xs) × (slice_get xs i ≡ Some x) × P (change x))
  at_changed change xs i h = changed_by change xs i h.0 h.2 (changed_get change xs i h.0 h.1)

  pushed_by : (xs : List A) (y x : A) (i : ℕ) → P x → (slice_get xs i ≡ Some x) ⊎ ((i ≡ length xs) × (y ≡ x)) → ((z : A) × (slice_get xs i ≡ Some z) × P z) ⊎ P y
  pushed_by xs y x i h (inl e) = inl (x, e, h)
  pushed_by xs y x i h (inr (_, e)) = inr (subst P (sym e) h)

  at_pushed : (xs : List A) (y : A) (i : ℕ) → (x : A) × (slice_get (xs ++ y ∷ []) i ≡ Some x) × P x → ((x : A) × (slice_get xs i ≡ Some x) × P x) ⊎ P y
  at_pushed xs y i h = pushed_by xs y h.0 i h.2 (push_cases xs y i h.0 h.1)

-- ---- in the last looper
module _ (change : LooperData → LooperData) (New : LooperData → ℕ → Type 0) (back : (l : LooperData) (p : ℕ) (name : List ℕ) → RowNext (change l) p name → RowNext l p name ⊎ New l p) where
  abbrev IsNew : List AppData → ℕ → ℕ → ℕ → Type 0
  IsNew apps i j p = (a : AppData) × (l : LooperData) × (i + 1 ≡ length apps) × (slice_get apps i ≡ Some a) × (j + 1 ≡ length a.loopers) × (slice_get a.loopers j ≡ Some l) × New l p

  in_one : (apps : List AppData) (i j p : ℕ) (name : List ℕ) (a : AppData) (l : LooperData) → i + 1 ≡ length apps → slice_get apps i ≡ Some a → j + 1 ≡ length a.loopers → slice_get a.loopers j ≡ Some l → RowNext l p name ⊎ New l p
      → NextAt apps i j p name ⊎ IsNew apps i j p
  in_one apps i j p name a l last is_app other is_looper (inl r) = inl (a, is_app, (l, is_looper, r))
  in_one apps i j p name a l last is_app other is_looper (inr n) = inr (a, l, last, is_app, other, is_looper, n)

  in_one_looper : (apps : List AppData) (i j p : ℕ) (name : List ℕ) (a : AppData) → i + 1 ≡ length apps → slice_get apps i ≡ Some a
      → LooperNext a j p name ⊎ ((l : LooperData) × (j + 1 ≡ length a.loopers) × (slice_get a.loopers j ≡ Some l) × RowNext (change l) p name) → NextAt apps i j p name ⊎ IsNew apps i j p
  in_one_looper apps i j p name a last is_app (inl h) = inl (a, is_app, h)
  in_one_looper apps i j p name a last is_app (inr (l, other, is_looper, r)) = in_one apps i j p name a l last is_app other is_looper (back l p name r)

  in_one_app : (apps : List AppData) (i j p : ℕ) (name : List ℕ)
      → NextAt apps i j p name ⊎ ((a : AppData) × (i + 1 ≡ length apps) × (slice_get apps i ≡ Some a) × LooperNext (record a { loopers = with_changed change a.loopers }) j p name) → NextAt apps i j p name ⊎ IsNew apps i j p
  in_one_app apps i j p name (inl h) = inl h
  in_one_app apps i j p name (inr (a, last, is_app, h)) = in_one_looper apps i j p name a last is_app (at_changed (λ (l : LooperData). RowNext l p name) change a.loopers j h)

  next_in_looper : (apps : List AppData) (i j p : ℕ) (name : List ℕ) → NextAt (in_looper change apps) i j p name → NextAt apps i j p name ⊎ IsNew apps i j p
  next_in_looper apps i j p name h =
      in_one_app apps i j p name (at_changed (λ (a : AppData). LooperNext a j p name) (λ (a : AppData). record a { loopers = with_changed change a.loopers }) apps i h)

-- where no next handler is given
abbrev None_new : LooperData → ℕ → Type 0
None_new l p = ⊥

no_new : {P Q : Type 0} → P ⊎ Q → ¬ Q → P
no_new (inl p) other = p
no_new (inr q) other = absurd (other q)

next_stays : (change : LooperData → LooperData) → ((l : LooperData) (p : ℕ) (name : List ℕ) → RowNext (change l) p name → RowNext l p name) → (apps : List AppData) (i j p : ℕ) (name : List ℕ) → NextAt (in_looper change apps) i j p name → NextAt apps i j p name
next_stays change back apps i j p name h =
    no_new (next_in_looper change None_new (λ l q other r. inl (back l q other r)) apps i j p name h) (λ new. new.6)

-- ---- the forms
in_head : (change : LooperData → LooperData) → ((l : LooperData) → (change l).rows ≡ l.rows) → (l : LooperData) (p : ℕ) (name : List ℕ) → RowNext (change l) p name → RowNext l p name
in_head change same l p name h = subst (λ (rows : List RowData). (r : RowData) × (slice_get rows p ≡ Some r) × (r.next ≡ Some name)) (same l) h

in_handler : (first : List ℕ) (l : LooperData) (p : ℕ) (name : List ℕ) → RowNext (record l { rows = l.rows ++ opened first ∷ [] }) p name → RowNext l p name
in_handler first l p name h = no_new (at_pushed (λ (r : RowData). r.next ≡ Some name) l.rows (opened first) p h) (λ e. absurd cc)

in_same_by : (change : RowData → RowData) (l : LooperData) (p : ℕ) (name : List ℕ) → ((r : RowData) → (change r).next ≡ r.next)
    → RowNext l p name ⊎ ((r : RowData) × (p + 1 ≡ length l.rows) × (slice_get l.rows p ≡ Some r) × ((change r).next ≡ Some name)) → RowNext l p name
in_same_by change l p name same (inl h) = h
in_same_by change l p name same (inr (r, last, is, e)) = (r, is, sym (same r) ∙ e)

in_same : (change : RowData → RowData) → ((r : RowData) → (change r).next ≡ r.next) → (l : LooperData) (p : ℕ) (name : List ℕ) → RowNext (record l { rows = with_changed change l.rows }) p name → RowNext l p name
in_same change same l p name h = in_same_by change l p name same (at_changed (λ (r : RowData). r.next ≡ Some name) change l.rows p h)

-- ---- how far it grows
rows_no_fewer : (change : LooperData → LooperData) (o : Option LooperData) → ((l : LooperData) → length l.rows ≤ length (change l).rows) → length (rows_in o) ≤ length (rows_in (option_map change o))
rows_no_fewer change None more = omega arith
rows_no_fewer change (Some l) more = more l

grows_in : (change : LooperData → LooperData) (apps : List AppData) → ((l : LooperData) → length l.rows ≤ length (change l).rows) → Grows apps (in_looper change apps)
grows_in change apps more =
    by_row (length_changed (λ (a : AppData). record a { loopers = with_changed change a.loopers }) apps)
    (ap (λ (ls : List LooperData). length ls) (loopers_with change apps) ∙ length_changed change (loopers_in (last_item apps)))
    (subst (λ (o : Option LooperData). row_count apps ≤ length (rows_in o)) (sym (open_with change apps)) (rows_no_fewer change (open_looper apps) more))

counted_then : (apps left : List AppData) → Counted apps → Grows apps left → length left ≡ length apps → looper_count left ≡ looper_count apps → Counted left
counted_then apps left c (by_app e) same other = absurd (omega (arith, e, same))
counted_then apps left c (by_looper e f) same other = absurd (omega (arith, f, other))
counted_then apps left c (by_row e f g) same other = record { some_app = omega (arith, c.some_app, e); some_looper = omega (arith, c.some_looper, f); some_row = omega (arith, c.some_row, g) }

counted_in : (change : LooperData → LooperData) (apps : List AppData) → ((l : LooperData) → length l.rows ≤ length (change l).rows) → Counted apps → Counted (in_looper change apps)
counted_in change apps more c =
    counted_then apps (in_looper change apps) c (grows_in change apps more) (length_changed (λ (a : AppData). record a { loopers = with_changed change a.loopers }) apps)
    (ap (λ (ls : List LooperData). length ls) (loopers_with change apps) ∙ length_changed change (loopers_in (last_item apps)))

-- a line in the last looper that gives no next handler
looper_line_names : (change : LooperData → LooperData) (apps : List AppData) (names : List Named) (line : ℕ) (need : Option Need) → ((l : LooperData) → length l.rows ≤ length (change l).rows)
    → ((l : LooperData) (p : ℕ) (name : List ℕ) → RowNext (change l) p name → RowNext l p name) → Counted apps → NamesFit apps names → NamesFit (in_looper change apps) (with_need names (in_looper change apps) line need)
looper_line_names change apps names line need more back c h =
    with_names apps (in_looper change apps) names line need h (grows_in change apps more) (counted_in change apps more c) (next_stays change back apps)

row_line_names : (change : RowData → RowData) (apps : List AppData) (names : List Named) (line : ℕ) (need : Option Need) → ((r : RowData) → (change r).next ≡ r.next) → Counted apps → NamesFit apps names
    → NamesFit (in_row change apps) (with_need names (in_row change apps) line need)
row_line_names change apps names line need same c h =
    looper_line_names (λ (l : LooperData). record l { rows = with_changed change l.rows }) apps names line need
    (λ l. omega (arith, length_changed change l.rows)) (in_same change same) c h

-- a line that gives the next handler
abbrev IsLastRow : LooperData → ℕ → Type 0
IsLastRow l p = p + 1 ≡ length l.rows

next_or_new_by : (change : RowData → RowData) (l : LooperData) (p : ℕ) (name : List ℕ) → RowNext l p name ⊎ ((r : RowData) × (p + 1 ≡ length l.rows) × (slice_get l.rows p ≡ Some r) × ((change r).next ≡ Some name)) → RowNext l p name ⊎ IsLastRow l p
next_or_new_by change l p name (inl h) = inl h
next_or_new_by change l p name (inr (r, last, is, e)) = inr last

next_or_new : (change : RowData → RowData) (l : LooperData) (p : ℕ) (name : List ℕ) → RowNext (record l { rows = with_changed change l.rows }) p name → RowNext l p name ⊎ IsLastRow l p
next_or_new change l p name h = next_or_new_by change l p name (at_changed (λ (r : RowData). r.next ≡ Some name) change l.rows p h)

last_at : {A : Type 0} (xs : List A) (i : ℕ) (x : A) → i + 1 ≡ length xs → slice_get xs i ≡ Some x → last_item xs ≡ Some x
last_at xs i x last e = let same : length xs - 1 ≡ i = omega arith in ap (slice_get xs) same ∙ e

module _ (given : List ℕ) (apps : List AppData) where
  abbrev with_next : RowData → RowData
  with_next r = record r { next = Some given }

  abbrev next_left : List AppData
  next_left = in_row with_next apps

  abbrev looper_next : LooperData → LooperData
  looper_next l = record l { rows = with_changed with_next l.rows }

  same_apps : length next_left ≡ length apps
  same_apps = length_changed (λ (a : AppData). record a { loopers = with_changed looper_next a.loopers }) apps

  same_loopers : looper_count next_left ≡ looper_count apps
  same_loopers = ap (λ (ls : List LooperData). length ls) (loopers_with looper_next apps) ∙ length_changed looper_next (loopers_in (last_item apps))

  same_rows : (l : LooperData) → open_looper apps ≡ Some l → row_count next_left ≡ length l.rows
  same_rows l is =
      ap (λ (o : Option LooperData). length (rows_in o)) (open_with looper_next apps ∙ ap (option_map looper_next) is) ∙ length_changed with_next l.rows

  new_next_at : (i j p : ℕ) (a : AppData) (l : LooperData) → i + 1 ≡ length apps → slice_get apps i ≡ Some a → j + 1 ≡ length a.loopers → slice_get a.loopers j ≡ Some l → p + 1 ≡ length l.rows → IsNewNext next_left i j p (needs.Next given)
  new_next_at i j p a l last is_app other is_looper row =
      let app : last_item apps ≡ Some a = last_at apps i a last is_app in
      let count : looper_count apps ≡ length a.loopers = ap (λ (o : Option AppData). length (loopers_in o)) app in
      let open_one : open_looper apps ≡ Some l = ap (λ (o : Option AppData). last_item (loopers_in o)) app ∙ last_at a.loopers j l other is_looper in
      record {
        app = last ∙ sym same_apps;
        looper = other ∙ (sym count ∙ sym same_loopers);
        row = row ∙ sym (same_rows l open_one);
        name = given;
        is_next = refl;
      }

  next_cases : (i j p : ℕ) (name : List ℕ) → NextAt next_left i j p name → NextAt apps i j p name ⊎ IsNewNext next_left i j p (needs.Next given)
  next_cases i j p name h =
      ⊎_elim (λ was. inl was) (λ new. inr (new_next_at i j p new.0 new.1 new.2 new.3 new.4 new.5 new.6))
      (next_in_looper looper_next IsLastRow (next_or_new with_next) apps i j p name h)

  next_line_names : (names : List Named) (line : ℕ) → Counted apps → NamesFit apps names → NamesFit next_left (with_need names next_left line (Some (needs.Next given)))
  next_line_names names line c h =
      let more : (l : LooperData) → length l.rows ≤ length (looper_next l).rows = λ l. omega (arith, length_changed with_next l.rows) in
      names_more apps next_left names h (grows_in looper_next apps more) (counted_in looper_next apps more c) line (needs.Next given) next_cases

-- ---- the lines that open applications and loopers
app_next : (apps : List AppData) (f : AppForm) (i j p : ℕ) (name : List ℕ) → NextAt (apps ++ new_app f ∷ []) i j p name → NextAt apps i j p name
app_next apps f i j p name h = no_new (at_pushed (λ (a : AppData). LooperNext a j p name) apps (new_app f) i h) (λ n. absurd (let e = n.1 in cc))

app_line_names : (apps : List AppData) (names : List Named) (f : AppForm) → NamesFit apps names → NamesFit (apps ++ new_app f ∷ []) names
app_line_names apps names f h = names_same apps (apps ++ new_app f ∷ []) names h (by_app (length_push apps (new_app f))) (app_next apps f)

opened_next : (first name : List ℕ) (p : ℕ) (r : RowData) → slice_get (opened first ∷ []) p ≡ Some r → r.next ≡ Some name → ⊥
opened_next first name zero r e n =
    let same : None ≡ r.next = ap next_in e in
    cc
opened_next first name (suc p) r e n = cc

looper_next_by : (f : LooperForm) (apps : List AppData) (i j p : ℕ) (name : List ℕ)
    → NextAt apps i j p name ⊎ ((a : AppData) × (i + 1 ≡ length apps) × (slice_get apps i ≡ Some a) × LooperNext (record a { loopers = a.loopers ++ new_looper f ∷ [] }) j p name) → NextAt apps i j p name
looper_next_by f apps i j p name (inl h) = h
looper_next_by f apps i j p name (inr (a, last, is, h)) =
    (a, is, no_new (at_pushed (λ (l : LooperData). RowNext l p name) a.loopers (new_looper f) j h) (λ n. opened_next f.name name p n.0 n.1 n.2))

looper_line_next : (f : LooperForm) (apps : List AppData) (i j p : ℕ) (name : List ℕ) → NextAt (in_app (λ (a : AppData). record a { loopers = a.loopers ++ new_looper f ∷ [] }) apps) i j p name → NextAt apps i j p name
looper_line_next f apps i j p name h =
    looper_next_by f apps i j p name (at_changed (λ (a : AppData). LooperNext a j p name) (λ (a : AppData). record a { loopers = a.loopers ++ new_looper f ∷ [] }) apps i h)

looper_open_names : (apps : List AppData) (names : List Named) (f : LooperForm) (a : AppData) → last_item apps ≡ Some a → NamesFit apps names → NamesFit (in_app (λ (b : AppData). record b { loopers = b.loopers ++ new_looper f ∷ [] }) apps) names
looper_open_names apps names f a is h =
    let change : AppData → AppData = λ (b : AppData). record b { loopers = b.loopers ++ new_looper f ∷ [] } in
    let was : looper_count apps ≡ length a.loopers = ap (λ (o : Option AppData). length (loopers_in o)) is in
    let now : looper_count (in_app change apps) ≡ length (a.loopers ++ new_looper f ∷ []) =
    ap (λ (ls : List LooperData). length ls) (loopers_changed change apps) ∙ ap (λ (o : Option AppData). length (loopers_in (option_map change o))) is in
    names_same apps (in_app change apps) names h (by_looper (length_changed change apps) (now ∙ (length_push a.loopers (new_looper f) ∙ ap (λ (n : ℕ). n + 1) (sym was)))) (looper_line_next f apps)

-- ---- each line
counted : (s : State) (l : LooperData) → StateFits s → open_looper s.apps ≡ Some l → Counted s.apps
counted s l h is =
    let parts = opened_parts s.apps l is in
    let f = fits_at (open_looper s.apps) s.after l h is in
    record {
      some_app = last_within s.apps parts.app parts.is_app;
      some_looper = subst (λ (o : Option AppData). 1 ≤ length (loopers_in o)) (sym parts.is_app) (last_within parts.app.loopers l parts.is_looper);
      some_row = subst (λ (o : Option LooperData). 1 ≤ length (rows_in o)) (sym is) (last_within l.rows f.row f.is_last);
    }

abbrev NamesKept : State → ℕ → Form → Type 0
NamesKept s line form = NamesFit (with_form s.apps form) (with_need s.names (with_form s.apps form) line (names_in form))

action_names_kept : (s : State) (line : ℕ) (a : Limited Action) → StateFits s → s.after ≡ following.Action → NamesFit s.apps s.names → NamesKept s line (says_action a)
action_names_kept s line a h is n =
    let l = is_open_after (open_looper s.apps) s.after h (λ plain. cc (is, plain)) in
    row_line_names (λ (r : RowData). record r { reactions = with_changed (action_added a) r.reactions }) s.apps s.names line (names_in (says_action a)) (λ r. refl) (counted s l.0 h l.1) n

by_said : (s : State) (line : ℕ) (form said : Form) → form ≡ said → NamesKept s line said → NamesKept s line form
by_said s line form said e h = subst (NamesKept s line) (sym e) h

pub names_kept : (s : State) (line : ℕ) (keyword : Keyword) (words : List (List ℕ)) (form : Form) → StateFits s → MayStand s keyword → Says s keyword words form → NamesFit s.apps s.names → NamesKept s line form
names_kept s line key.App words form h stands said n = by_said s line form (says_app said.0) said.1 (app_line_names s.apps s.names said.0 n)
names_kept s line key.Looper words form h stands said n =
    let a = last_there s.apps (some_there s.apps stands) in
    by_said s line form (says_looper said.0) said.1 (looper_open_names s.apps s.names said.0 a.0 a.1 n)
names_kept s line key.Hook words form h stands said n =
    by_said s line form says_hook said.0
    (looper_line_names (λ (l : LooperData). record l { quit_refused = true }) s.apps s.names line None (λ l. omega arith) (in_head (λ (l : LooperData). record l { quit_refused = true }) (λ l. refl)) (counted s stands.0 h stands.1) n)
names_kept s line key.Prefer words form h stands said n =
    by_said s line form (says_prefer said.0) said.1
    (looper_line_names (λ (l : LooperData). record l { preferred = Some said.0 }) s.apps s.names line (names_in (says_prefer said.0)) (λ l. omega arith) (in_head (λ (l : LooperData). record l { preferred = Some said.0 }) (λ l. refl)) (counted s stands.0 h stands.1) n)
names_kept s line key.Common words form h stands said n =
    by_said s line form (says_common said.0) said.1
    (looper_line_names (λ (l : LooperData). record l { common = l.common ++ said.0 ∷ [] }) s.apps s.names line (names_in (says_common said.0)) (λ l. omega arith) (in_head (λ (l : LooperData). record l { common = l.common ++ said.0 ∷ [] }) (λ l. refl)) (counted s stands.0 h stands.1) n)
names_kept s line key.Handler words form h stands said n =
    by_said s line form (says_handler said.0) said.1
    (looper_line_names (λ (l : LooperData). record l { rows = l.rows ++ opened said.0 ∷ [] }) s.apps s.names line None (λ l. omega (arith, length_push l.rows (opened said.0))) (in_handler said.0) (counted s stands.0 h stands.1) n)
names_kept s line key.Next words form h stands said n = by_said s line form (says_next said.0) said.1 (next_line_names said.0 s.apps s.names line (counted s stands.0 h stands.2) n)
names_kept s line key.Suite words form h stands said n =
    by_said s line form (says_suite said.0) said.1 (row_line_names (λ (r : RowData). record r { suites = r.suites ++ said.0 ∷ [] }) s.apps s.names line None (λ r. refl) (counted s stands.0 h stands.1) n)
names_kept s line key.Filter words form h stands said n =
    by_said s line form (says_filter said.0) said.1
    (row_line_names (λ (r : RowData). record r { filters = r.filters ++ said.0 ∷ [] }) s.apps s.names line (names_in (says_filter said.0)) (λ r. refl) (counted s stands.0 h stands.1) n)
names_kept s line key.Property words form h stands said n =
    by_said s line form (says_property said.0) said.1
    (row_line_names (λ (r : RowData). record r { properties = r.properties ++ new_property said.0 (usage_of said.0.usage) ∷ [] }) s.apps s.names line None (λ r. refl) (counted s stands.0 h stands.1) n)
names_kept s line key.Element words form h stands said n =
    let l = is_open_after (open_looper s.apps) s.after h (λ plain. cc (stands, plain)) in
    by_said s line form (says_element said.0) said.1
    (row_line_names (λ (r : RowData). record r { properties = with_changed (element_added said.0) r.properties }) s.apps s.names line None (λ r. refl) (counted s l.0 h l.1) n)
names_kept s line key.On words form h stands said n =
    by_said s line form (says_on said.0) said.1 (row_line_names (λ (r : RowData). record r { reactions = r.reactions ++ new_reaction said.0 ∷ [] }) s.apps s.names line None (λ r. refl) (counted s stands.0 h stands.1) n)
names_kept s line key.Reply words form h stands said n = by_said s line form (says_action said.0) said.1 (action_names_kept s line said.0 h stands n)
names_kept s line key.Post words form h stands said n = by_said s line form (says_action said.0) said.1 (action_names_kept s line said.0 h stands n)
names_kept s line key.Ask words form h stands said n = by_said s line form (says_action said.0) said.1 (action_names_kept s line said.0 h stands n)
names_kept s line key.Set words form h stands said n = by_said s line form (says_action said.0) said.1 (action_names_kept s line said.0 h stands n)
names_kept s line key.Add words form h stands said n = by_said s line form (says_action said.0) said.1 (action_names_kept s line said.0 h stands n)
names_kept s line key.Drop words form h stands said n = by_said s line form (says_action said.0) said.1 (action_names_kept s line said.0 h stands n)
names_kept s line key.Quit words form h stands said n = by_said s line form (says_action said.0) said.1 (action_names_kept s line said.0 h stands n)
