-- What a line with a next handler makes of applications.
use Rattle.std.proofs.Common.{◌≡◌, ◌≢◌, ◌∙◌, ℕ, ◌-◌, ◌<◌, ◌≤◌, true, not, List, length, set, Option, None, Some, slice_get, Ok, All, refl, sym, ap, ⊎_elim, arith, leb-false}
use Rattle.std.proofs.lemmas.Bool.{and_parts, cases_eq, not-true}
use Rattle.std.proofs.lemmas.List.{length-set}
use Rattle.std.proofs.lemmas.List.Elements.{All-set}
use Rattle.std.proofs.lemmas.Option.{slice_get_within}
use Rattle.ak_base.proofs.Surface.{none_is}
use Rattle.ak_describe.specs.declared.keyword.Keyword.TheVariants as key
use Rattle.ak_describe.specs.declared.named.Need.{Need}
use Rattle.ak_describe.specs.declared.named.Need.TheVariants as needs
use Rattle.ak_describe.specs.Parts.{RowData, LooperData, AppData}
use Rattle.ak_describe.specs.Pass.{carry, carry_in_looper, carry_in_row, follows, has_no_next, in_last_looper, is_before_handlers, lacks_next, last_item, loopers_in, may_follow, on_last, open_looper, open_looper_place, open_row_place, rows_in}
use Rattle.ak_describe.specs.Words.{only_name}
use Rattle.ak_describe.proofs.built.AppLines.{last_set, pref_at, pref_in, set_loopers_fit, with_loopers}
use Rattle.ak_describe.proofs.ground.Ends.{get_set_other}
use Rattle.ak_describe.proofs.built.Fits.{AppFits, LooperFits, RowFits}
use Rattle.ak_describe.proofs.chains.Following.{next_at, next_in}
use Rattle.ak_describe.proofs.built.LooperLines.{set_fits, with_rows}
use Rattle.ak_describe.proofs.ground.Outcomes.{changed, not_bad, same_ok, went}
use Rattle.ak_describe.proofs.ground.Places.{all_there, same_set, set_here}

-- ---- what is open, and what is there then
pub record Opened (apps : List AppData) : Type 0 where
  pub app : AppData
  pub looper : LooperData
  pub row : RowData
  pub app_is : last_item apps ≡ Some app
  pub looper_is : last_item app.loopers ≡ Some looper
  pub row_is : last_item looper.rows ≡ Some row

module _ (apps : List AppData) (o : Opened apps) (name : List ℕ) where
  abbrev pub row_then : RowData
  row_then = record o.row { next = Some name }

  abbrev pub looper_then : LooperData
  looper_then = record o.looper { rows = set o.looper.rows (length o.looper.rows - 1) row_then }

  abbrev pub app_then : AppData
  app_then = record o.app { loopers = set o.app.loopers (length o.app.loopers - 1) looper_then }

  abbrev pub apps_then : List AppData
  apps_then = set apps (length apps - 1) app_then

-- a line with a next handler that is read
pub record NextRead (apps left : List AppData) (need : Option Need) : Type 0 where
  pub opened : Opened apps
  pub name : List ℕ
  pub left_is : left ≡ apps_then apps opened name
  pub need_is : need ≡ Some (needs.Next name)

pub next_read : (apps : List AppData) (words : List (List ℕ)) (y : List AppData × Option Need) → carry apps key.Next words ≡ Ok y → NextRead apps y.0 y.1
next_read apps words y e =
    let a = changed (λ (a : AppData). in_last_looper a key.Next words) apps y e in
    let at = went (on_last (λ (l : LooperData). carry_in_looper l key.Next words) a.old.loopers) (λ (x : List LooperData × Option Need). Ok (with_loopers a.old x)) (a.new, y.1) a.change_is in
    let app : with_loopers a.old at.value ≡ (a.new, y.1) = same_ok (with_loopers a.old at.value) (a.new, y.1) at.then_is in
    let l = changed (λ (l : LooperData). carry_in_looper l key.Next words) a.old.loopers at.value at.is in
    let lt = went (on_last (λ (r : RowData). carry_in_row r key.Next words) l.old.rows) (λ (x : List RowData × Option Need). Ok (with_rows l.old x)) (l.new, at.value.1) l.change_is in
    let looper : with_rows l.old lt.value ≡ (l.new, at.value.1) = same_ok (with_rows l.old lt.value) (l.new, at.value.1) lt.then_is in
    let r = changed (λ (r : RowData). carry_in_row r key.Next words) l.old.rows lt.value lt.is in
    let t = not_bad (only_name words) (λ (name : List ℕ). Ok (record r.old { next = Some name }, Some (needs.Next name))) (r.new, lt.value.1) r.change_is in
    let row : (record r.old { next = Some t.value }, Some (needs.Next t.value)) ≡ (r.new, lt.value.1) = same_ok (record r.old { next = Some t.value }, Some (needs.Next t.value)) (r.new, lt.value.1) t.then_is in
    let new_row : r.new ≡ record r.old { next = Some t.value } = sym (ap (λ (z : RowData × Option Need). z.0) row) in
    let new_rows : lt.value.0 ≡ set l.old.rows (length l.old.rows - 1) (record r.old { next = Some t.value }) = r.list_is ∙ ap (λ (z : RowData). set l.old.rows (length l.old.rows - 1) z) new_row in
    let new_looper : l.new ≡ record l.old { rows = set l.old.rows (length l.old.rows - 1) (record r.old { next = Some t.value }) } = sym (ap (λ (z : LooperData × Option Need). z.0) looper) ∙ ap (λ (rs : List RowData). record l.old { rows = rs }) new_rows in
    let new_loopers : at.value.0 ≡ set a.old.loopers (length a.old.loopers - 1) (record l.old { rows = set l.old.rows (length l.old.rows - 1) (record r.old { next = Some t.value }) }) =
    l.list_is ∙ ap (λ (z : LooperData). set a.old.loopers (length a.old.loopers - 1) z) new_looper in
    let new_app : a.new ≡ record a.old { loopers = set a.old.loopers (length a.old.loopers - 1) (record l.old { rows = set l.old.rows (length l.old.rows - 1) (record r.old { next = Some t.value }) }) } =
    sym (ap (λ (z : AppData × Option Need). z.0) app) ∙ ap (λ (ls : List LooperData). record a.old { loopers = ls }) new_loopers in
    record {
      opened = record { app = a.old; looper = l.old; row = r.old; app_is = a.last; looper_is = l.last; row_is = r.last };
      name = t.value;
      left_is = a.list_is ∙ ap (λ (z : AppData). set apps (length apps - 1) z) new_app;
      need_is = sym (ap (λ (z : AppData × Option Need). z.1) app) ∙ sym (ap (λ (z : LooperData × Option Need). z.1) looper) ∙ sym (ap (λ (z : RowData × Option Need). z.1) row);
    }

-- the handlers that are preferred in an application
abbrev prefs_in : Option AppData → ℕ → Option (List ℕ)
prefs_in p y = pref_in (slice_get (loopers_in p) y)

abbrev pub app_place : List AppData → ℕ
app_place apps = length apps - 1

-- ---- it may stand only where another handler than the looper is open, which has no next one yet
module _ (apps : List AppData) (o : Opened apps) where
  abbrev pub looper_place : ℕ
  looper_place = length o.app.loopers - 1

  abbrev pub row_place : ℕ
  row_place = length o.looper.rows - 1

  open_is : open_looper apps ≡ Some o.looper
  open_is = ap (λ p. last_item (loopers_in p)) o.app_is ∙ o.looper_is

  pub handler_open : follows (open_looper apps) key.Next ≡ true → (2 ≤ length o.looper.rows) × (o.row.next ≡ None)
  handler_open e =
      let may : may_follow o.looper key.Next ≡ true = sym (ap (λ p. follows p key.Next) open_is) ∙ e in
      let both = and_parts (not (is_before_handlers o.looper)) (has_no_next o.looper) may in
      let more : 1 < length o.looper.rows = leb-false (length o.looper.rows) 1 (not-true (is_before_handlers o.looper) both.0) in
      (omega arith, none_is o.row.next (sym (ap lacks_next o.row_is) ∙ both.1))

  -- what is there before
  pub next_before : o.row.next ≡ None → next_at apps (app_place apps) looper_place row_place ≡ None
  next_before none =
      ap (λ p. next_in (slice_get (rows_in (slice_get (loopers_in p) looper_place)) row_place)) o.app_is
      ∙ ap (λ p. next_in (slice_get (rows_in p) row_place)) o.looper_is
      ∙ ap next_in o.row_is ∙ none

  -- it is the last one
  pub last_rank : (a x i : ℕ) (w : List ℕ) → next_at apps a x i ≡ Some w → (a ≤ (app_place apps)) × ((a ≡ (app_place apps) → x ≤ looper_place) × (a ≡ (app_place apps) → x ≡ looper_place → i ≤ row_place))
  last_rank a x i w is =
      let app = app_there a x i w is in (
        omega (arith, slice_get_within apps a app.0 app.1),
        (
          λ e. let l = looper_there app.0 x i w (sym (ap (λ p. next_in (slice_get (rows_in (slice_get (loopers_in p) x)) i)) app.1) ∙ is) in
              let len : length app.0.loopers ≡ length o.app.loopers = ap (λ p. length (loopers_in p)) (sym app.1 ∙ ap (slice_get apps) e ∙ o.app_is) in
              omega (arith, slice_get_within app.0.loopers x l.0 l.1),
          λ e f. let r : slice_get apps a ≡ Some o.app = ap (slice_get apps) e ∙ o.app_is in
              let here : next_in (slice_get o.looper.rows i) ≡ Some w =
              sym (ap (λ p. next_in (slice_get (rows_in p) i)) (ap (slice_get o.app.loopers) f ∙ o.looper_is)) ∙ sym (ap (λ p. next_in (slice_get (rows_in (slice_get (loopers_in p) x)) i)) r) ∙ is in
              let q = row_there (slice_get o.looper.rows i) w here in
              omega (arith, slice_get_within o.looper.rows i q.0 q.1),
        ),
      )
    where
      row_there : (p : Option RowData) (v : List ℕ) → next_in p ≡ Some v → (r : RowData) × (p ≡ Some r)
      row_there None v h = absurd cc
      row_there (Some r) v h = (r, refl)

      looper_by : (p : Option LooperData) (k : ℕ) (v : List ℕ) → next_in (slice_get (rows_in p) k) ≡ Some v → (l : LooperData) × (p ≡ Some l)
      looper_by None k v h = absurd cc
      looper_by (Some l) k v h = (l, refl)

      looper_there : (q : AppData) (y k : ℕ) (v : List ℕ) → next_in (slice_get (rows_in (slice_get q.loopers y)) k) ≡ Some v → (l : LooperData) × (slice_get q.loopers y ≡ Some l)
      looper_there q y k v h = looper_by (slice_get q.loopers y) k v h

      app_by : (p : Option AppData) (y k : ℕ) (v : List ℕ) → next_in (slice_get (rows_in (slice_get (loopers_in p) y)) k) ≡ Some v → (q : AppData) × (p ≡ Some q)
      app_by None y k v h = absurd cc
      app_by (Some q) y k v h = (q, refl)

      app_there : (b y k : ℕ) (v : List ℕ) → next_at apps b y k ≡ Some v → (q : AppData) × (slice_get apps b ≡ Some q)
      app_there b y k v h = app_by (slice_get apps b) y k v h

  module _ (name : List ℕ) where
    -- what is there then
    app_here : slice_get (apps_then apps o name) (app_place apps) ≡ Some (app_then apps o name)
    app_here = set_here apps (app_place apps) o.app (app_then apps o name) o.app_is

    looper_here : slice_get (app_then apps o name).loopers looper_place ≡ Some (looper_then apps o name)
    looper_here = set_here o.app.loopers looper_place o.looper (looper_then apps o name) o.looper_is

    row_here : slice_get (looper_then apps o name).rows row_place ≡ Some (row_then apps o name)
    row_here = set_here o.looper.rows row_place o.row (row_then apps o name) o.row_is

    pub next_here : next_at (apps_then apps o name) (app_place apps) looper_place row_place ≡ Some name
    next_here =
        ap (λ p. next_in (slice_get (rows_in (slice_get (loopers_in p) looper_place)) row_place)) app_here
        ∙ ap (λ p. next_in (slice_get (rows_in p) row_place)) looper_here
        ∙ ap next_in row_here

    -- others stay
    pub next_there : (a x i : ℕ) → (a ≡ (app_place apps) → x ≡ looper_place → i ≡ row_place → ⊥) → next_at (apps_then apps o name) a x i ≡ next_at apps a x i
    next_there a x i apart =
        ⊎_elim
        (λ (e : a ≡ (app_place apps)).
        ap (λ p. next_in (slice_get (rows_in (slice_get (loopers_in p) x)) i)) (ap (slice_get (apps_then apps o name)) e ∙ app_here)
        ∙ in_app (apart e)
        ∙ sym (ap (λ p. next_in (slice_get (rows_in (slice_get (loopers_in p) x)) i)) (ap (slice_get apps) e ∙ o.app_is)))
        (λ (ne : a ≢ (app_place apps)). ap (λ p. next_in (slice_get (rows_in (slice_get (loopers_in p) x)) i)) (get_set_other apps (app_place apps) a (app_then apps o name) ne))
        (cases_eq a (app_place apps))
      where
        in_looper : (i ≡ row_place → ⊥) → next_in (slice_get (looper_then apps o name).rows i) ≡ next_in (slice_get o.looper.rows i)
        in_looper ne = ap next_in (get_set_other o.looper.rows row_place i (row_then apps o name) ne)

        in_app : (x ≡ looper_place → i ≡ row_place → ⊥) → next_in (slice_get (rows_in (slice_get (app_then apps o name).loopers x)) i) ≡ next_in (slice_get (rows_in (slice_get o.app.loopers x)) i)
        in_app other =
            ⊎_elim
            (λ (e : x ≡ looper_place).
            ap (λ p. next_in (slice_get (rows_in p) i)) (ap (slice_get (app_then apps o name).loopers) e ∙ looper_here)
            ∙ in_looper (other e)
            ∙ sym (ap (λ p. next_in (slice_get (rows_in p) i)) (ap (slice_get o.app.loopers) e ∙ o.looper_is)))
            (λ (ne : x ≢ looper_place). ap (λ p. next_in (slice_get (rows_in p) i)) (get_set_other o.app.loopers looper_place x (looper_then apps o name) ne))
            (cases_eq x looper_place)

    -- the handler that is preferred stays
    pub pref_stays : (a x : ℕ) → pref_at (apps_then apps o name) a x ≡ pref_at apps a x
    pref_stays a x =
        ap (λ (f : ℕ → Option (List ℕ)). f x)
        (same_set prefs_in apps (app_place apps) o.app (app_then apps o name) o.app_is
        (λ k. λ y. same_set pref_in o.app.loopers looper_place o.looper (looper_then apps o name) o.looper_is refl y k) a)

    -- the places of what is open are as before
    pub app_place_then : length (apps_then apps o name) - 1 ≡ (app_place apps)
    app_place_then = ap (λ n. n - 1) (length-set apps (app_place apps) (app_then apps o name))

    loopers_then : loopers_in (last_item (apps_then apps o name)) ≡ (app_then apps o name).loopers
    loopers_then = ap loopers_in (last_set apps o.app (app_then apps o name) o.app_is)

    pub looper_place_then : open_looper_place (apps_then apps o name) ≡ looper_place
    looper_place_then = ap (λ ls. length ls - 1) loopers_then ∙ ap (λ n. n - 1) (length-set o.app.loopers looper_place (looper_then apps o name))

    pub row_place_then : open_row_place (apps_then apps o name) ≡ row_place
    row_place_then =
        ap (λ ls. length (rows_in (last_item ls)) - 1) loopers_then
        ∙ ap (λ p. length (rows_in p) - 1) (last_set o.app.loopers o.looper (looper_then apps o name) o.looper_is)
        ∙ ap (λ n. n - 1) (length-set o.looper.rows row_place (row_then apps o name))

    -- and what is always true stays so
    pub next_fits : 2 ≤ length o.looper.rows → All AppFits apps → All AppFits (apps_then apps o name)
    next_fits more f =
        let row : RowFits o.row → RowFits (row_then apps o name) = λ r. record { suites = r.suites; properties = r.properties; reactions = r.reactions; names_differ = r.names_differ; kinds_fit = r.kinds_fit; actions_fit = r.actions_fit } in
        let looper : LooperFits o.looper → LooperFits (looper_then apps o name) = set_fits o.looper row_place o.row (row_then apps o name) o.row_is refl (λ z. absurd (omega arith)) row in
        All-set AppFits apps (app_place apps) (app_then apps o name) (set_loopers_fit o.app looper_place o.looper (looper_then apps o name) o.looper_is looper (all_there AppFits apps (app_place apps) o.app o.app_is f)) f
