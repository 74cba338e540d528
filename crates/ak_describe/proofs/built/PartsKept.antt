-- What is always true of what the lines say so far, and that every line keeps it.
use Rattle.std.proofs.Common.{◌≡◌, ◌≢◌, ◌∙◌, ◌⊎◌, ℕ, ◌-◌, ◌<◌, ◌≤◌, Bool, true, false, if◌then◌else◌, List, [], ◌∷◌, ◌++◌, length, Option, None, Some, is_none, bytes_eq, slice_get, Result, Ok, Err, All, refl, sym, ap, subst, inl, inr, ⊎_elim, arith}
use Rattle.std.proofs.lemmas.Bool.{cases_eq}
use Rattle.std.proofs.lemmas.List.Elements.{All-nil}
use Rattle.std.proofs.lemmas.Option.{slice_get_within}
use Rattle.ak_base.specs.declared.ending.RefusalKind.{RefusalKind}
use Rattle.ak_base.specs.declared.ending.RefusalKind.TheVariants as refusal
use Rattle.ak_input.specs.declared.line.Line.{Line}
use Rattle.ak_action.specs.Plan.{begin_with_looper}
use Rattle.ak_base.proofs.Surface.{none_is}
use Rattle.std.proofs.lemmas.Bool.{and_parts}
use Rattle.ak_describe.specs.declared.keyword.Keyword.{Keyword}
use Rattle.ak_describe.specs.declared.keyword.Keyword.TheVariants as key
use Rattle.ak_describe.specs.declared.named.Named.{Named}
use Rattle.ak_describe.specs.declared.named.Need.{Need}
use Rattle.ak_describe.specs.declared.named.Need.TheVariants as needs
use Rattle.ak_describe.specs.Described.{plan_rows}
use Rattle.ak_describe.specs.Keyword.{after_of, keyword_of}
use Rattle.ak_describe.specs.Parts.{RowData, LooperData, AppData}
use Rattle.ak_describe.specs.Pass.{Refusal, State, after_lines, at_line, begun, carried, carry, first_pass, loopers_in, may_stand, new_name, nothing_read, open_looper_place, open_row_place, or_refused, read_line, read_words, rows_in, unfinished, with_need}
use Rattle.ak_describe.specs.Words.{texts}
use Rattle.ak_describe.proofs.built.AppLines.{apps_left, pref_at}
use Rattle.ak_describe.proofs.ground.Ends.{get_before, get_push}
use Rattle.ak_describe.proofs.built.Fits.{AppFits, IsNoNext, LooperFits}
use Rattle.ak_describe.proofs.chains.Following.{Follows, RowsFit, next_at, rank}
use Rattle.ak_describe.proofs.chains.FollowingMore.{IsLast, IsOtherNeed, follows_next, follows_other, follows_same, same_place}
use Rattle.ak_describe.proofs.built.NextLine.{Opened, app_place, app_place_then, apps_then, handler_open, last_rank, looper_place, looper_place_then, next_before, next_fits, next_here, next_read, next_there, pref_stays, row_place, row_place_then}
use Rattle.ak_describe.proofs.ground.Outcomes.{same_ok, went}
use Rattle.ak_describe.proofs.ground.Places.{all_there}
use Rattle.ak_describe.proofs.built.RowLines.{IsOther}

-- ---- a handler that is named in a line of a looper
pub record HasName (names : List Named) (a x : ℕ) (name : List ℕ) : Type 0 where
  pub place : ℕ
  pub named : Named
  pub is : slice_get names place ≡ Some named
  pub app : named.app ≡ a
  pub looper : named.looper ≡ x
  pub need : named.need ≡ needs.Handler name

pub record StateFits (s : State) : Type 0 where
  pub apps : All AppFits s.apps
  pub nexts : Follows s.apps 0 s.names
  pub preferred : (a x : ℕ) (name : List ℕ) → pref_at s.apps a x ≡ Some name → HasName s.names a x name

-- ---- nothing is read
pub nothing_fits : StateFits nothing_read
nothing_fits =
    record {
      apps = All-nil AppFits;
      nexts = λ a x i lx li le. refl;
      preferred = λ a x name is. absurd cc;
    }

-- ---- the loopers and handlers that are there are few
pub first_is : (rows : List RowData) (name : List ℕ) (r : RowData) → slice_get rows 0 ≡ Some r → begin_with_looper (plan_rows rows) name ≡ true → r.next ≡ None
first_is [] name r is e = absurd cc
first_is (q ∷ rows) name r is e =
    let same : q ≡ r = cc in
    subst (λ (z : RowData). z.next ≡ None) same (none_is q.next (and_parts (is_none q.next) (bytes_eq q.name name) e).0)

rows_by : (p : Option LooperData) → ((l : LooperData) → p ≡ Some l → LooperFits l) → (length (rows_in p) ≤ 64) × ((r : RowData) → slice_get (rows_in p) 0 ≡ Some r → r.next ≡ None)
rows_by None fits = (omega arith, λ r is. absurd cc)
rows_by (Some l) fits = ((fits l refl).few, λ r is. first_is l.rows l.name r is (fits l refl).looper)

rows_of_app : (o : Option AppData) (x : ℕ) → ((a : AppData) → o ≡ Some a → AppFits a) → (length (rows_in (slice_get (loopers_in o) x)) ≤ 64) × ((r : RowData) → slice_get (rows_in (slice_get (loopers_in o) x)) 0 ≡ Some r → r.next ≡ None)
rows_of_app None x fits = (omega arith, λ r is. absurd cc)
rows_of_app (Some a) x fits = rows_by (slice_get a.loopers x) (λ l is. all_there LooperFits a.loopers x l is (fits a refl).loopers)

pub rows_fit : (apps : List AppData) → All AppFits apps → RowsFit apps
rows_fit apps f =
    record {
      few = λ a x. (rows_of_app (slice_get apps a) x (λ p is. all_there AppFits apps a p is f)).0;
      first = λ a x. (rows_of_app (slice_get apps a) x (λ p is. all_there AppFits apps a p is f)).1;
    }

-- ---- names are kept
pub name_kept : (names more : List Named) (a x : ℕ) (name : List ℕ) → ((k : ℕ) (n : Named) → slice_get names k ≡ Some n → slice_get more k ≡ Some n) → HasName names a x name → HasName more a x name
name_kept names more a x name kept h = record { place = h.place; named = h.named; is = kept h.place h.named h.is; app = h.app; looper = h.looper; need = h.need }

need_keeps : (names : List Named) (apps : List AppData) (line : ℕ) (need : Option Need) (k : ℕ) (n : Named) → slice_get names k ≡ Some n → slice_get (with_need names apps line need) k ≡ Some n
need_keeps names apps line None k n is = is
need_keeps names apps line (Some need) k n is = get_before names (new_name apps line need) k n is

-- ---- a line but that of a next handler
other_need : (need : Need) → IsNoNext (Some need) → IsOtherNeed need
other_need (needs.Next name) h = absurd h
other_need (needs.Handler name) h = tt
other_need (needs.Looper name) h = tt
other_need (needs.AskLooper name) h = tt
other_need (needs.AskApp word) h = tt

follows_need : (apps : List AppData) (names : List Named) (line : ℕ) (need : Option Need) → IsNoNext need → Follows apps 0 names → Follows apps 0 (with_need names apps line need)
follows_need apps names line None h f = f
follows_need apps names line (Some need) h f = follows_other apps names 0 (new_name apps line need) (other_need need h) f

named_now : (names : List Named) (apps : List AppData) (line : ℕ) (need : Option Need) (a x : ℕ) (name : List ℕ) → a ≡ length apps - 1 → x ≡ open_looper_place apps → need ≡ Some (needs.Handler name) → HasName (with_need names apps line need) a x name
named_now names apps line None a x name app looper is = absurd cc
named_now names apps line (Some need) a x name app looper is =
    record { place = length names; named = new_name apps line need; is = get_push names (new_name apps line need); app = sym app; looper = sym looper; need = cc }

other_fits : (s : State) (line : ℕ) (keyword : Keyword) (words : List (List ℕ)) (x : List AppData × Option Need) → IsOther keyword → carry s.apps keyword words ≡ Ok x → StateFits s
    → StateFits (record { apps = x.0; after = after_of keyword; names = with_need s.names x.0 line x.1 })
other_fits s line keyword words x other e f =
    let left = apps_left s.apps keyword words x other e in
    record {
      apps = left.fits f.apps;
      nexts = follows_need x.0 s.names line x.1 left.no_next (follows_same s.apps x.0 left.nexts s.names 0 f.nexts);
      preferred = λ a y name is.
          ⊎_elim
          (λ (h : pref_at s.apps a y ≡ Some name). name_kept s.names (with_need s.names x.0 line x.1) a y name (need_keeps s.names x.0 line x.1) (f.preferred a y name h))
          (λ (h : (a ≡ length x.0 - 1) × (y ≡ open_looper_place x.0) × (x.1 ≡ Some (needs.Handler name))). named_now s.names x.0 line x.1 a y name h.0 h.1 h.2)
          (left.preferred a y name is);
    }

-- ---- a line of a next handler
rank_apart : (a x i b y k : ℕ) → a ≡ b → x ≡ y → i ≡ k → rank a x i ≡ rank b y k
rank_apart a x i b y k p q r = omega arith

rank_before : (a x i b y k : ℕ) → x < 8 → i < 64 → y < 8 → k < 64 → a ≤ b → (a ≡ b → x ≤ y) → (a ≡ b → x ≡ y → i ≤ k) → rank a x i ≤ rank b y k
rank_before a x i b y k lx li ly lk app looper row =
    ⊎_elim
    (λ (e : a ≡ b).
    let le : x ≤ y = looper e in
    ⊎_elim
    (λ (h : x ≡ y). let lo : i ≤ k = row e h in omega arith)
    (λ (h : x ≢ y). omega arith)
    (cases_eq x y))
    (λ (ne : a ≢ b). omega arith)
    (cases_eq a b)

less_by : (m n : ℕ) → m ≤ n → m ≢ n → m < n
less_by m n le ne = omega arith

module _ (apps : List AppData) (fits : All AppFits apps) (o : Opened apps) (more : 2 ≤ length o.looper.rows) (free : o.row.next ≡ None) (name : List ℕ) where
  app_fits : AppFits o.app
  app_fits = all_there AppFits apps (length apps - 1) o.app o.app_is fits

  looper_fits : LooperFits o.looper
  looper_fits = all_there LooperFits o.app.loopers (length o.app.loopers - 1) o.looper o.looper_is app_fits.loopers

  looper_few : looper_place apps o < 8
  looper_few = let lt = slice_get_within o.app.loopers (length o.app.loopers - 1) o.looper o.looper_is in omega (arith, app_fits.few, lt)

  row_few : row_place apps o < 64
  row_few = let lt = slice_get_within o.looper.rows (length o.looper.rows - 1) o.row o.row_is in omega (arith, looper_fits.few, lt)

  none_some : (p : Option (List ℕ)) (w : List ℕ) → p ≡ None → p ≡ Some w → ⊥
  none_some p w none is = absurd cc

  below : (a x i : ℕ) (w : List ℕ) → x < 8 → i < 64 → next_at apps a x i ≡ Some w → rank a x i < rank (app_place apps) (looper_place apps o) (row_place apps o)
  below a x i w lx li is =
      let t = last_rank apps o a x i w is in
      less_by (rank a x i) (rank (app_place apps) (looper_place apps o) (row_place apps o))
      (rank_before a x i (app_place apps) (looper_place apps o) (row_place apps o) lx li looper_few row_few t.0 t.1.0 t.1.1)
      (λ e.
      let p = same_place a x i (app_place apps) (looper_place apps o) (row_place apps o) lx li looper_few row_few e in
      none_some (next_at apps (app_place apps) (looper_place apps o) (row_place apps o)) w (next_before apps o free)
      (ap (λ (q : ℕ × ℕ × ℕ). next_at apps q.0 q.1 q.2) (λ k. (sym p.0 k, sym p.1 k, sym p.2 k)) ∙ is))

  is_last : (line : ℕ) → IsLast apps (apps_then apps o name) (new_name (apps_then apps o name) line (needs.Next name)) name
  is_last line =
      let app : length (apps_then apps o name) - 1 ≡ app_place apps = app_place_then apps o name in
      let looper : open_looper_place (apps_then apps o name) ≡ looper_place apps o = looper_place_then apps o name in
      let row : open_row_place (apps_then apps o name) ≡ row_place apps o = row_place_then apps o name in
      record {
        need = refl;
        looper = subst (λ k. k < 8) (sym looper) looper_few;
        row = subst (λ k. k < 64) (sym row) row_few;
        here = ap (λ (q : ℕ × ℕ × ℕ). next_at (apps_then apps o name) q.0 q.1 q.2) (λ k. (app k, looper k, row k)) ∙ next_here apps o name;
        others = λ a x i ne. next_there apps o name a x i (λ p q r. ne (rank_apart a x i (length (apps_then apps o name) - 1) (open_looper_place (apps_then apps o name)) (open_row_place (apps_then apps o name)) (p ∙ sym app) (q ∙ sym looper) (r ∙ sym row)));
        below = λ a x i w lx li is. subst (λ k. rank a x i < k) (sym (rank_apart (length (apps_then apps o name) - 1) (open_looper_place (apps_then apps o name)) (open_row_place (apps_then apps o name)) (app_place apps) (looper_place apps o) (row_place apps o) app looper row)) (below a x i w lx li is);
      }

next_line_fits : (s : State) (line : ℕ) (words : List (List ℕ)) (x : List AppData × Option Need) → may_stand s key.Next ≡ true → carry s.apps key.Next words ≡ Ok x → StateFits s
    → StateFits (record { apps = x.0; after = after_of key.Next; names = with_need s.names x.0 line x.1 })
next_line_fits s line words x stands e f =
    let t = next_read s.apps words x e in
    let o : Opened s.apps = t.opened in
    let free = handler_open s.apps o stands in
    let left : List AppData = apps_then s.apps o t.name in
    let fits : StateFits (record { apps = left; after = after_of key.Next; names = with_need s.names left line (Some (needs.Next t.name)) }) =
    record {
      apps = next_fits s.apps o t.name free.0 f.apps;
      nexts = follows_next s.apps left (new_name left line (needs.Next t.name)) t.name (is_last s.apps f.apps o free.0 free.1 t.name line) s.names 0 (omega arith) f.nexts;
      preferred = λ a y name is. name_kept s.names (s.names ++ new_name left line (needs.Next t.name) ∷ []) a y name (get_before s.names (new_name left line (needs.Next t.name))) (f.preferred a y name (sym (pref_stays s.apps o t.name a y) ∙ is));
    } in
    let same : (left, Some (needs.Next t.name)) ≡ x = λ k. (sym t.left_is k, sym t.need_is k) in
    subst (λ (z : List AppData × Option Need). StateFits (record { apps = z.0; after = after_of key.Next; names = with_need s.names z.0 line z.1 })) same fits

-- ---- any line
next_or_other : (keyword : Keyword) → (keyword ≡ key.Next) ⊎ IsOther keyword
next_or_other key.Next = inl refl
next_or_other key.App = inr tt
next_or_other key.Looper = inr tt
next_or_other key.Hook = inr tt
next_or_other key.Prefer = inr tt
next_or_other key.Common = inr tt
next_or_other key.Handler = inr tt
next_or_other key.Suite = inr tt
next_or_other key.Filter = inr tt
next_or_other key.Property = inr tt
next_or_other key.Element = inr tt
next_or_other key.On = inr tt
next_or_other key.Reply = inr tt
next_or_other key.Post = inr tt
next_or_other key.Ask = inr tt
next_or_other key.Set = inr tt
next_or_other key.Add = inr tt
next_or_other key.Drop = inr tt
next_or_other key.Quit = inr tt

abbrev state_after : State → ℕ → Keyword → List AppData × Option Need → State
state_after s line keyword x = record { apps = x.0; after = after_of keyword; names = with_need s.names x.0 line x.1 }

carried_fits : (s : State) (line : ℕ) (keyword : Keyword) (words : List (List ℕ)) (r : Result (List AppData × Option Need) RefusalKind) (left : State) → carry s.apps keyword words ≡ r → may_stand s keyword ≡ true → StateFits s
    → carried s line keyword r ≡ Ok left → StateFits left
carried_fits s line keyword words (Err kind) left is stands f e = absurd cc
carried_fits s line keyword words (Ok x) left is stands f e =
    subst StateFits (same_ok (state_after s line keyword x) left e)
    (⊎_elim
    (λ (next : keyword ≡ key.Next).
    subst (λ k. StateFits (state_after s line k x)) (sym next)
    (next_line_fits s line words x (sym (ap (may_stand s) next) ∙ stands) (sym (ap (λ k. carry s.apps k words) next) ∙ is) f))
    (λ (other : IsOther keyword). other_fits s line keyword words x other is f)
    (next_or_other keyword))

begun_by : (s : State) (line : ℕ) (keyword : Keyword) (words : List (List ℕ)) (left : State) (b : Bool) → may_stand s keyword ≡ b → StateFits s
    → (if b then carried s line keyword (carry s.apps keyword words) else Err refusal.UnknownLine) ≡ Ok left → StateFits left
begun_by s line keyword words left true stands f e = carried_fits s line keyword words (carry s.apps keyword words) left refl stands f e
begun_by s line keyword words left false stands f e = absurd cc

begun_fits : (s : State) (line : ℕ) (keyword : Option Keyword) (words : List (List ℕ)) (left : State) → StateFits s → begun s line keyword words ≡ Ok left → StateFits left
begun_fits s line None words left f e = absurd cc
begun_fits s line (Some keyword) words left f e = begun_by s line keyword words left (may_stand s keyword) refl f e

words_fit : (s : State) (line : ℕ) (words : List (List ℕ)) (left : State) → StateFits s → read_words s line words ≡ Ok left → StateFits left
words_fit s line [] left f e = absurd cc
words_fit s line (word ∷ words) left f e = begun_fits s line (keyword_of word) words left f e

line_fits : (s : State) (line : Line) (left : State) → StateFits s → read_line s line ≡ Ok left → StateFits left
unfolding read_line
line_fits s line left f e = words_fit s line.number (texts line.words) left f e

-- ---- all lines
read_same : (x y : State) → ◌≡◌ {A = Result State Refusal} (Ok x) (Ok y) → x ≡ y
read_same x y e = cc

at_line_is : (line : ℕ) (r : Result State RefusalKind) (x : State) → at_line line r ≡ Ok x → r ≡ Ok x
at_line_is line (Ok y) x e = ap (λ (z : State). Ok z) (read_same y x e)
at_line_is line (Err kind) x e = absurd cc

lines_fit : (lines : List Line) (s left : State) → StateFits s → after_lines s lines ≡ Ok left → StateFits left
lines_fit [] s left f e = subst StateFits (read_same s left e) f
lines_fit (line ∷ lines) s left f e =
    let t = went (at_line line.number (read_line s line)) (λ (next : State). after_lines next lines) left e in
    lines_fit lines t.value left (line_fits s line t.value f (at_line_is line.number (read_line s line) t.value t.is)) t.then_is

not_refused : (o : Option Refusal) (s left : State) → or_refused o s ≡ Ok left → s ≡ left
not_refused None s left e = cc
not_refused (Some r) s left e = absurd cc

pub first_pass_fits : (lines : List Line) (s : State) → first_pass lines ≡ Ok s → StateFits s
unfolding first_pass
first_pass_fits lines s e =
    let t = went (after_lines nothing_read lines) (λ (s : State). or_refused (unfinished s.apps lines) s) s e in
    lines_fit lines nothing_read s nothing_fits (t.is ∙ ap (λ (z : State). Ok z) (not_refused (unfinished t.value.apps lines) t.value s t.then_is))
