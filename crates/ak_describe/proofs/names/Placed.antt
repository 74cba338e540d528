-- Each name that lines give to be found later has its place: a handler stands there, and stays.
use Rattle.std.proofs.Common.{◌≡◌, ◌≢◌, ◌⊎◌, ℕ, ◌-◌, ◌<◌, true, All, List, [], ◌∷◌, ◌++◌, length, Option, Some, None, option_map, slice_get, slice_set, refl, sym, ap, subst, ◌∙◌, inl, inr, arith}
use Rattle.std.proofs.lemmas.Bool.{cases_eq}
use Rattle.std.proofs.lemmas.List.{length_push}
use Rattle.std.proofs.lemmas.List.Elements.{All-nil, All-push, All-weaker}
use Rattle.std.proofs.lemmas.Option.{slice_get_within}
use Rattle.ak_input.specs.declared.line.Line.{Line}
use Rattle.ak_describe.specs.declared.keyword.After.TheVariants as following
use Rattle.ak_describe.specs.declared.keyword.Keyword.{Keyword}
use Rattle.ak_describe.specs.declared.keyword.Keyword.TheVariants as key
use Rattle.ak_describe.specs.declared.named.Named.{Named}
use Rattle.ak_describe.specs.declared.named.Need.{Need}
use Rattle.ak_describe.specs.Describes.{Adds, Follow}
use Rattle.ak_describe.specs.Laws.{HasPlace, NamesHavePlaces}
use Rattle.ak_describe.specs.Parts.{RowData, LooperData, AppData, opened}
use Rattle.ak_describe.specs.Pass.{State, nothing_read, last_item, loopers_in, open_looper, rows_in, new_app, new_looper, new_property, new_reaction, open_looper_place, open_row_place, new_name, with_need}
use Rattle.ak_describe.specs.Says.{Form, InLooper, says_app, says_looper, says_hook, says_prefer, says_common, says_handler, says_next, says_suite, says_filter, says_property, says_element, says_on, says_action, MayStand, Says, changed, with_changed, in_app, in_looper, in_row, usage_of, element_added, action_added, with_form, names_in, state_with}
use Rattle.ak_describe.proofs.ground.Ends.{last_within, one_some, get_set_same, get_set_other, length_changed, get_before}
use Rattle.ak_describe.proofs.ground.Places.{item_there}
use Rattle.ak_describe.proofs.lines.Keeping.{open_with, nothing_fits}
use Rattle.ak_describe.proofs.lines.Reading.{adds_fits}
use Rattle.ak_describe.proofs.lines.Standing.{StateFits, is_open_after, fits_at, opened_parts}

-- ---- a place, by the numbers of an application, a looper of it and a handler of that
abbrev LooperPlace : AppData → ℕ → ℕ → Type 0
LooperPlace a j p = (l : LooperData) × (slice_get a.loopers j ≡ Some l) × (p < length l.rows)

abbrev IsPlace : List AppData → ℕ → ℕ → ℕ → Type 0
IsPlace apps i j p = (a : AppData) × (slice_get apps i ≡ Some a) × LooperPlace a j p

place_of : (apps : List AppData) (n : Named) → HasPlace apps n → IsPlace apps n.app n.looper n.row
place_of apps n h = (h.0, h.3.in_app, (h.1, h.3.in_looper, slice_get_within h.1.rows n.row h.2 h.4))

has_place : (apps : List AppData) (n : Named) → IsPlace apps n.app n.looper n.row → HasPlace apps n
has_place apps n h =
    let row = item_there h.2.0.rows n.row h.2.2 in
    (h.0, h.2.0, row.0, record { in_app = h.1; in_looper = h.2.1 }, row.1)

-- ---- what stands at a place of a list that a line changes
module _ {A : Type 0} (P : A → Type 0) where
  set_stays : (change : A → A) (xs : List A) (z : A) (i : ℕ) (x : A) → ((y : A) → P y → P (change y)) → last_item xs ≡ Some z → slice_get xs i ≡ Some x → P x → (i ≡ length xs - 1) ⊎ (i ≡ length xs - 1 → ⊥)
      → (y : A) × (slice_get (slice_set xs (length xs - 1) (change z)) i ≡ Some y) × P y
  set_stays change xs z i x step last is h (inl same) =
      let least = last_within xs z last in
      let one : z ≡ x = one_some (last_item xs) z x last (ap (slice_get xs) (sym same) ∙ is) in
      let there : slice_get (slice_set xs (length xs - 1) (change z)) i ≡ Some (change z) =
      ap (slice_get (slice_set xs (length xs - 1) (change z))) same ∙ get_set_same xs (length xs - 1) (change z) (omega (arith, least)) in
      (change z, there, step z (subst P (sym one) h))
  set_stays change xs z i x step last is h (inr other) = (x, get_set_other xs (length xs - 1) i (change z) other ∙ is, h)

  changed_stays : (change : A → A) (xs : List A) (o : Option A) (i : ℕ) (x : A) → ((y : A) → P y → P (change y)) → last_item xs ≡ o → slice_get xs i ≡ Some x → P x → (y : A) × (slice_get (changed change xs o) i ≡ Some y) × P y
  changed_stays change xs None i x step last is h = (x, is, h)
  changed_stays change xs (Some z) i x step last is h = set_stays change xs z i x step last is h (cases_eq i (length xs - 1))

  stays : (change : A → A) (xs : List A) (i : ℕ) → ((y : A) → P y → P (change y)) → (x : A) × (slice_get xs i ≡ Some x) × P x → (y : A) × (slice_get (with_changed change xs) i ≡ Some y) × P y
  stays change xs i step h = changed_stays change xs (last_item xs) i h.0 step refl h.1 h.2

  stays_before : (xs : List A) (y : A) (i : ℕ) → (x : A) × (slice_get xs i ≡ Some x) × P x → (x : A) × (slice_get (xs ++ y ∷ []) i ≡ Some x) × P x
  stays_before xs y i h = (h.0, get_before xs y i h.0 h.1, h.2)

-- ---- a place stays as lines are added
stays_in_app : (change : AppData → AppData) (apps : List AppData) (i j p : ℕ) → ((a : AppData) → LooperPlace a j p → LooperPlace (change a) j p) → IsPlace apps i j p → IsPlace (in_app change apps) i j p
stays_in_app change apps i j p step h = stays (λ (a : AppData). LooperPlace a j p) change apps i step h

stays_in_looper : (change : LooperData → LooperData) (apps : List AppData) (i j p : ℕ) → ((l : LooperData) → p < length l.rows → p < length (change l).rows) → IsPlace apps i j p → IsPlace (in_looper change apps) i j p
stays_in_looper change apps i j p step h =
    stays_in_app (λ (a : AppData). record a { loopers = with_changed change a.loopers }) apps i j p (λ a at. stays (λ (l : LooperData). p < length l.rows) change a.loopers j step at) h

stays_in_row : (change : RowData → RowData) (apps : List AppData) (i j p : ℕ) → IsPlace apps i j p → IsPlace (in_row change apps) i j p
stays_in_row change apps i j p h =
    stays_in_looper (λ (l : LooperData). record l { rows = with_changed change l.rows }) apps i j p (λ l lt. omega (arith, lt, length_changed change l.rows)) h

place_stays : (apps : List AppData) (form : Form) (i j p : ℕ) → IsPlace apps i j p → IsPlace (with_form apps form) i j p
place_stays apps (says_app f) i j p h = stays_before (λ (a : AppData). LooperPlace a j p) apps (new_app f) i h
place_stays apps (says_looper f) i j p h =
    stays_in_app (λ (a : AppData). record a { loopers = a.loopers ++ new_looper f ∷ [] }) apps i j p (λ a at. stays_before (λ (l : LooperData). p < length l.rows) a.loopers (new_looper f) j at) h
place_stays apps says_hook i j p h = stays_in_looper (λ (l : LooperData). record l { quit_refused = true }) apps i j p (λ l lt. lt) h
place_stays apps (says_prefer name) i j p h = stays_in_looper (λ (l : LooperData). record l { preferred = Some name }) apps i j p (λ l lt. lt) h
place_stays apps (says_common f) i j p h = stays_in_looper (λ (l : LooperData). record l { common = l.common ++ f ∷ [] }) apps i j p (λ l lt. lt) h
place_stays apps (says_handler name) i j p h =
    stays_in_looper (λ (l : LooperData). record l { rows = l.rows ++ opened name ∷ [] }) apps i j p (λ l lt. omega (arith, lt, length_push l.rows (opened name))) h
place_stays apps (says_next name) i j p h = stays_in_row (λ (r : RowData). record r { next = Some name }) apps i j p h
place_stays apps (says_suite name) i j p h = stays_in_row (λ (r : RowData). record r { suites = r.suites ++ name ∷ [] }) apps i j p h
place_stays apps (says_filter f) i j p h = stays_in_row (λ (r : RowData). record r { filters = r.filters ++ f ∷ [] }) apps i j p h
place_stays apps (says_property q) i j p h = stays_in_row (λ (r : RowData). record r { properties = r.properties ++ new_property q (usage_of q.usage) ∷ [] }) apps i j p h
place_stays apps (says_element e) i j p h = stays_in_row (λ (r : RowData). record r { properties = with_changed (element_added e) r.properties }) apps i j p h
place_stays apps (says_on code) i j p h = stays_in_row (λ (r : RowData). record r { reactions = r.reactions ++ new_reaction code ∷ [] }) apps i j p h
place_stays apps (says_action a) i j p h = stays_in_row (λ (r : RowData). record r { reactions = with_changed (action_added a) r.reactions }) apps i j p h

still_placed : (apps : List AppData) (form : Form) (n : Named) → HasPlace apps n → HasPlace (with_form apps form) n
still_placed apps form n h = has_place (with_form apps form) n (place_stays apps form n.app n.looper n.row (place_of apps n h))

-- ---- the name in a line stands in the handler that is open
open_in : (change : LooperData → LooperData) (apps : List AppData) (l : LooperData) → open_looper apps ≡ Some l → (m : LooperData) × (open_looper (in_looper change apps) ≡ Some m)
open_in change apps l is = (change l, open_with change apps ∙ ap (option_map change) is)

open_in_row : (change : RowData → RowData) (apps : List AppData) (l : LooperData) → open_looper apps ≡ Some l → (m : LooperData) × (open_looper (in_row change apps) ≡ Some m)
open_in_row change apps l is = open_in (λ (m : LooperData). record m { rows = with_changed change m.rows }) apps l is

open_then : (apps : List AppData) (form : Form) (need : Need) (l : LooperData) → names_in form ≡ Some need → open_looper apps ≡ Some l → (m : LooperData) × (open_looper (with_form apps form) ≡ Some m)
open_then apps (says_app f) need l e is = absurd cc
open_then apps (says_looper f) need l e is = absurd cc
open_then apps says_hook need l e is = absurd cc
open_then apps (says_prefer name) need l e is = open_in (λ (m : LooperData). record m { preferred = Some name }) apps l is
open_then apps (says_common f) need l e is = open_in (λ (m : LooperData). record m { common = m.common ++ f ∷ [] }) apps l is
open_then apps (says_handler name) need l e is = absurd cc
open_then apps (says_next name) need l e is = open_in_row (λ (r : RowData). record r { next = Some name }) apps l is
open_then apps (says_suite name) need l e is = absurd cc
open_then apps (says_filter f) need l e is = open_in_row (λ (r : RowData). record r { filters = r.filters ++ f ∷ [] }) apps l is
open_then apps (says_property p) need l e is = absurd cc
open_then apps (says_element x) need l e is = absurd cc
open_then apps (says_on code) need l e is = absurd cc
open_then apps (says_action a) need l e is = open_in_row (λ (r : RowData). record r { reactions = with_changed (action_added a) r.reactions }) apps l is

-- a looper is open where a line with a name stands
unnamed : (s : State) (form said : Form) (need : Need) → form ≡ said → names_in said ≡ None → names_in form ≡ Some need → InLooper s
unnamed s form said need same none e = let other : names_in form ≡ None = ap names_in same ∙ none in absurd (cc (e, other))

open_behind : (s : State) → StateFits s → s.after ≢ following.Plain → InLooper s
open_behind s h other = is_open_after (open_looper s.apps) s.after h other

is_open : (s : State) (keyword : Keyword) (words : List (List ℕ)) (form : Form) (need : Need) → StateFits s → MayStand s keyword → Says s keyword words form → names_in form ≡ Some need → InLooper s
is_open s key.App words form need h stands said e = unnamed s form (says_app said.0) need said.1 refl e
is_open s key.Looper words form need h stands said e = unnamed s form (says_looper said.0) need said.1 refl e
is_open s key.Hook words form need h stands said e = (stands.0, stands.1)
is_open s key.Prefer words form need h stands said e = (stands.0, stands.1)
is_open s key.Common words form need h stands said e = (stands.0, stands.1)
is_open s key.Handler words form need h stands said e = stands
is_open s key.Next words form need h stands said e = (stands.0, stands.2)
is_open s key.Suite words form need h stands said e = stands
is_open s key.Filter words form need h stands said e = stands
is_open s key.Property words form need h stands said e = stands
is_open s key.On words form need h stands said e = stands
is_open s key.Element words form need h stands said e = open_behind s h (λ plain. cc (stands, plain))
is_open s key.Reply words form need h stands said e = open_behind s h (λ plain. cc (stands, plain))
is_open s key.Post words form need h stands said e = open_behind s h (λ plain. cc (stands, plain))
is_open s key.Ask words form need h stands said e = open_behind s h (λ plain. cc (stands, plain))
is_open s key.Set words form need h stands said e = open_behind s h (λ plain. cc (stands, plain))
is_open s key.Add words form need h stands said e = open_behind s h (λ plain. cc (stands, plain))
is_open s key.Drop words form need h stands said e = open_behind s h (λ plain. cc (stands, plain))
is_open s key.Quit words form need h stands said e = open_behind s h (λ plain. cc (stands, plain))

-- what is open has a handler, its last one
new_placed : (s : State) (l : LooperData) (line : ℕ) (need : Need) → StateFits s → open_looper s.apps ≡ Some l → HasPlace s.apps (new_name s.apps line need)
new_placed s l line need h is =
    let parts = opened_parts s.apps l is in
    let f = fits_at (open_looper s.apps) s.after l h is in
    let looper : slice_get parts.app.loopers (open_looper_place s.apps) ≡ Some l =
    ap (λ (o : Option AppData). slice_get parts.app.loopers (length (loopers_in o) - 1)) parts.is_app ∙ parts.is_looper in
    let row : slice_get l.rows (open_row_place s.apps) ≡ Some f.row = ap (λ (o : Option LooperData). slice_get l.rows (length (rows_in o) - 1)) is ∙ f.is_last in
    (parts.app, l, f.row, record { in_app = parts.is_app; in_looper = looper }, row)

-- ---- each line
with_placed : (apps : List AppData) (names : List Named) (line : ℕ) (o : Option Need) → All (HasPlace apps) names → ((need : Need) → o ≡ Some need → HasPlace apps (new_name apps line need)) → All (HasPlace apps) (with_need names apps line o)
with_placed apps names line None all new = all
with_placed apps names line (Some need) all new = All-push (HasPlace apps) names (new_name apps line need) all (new need refl)

record Placed (s : State) : Type 0 where
  fits : StateFits s
  places : All (HasPlace s.apps) s.names

nothing_placed : Placed nothing_read
nothing_placed = record { fits = nothing_fits; places = All-nil (HasPlace []) }

adds_placed : (s : State) (line : Line) (left : State) → Placed s → Adds s line left → Placed left
adds_placed s line left h a =
    let then : State = state_with s line.number a.keyword a.form in
    let left_fits : StateFits left = adds_fits s line left h.fits a in
    let then_fits : StateFits then = subst (λ (x : State). StateFits x) a.left_is left_fits in
    let new : (need : Need) → names_in a.form ≡ Some need → HasPlace then.apps (new_name then.apps line.number need) =
    λ need e.
    let l = is_open s a.keyword a.words a.form need h.fits a.opens.stands a.says e in
    let m = open_then s.apps a.form need l.0 e l.1 in
    new_placed then m.0 line.number need then_fits m.1 in
    let old : All (HasPlace then.apps) s.names = All-weaker (HasPlace s.apps) (HasPlace then.apps) (still_placed s.apps a.form) s.names h.places in
    record {
      fits = left_fits;
      places = subst (λ (x : State). All (HasPlace x.apps) x.names) (sym a.left_is) (with_placed then.apps s.names line.number (names_in a.form) old new);
    }

follow_placed : (lines : List Line) (s left : State) → Placed s → Follow s lines left → Placed left
follow_placed [] s left h f = subst Placed f h
follow_placed (line ∷ lines) s left h f = follow_placed lines f.0 left (adds_placed s line f.0 h f.1) f.2

pub names_have_places : NamesHavePlaces
names_have_places lines s f = (follow_placed lines nothing_read s nothing_placed f).places
