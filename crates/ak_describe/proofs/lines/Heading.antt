-- What always holds of the applications that lines describe so far: how many there are, their paths, and the names of their loopers.
use Rattle.std.proofs.Common.{◌≡◌, ◌≢◌, ◌⊎◌, ℕ, ◌+◌, ◌-◌, ◌<◌, ◌≤◌, true, List, [], ◌∷◌, ◌++◌, length, All, Any, Option, Some, None, slice_get, refl, sym, ap, subst, ◌∙◌, inl, inr, ⊎_elim, arith}
use Rattle.std.proofs.lemmas.Bool.{cases_lt}
use Rattle.std.proofs.lemmas.List.{length_push}
use Rattle.std.proofs.lemmas.List.Elements.{All-nil, All-push, All-set}
use Rattle.std.proofs.lemmas.Option.{get_or_from_slice_get, slice_get_within}
use Rattle.ak_base.specs.Word.{is_word}
use Rattle.ak_describe.specs.declared.form.heads.AppForm.{AppForm}
use Rattle.ak_describe.specs.declared.form.heads.LooperForm.{LooperForm}
use Rattle.ak_describe.specs.declared.keyword.Keyword.{Keyword}
use Rattle.ak_describe.specs.declared.keyword.Keyword.TheVariants as key
use Rattle.ak_describe.specs.Grammar.{SaysApp, SaysLooper, IsCapacity}
use Rattle.ak_describe.specs.Parts.{RowData, LooperData, AppData, opened}
use Rattle.ak_describe.specs.Pass.{State, last_item, loopers_in, new_app, new_looper, new_property, new_reaction}
use Rattle.ak_describe.specs.Says.{Form, says_app, says_looper, says_hook, says_prefer, says_common, says_handler, says_next, says_suite, says_filter, says_property, says_element, says_on, says_action, least_of, IsComplete, MayStand, Says, IsInUse, HasLooper, IsWithin, changed, with_changed, in_app, in_looper, usage_of, element_added, action_added, with_form}
use Rattle.ak_base.specs.AppName.{is_path, is_signature}
use Rattle.ak_describe.proofs.ground.Ends.{changed_get, length_changed, one_some, push_cases, some_there}
use Rattle.ak_describe.proofs.ground.Places.{all_there}

-- ---- lists of which the last one changes, or that get one more
module _ {A : Type 0} where
  all_changed_by : (P : A → Type 0) (change : A → A) (xs : List A) (o : Option A) → last_item xs ≡ o → ((x : A) → last_item xs ≡ Some x → P x → P (change x)) → All P xs → All P (changed change xs o)
  all_changed_by P change xs None is step all = all
  all_changed_by P change xs (Some x) is step all = All-set P xs (length xs - 1) (change x) (step x is (all_there P xs (length xs - 1) x is all)) all

  pub all_changed : (P : A → Type 0) (change : A → A) (xs : List A) → ((x : A) → last_item xs ≡ Some x → P x → P (change x)) → All P xs → All P (with_changed change xs)
  all_changed P change xs step all = all_changed_by P change xs (last_item xs) refl step all

  -- no two are called the same
  abbrev pub Differ : (A → List ℕ) → List A → Type 0
  Differ called xs = (i j : ℕ) (x y : A) → i < j → slice_get xs i ≡ Some x → slice_get xs j ≡ Some y → called x ≡ called y → ⊥

  -- what stands there was called so before
  called_before : (called : A → List ℕ) (change : A → A) (xs : List A) → ((x : A) → called (change x) ≡ called x) → (i : ℕ) (x : A) → slice_get (with_changed change xs) i ≡ Some x
      → (z : A) × (slice_get xs i ≡ Some z) × (called x ≡ called z)
  called_before called change xs same i x at = by_place (changed_get change xs i x at) where
    by_place : (slice_get xs i ≡ Some x) ⊎ ((z : A) × (i + 1 ≡ length xs) × (slice_get xs i ≡ Some z) × (x ≡ change z)) → (z : A) × (slice_get xs i ≡ Some z) × (called x ≡ called z)
    by_place (inl old) = (x, old, refl)
    by_place (inr t) = (t.0, t.2, ap called t.3 ∙ same t.0)

  differ_changed : (called : A → List ℕ) (change : A → A) (xs : List A) → ((x : A) → called (change x) ≡ called x) → Differ called xs → Differ called (with_changed change xs)
  differ_changed called change xs same h i j x y lt at there e =
      let a = called_before called change xs same i x at in
      let b = called_before called change xs same j y there in
      h i j a.0 b.0 lt a.1 b.1 (sym a.2 ∙ e ∙ b.2)

  differ_push : (called : A → List ℕ) (xs : List A) (new : A) → (Any (λ (x : A). called x ≡ called new) xs → ⊥) → Differ called xs → Differ called (xs ++ new ∷ [])
  differ_push called xs new none h i j x y lt at there e = by_places (push_cases xs new i x at) (push_cases xs new j y there) where
    by_places : (slice_get xs i ≡ Some x) ⊎ ((i ≡ length xs) × (new ≡ x)) → (slice_get xs j ≡ Some y) ⊎ ((j ≡ length xs) × (new ≡ y)) → ⊥
    by_places (inl here) (inl also) = h i j x y lt here also e
    by_places (inl here) (inr last) = none (i, x, slice_get_within xs i x here, get_or_from_slice_get xs i x x here, e ∙ ap called (sym last.1))
    by_places (inr last) (inl also) = absurd (omega (arith, last.0, slice_get_within xs j y also))
    by_places (inr last) (inr also) = absurd (omega (arith, last.0, also.0))

-- ---- an application
abbrev pub name_of : LooperData → List ℕ
name_of l = l.name

abbrev pub path_of : AppData → List ℕ
path_of a = a.path

-- its own looper has a port of 2 messages or more
abbrev pub OwnIsLarge : List LooperData → Type 0
OwnIsLarge loopers = (l : LooperData) → slice_get loopers 0 ≡ Some l → 2 ≤ l.capacity

pub record AppIs (a : AppData) : Type 0 where
  pub path_is : is_path a.path ≡ true
  pub signature_is : is_signature a.signature ≡ true
  pub few : length a.loopers ≤ 8
  pub words : All (λ (l : LooperData). is_word l.name ≡ true) a.loopers
  pub differ : Differ name_of a.loopers
  pub own : OwnIsLarge a.loopers

pub record AppsAre (apps : List AppData) : Type 0 where
  pub few : length apps ≤ 16
  pub differ : Differ path_of apps
  pub each : All AppIs apps
  -- each but the last has a looper
  pub filled : (i : ℕ) (a : AppData) → slice_get apps i ≡ Some a → i + 1 < length apps → 1 ≤ length a.loopers

pub nothing_is : AppsAre []
nothing_is = record { few = omega arith; differ = λ i j x y lt at there e. absurd cc; each = All-nil AppIs; filled = λ i a at lt. absurd cc }

-- ---- a line in the last application
in_app_are : (change : AppData → AppData) (apps : List AppData) → ((a : AppData) → (change a).path ≡ a.path) → ((a : AppData) → last_item apps ≡ Some a → AppIs a → AppIs (change a)) → AppsAre apps → AppsAre (in_app change apps)
in_app_are change apps path step h =
    let same = length_changed change apps in
    record {
      few = omega (arith, h.few, same);
      differ = differ_changed path_of change apps path h.differ;
      each = all_changed AppIs change apps step h.each;
      filled = λ i a at lt. by_place i a (omega (arith, lt, same)) (changed_get change apps i a at);
    } where
      by_place : (i : ℕ) (a : AppData) → i + 1 < length apps → (slice_get apps i ≡ Some a) ⊎ ((x : AppData) × (i + 1 ≡ length apps) × (slice_get apps i ≡ Some x) × (a ≡ change x)) → 1 ≤ length a.loopers
      by_place i a lt (inl old) = h.filled i a old lt
      by_place i a lt (inr t) = absurd (omega (arith, lt, t.1))

-- ---- a line in the last looper, which keeps its name and its capacity
own_changed : (change : LooperData → LooperData) (loopers : List LooperData) → ((l : LooperData) → (change l).capacity ≡ l.capacity) → OwnIsLarge loopers → OwnIsLarge (with_changed change loopers)
own_changed change loopers capacity own l at = by_place (changed_get change loopers 0 l at) where
  by_place : (slice_get loopers 0 ≡ Some l) ⊎ ((x : LooperData) × (0 + 1 ≡ length loopers) × (slice_get loopers 0 ≡ Some x) × (l ≡ change x)) → 2 ≤ l.capacity
  by_place (inl old) = own l old
  by_place (inr t) = let same : l.capacity ≡ t.0.capacity = ap (λ (x : LooperData). x.capacity) t.3 ∙ capacity t.0 in omega (arith, same, own t.0 t.2)

looper_is : (change : LooperData → LooperData) (a : AppData) → ((l : LooperData) → (change l).name ≡ l.name) → ((l : LooperData) → (change l).capacity ≡ l.capacity) → AppIs a → AppIs (record a { loopers = with_changed change a.loopers })
looper_is change a name capacity h =
    record {
      path_is = h.path_is;
      signature_is = h.signature_is;
      few = omega (arith, h.few, length_changed change a.loopers);
      words = all_changed (λ (l : LooperData). is_word l.name ≡ true) change a.loopers (λ l last word. subst (λ (n : List ℕ). is_word n ≡ true) (sym (name l)) word) h.words;
      differ = differ_changed name_of change a.loopers name h.differ;
      own = own_changed change a.loopers capacity h.own;
    }

in_looper_are : (change : LooperData → LooperData) (apps : List AppData) → ((l : LooperData) → (change l).name ≡ l.name) → ((l : LooperData) → (change l).capacity ≡ l.capacity) → AppsAre apps → AppsAre (in_looper change apps)
in_looper_are change apps name capacity h =
    in_app_are (λ (a : AppData). record a { loopers = with_changed change a.loopers }) apps (λ a. refl) (λ a last is. looper_is change a name capacity is) h

in_row_are : (change : RowData → RowData) (apps : List AppData) → AppsAre apps → AppsAre (in_looper (λ (l : LooperData). record l { rows = with_changed change l.rows }) apps)
in_row_are change apps h = in_looper_are (λ (l : LooperData). record l { rows = with_changed change l.rows }) apps (λ l. refl) (λ l. refl) h

-- a line that opens no application and no looper
abbrev IsInside : Form → Type 0
IsInside (says_app f) = ⊥
IsInside (says_looper f) = ⊥
IsInside says_hook = Unit {0}
IsInside (says_prefer name) = Unit {0}
IsInside (says_common f) = Unit {0}
IsInside (says_handler name) = Unit {0}
IsInside (says_next name) = Unit {0}
IsInside (says_suite name) = Unit {0}
IsInside (says_filter f) = Unit {0}
IsInside (says_property p) = Unit {0}
IsInside (says_element e) = Unit {0}
IsInside (says_on code) = Unit {0}
IsInside (says_action a) = Unit {0}

inside_are : (apps : List AppData) (form : Form) → IsInside form → AppsAre apps → AppsAre (with_form apps form)
inside_are apps (says_app f) is h = absurd is
inside_are apps (says_looper f) is h = absurd is
inside_are apps says_hook is h = in_looper_are (λ (l : LooperData). record l { quit_refused = true }) apps (λ l. refl) (λ l. refl) h
inside_are apps (says_prefer name) is h = in_looper_are (λ (l : LooperData). record l { preferred = Some name }) apps (λ l. refl) (λ l. refl) h
inside_are apps (says_common f) is h = in_looper_are (λ (l : LooperData). record l { common = l.common ++ f ∷ [] }) apps (λ l. refl) (λ l. refl) h
inside_are apps (says_handler name) is h = in_looper_are (λ (l : LooperData). record l { rows = l.rows ++ opened name ∷ [] }) apps (λ l. refl) (λ l. refl) h
inside_are apps (says_next name) is h = in_row_are (λ (r : RowData). record r { next = Some name }) apps h
inside_are apps (says_suite name) is h = in_row_are (λ (r : RowData). record r { suites = r.suites ++ name ∷ [] }) apps h
inside_are apps (says_filter f) is h = in_row_are (λ (r : RowData). record r { filters = r.filters ++ f ∷ [] }) apps h
inside_are apps (says_property p) is h = in_row_are (λ (r : RowData). record r { properties = r.properties ++ new_property p (usage_of p.usage) ∷ [] }) apps h
inside_are apps (says_element e) is h = in_row_are (λ (r : RowData). record r { properties = with_changed (element_added e) r.properties }) apps h
inside_are apps (says_on code) is h = in_row_are (λ (r : RowData). record r { reactions = r.reactions ++ new_reaction code ∷ [] }) apps h
inside_are apps (says_action a) is h = in_row_are (λ (r : RowData). record r { reactions = with_changed (action_added a) r.reactions }) apps h

-- ---- a line that opens an application
last_filled : (apps : List AppData) (i : ℕ) (a : AppData) → slice_get apps i ≡ Some a → i + 1 ≡ length apps → IsComplete apps → 1 ≤ length a.loopers
last_filled apps i a at e (inl none) = let empty : length apps ≡ 0 = ap (λ (xs : List AppData). length xs) none in absurd (omega (arith, e, empty))
last_filled apps i a at e (inr t) =
    let place : i ≡ length apps - 1 = omega (arith, e) in
    let same : t.0 ≡ a = one_some (last_item apps) t.0 a t.1 (ap (slice_get apps) (sym place) ∙ at) in
    some_there a.loopers (subst (λ (x : AppData). x.loopers ≢ []) same t.2)

pub complete_filled : (apps : List AppData) → AppsAre apps → IsComplete apps → (i : ℕ) (a : AppData) → slice_get apps i ≡ Some a → 1 ≤ length a.loopers
complete_filled apps h complete i a at =
    let within = slice_get_within apps i a at in
    ⊎_elim (λ (lt : i + 1 < length apps). h.filled i a at lt) (λ (le : length apps ≤ i + 1). last_filled apps i a at (omega (arith, le, within)) complete) (cases_lt (i + 1) (length apps))

new_app_is : (f : AppForm) (words : List (List ℕ)) → SaysApp words f → AppIs (new_app f)
new_app_is f words said =
    record {
      path_is = said.path_is;
      signature_is = said.signature_is;
      few = omega arith;
      words = All-nil (λ (l : LooperData). is_word l.name ≡ true);
      differ = λ i j x y lt at there e. absurd cc;
      own = λ l at. absurd cc;
    }

app_are : (apps : List AppData) (f : AppForm) (words : List (List ℕ)) → SaysApp words f → IsComplete apps → (Any (λ (a : AppData). a.path ≡ f.path) apps → ⊥) → length apps < 16 → AppsAre apps → AppsAre (apps ++ new_app f ∷ [])
app_are apps f words said complete new room h =
    let more = length_push apps (new_app f) in
    record {
      few = omega (arith, room, more);
      differ = differ_push path_of apps (new_app f) new h.differ;
      each = All-push AppIs apps (new_app f) h.each (new_app_is f words said);
      filled = λ i a at lt. by_place i a (omega (arith, lt, more)) (push_cases apps (new_app f) i a at);
    } where
      by_place : (i : ℕ) (a : AppData) → i < length apps → (slice_get apps i ≡ Some a) ⊎ ((i ≡ length apps) × (new_app f ≡ a)) → 1 ≤ length a.loopers
      by_place i a lt (inl old) = complete_filled apps h complete i a old
      by_place i a lt (inr last) = absurd (omega (arith, lt, last.0))

-- ---- a line that opens a looper
capacity_least : (least n : ℕ) (part : List (List ℕ)) → least ≤ 2 → IsCapacity least n part → least ≤ n
capacity_least least n part low (inl none) = omega (arith, low, none.1)
capacity_least least n part low (inr given) = given.2.1

own_push : (loopers : List LooperData) (f : LooperForm) → least_of loopers ≤ f.capacity → OwnIsLarge loopers → OwnIsLarge (loopers ++ new_looper f ∷ [])
own_push [] f least own l at =
    let same : new_looper f ≡ l = one_some (Some (new_looper f)) (new_looper f) l refl at in
    subst (λ (x : LooperData). 2 ≤ x.capacity) same least
own_push (first ∷ loopers) f least own l at = own l at

low_least : (loopers : List LooperData) → least_of loopers ≤ 2
low_least [] = omega arith
low_least (l ∷ loopers) = omega arith

more_loopers : (a : AppData) (f : LooperForm) (words : List (List ℕ)) → SaysLooper (least_of a.loopers) words f → (Any (λ (l : LooperData). l.name ≡ f.name) a.loopers → ⊥) → length a.loopers < 8
    → AppIs a → AppIs (record a { loopers = a.loopers ++ new_looper f ∷ [] })
more_loopers a f words said new room h =
    record {
      path_is = h.path_is;
      signature_is = h.signature_is;
      few = omega (arith, room, length_push a.loopers (new_looper f));
      words = All-push (λ (l : LooperData). is_word l.name ≡ true) a.loopers (new_looper f) h.words said.name_is;
      differ = differ_push name_of a.loopers (new_looper f) new h.differ;
      own = own_push a.loopers f (capacity_least (least_of a.loopers) f.capacity said.part (low_least a.loopers) said.capacity_is) h.own;
    }

looper_are : (apps : List AppData) (f : LooperForm) (words : List (List ℕ)) → SaysLooper (least_of (loopers_in (last_item apps))) words f → (HasLooper (last_item apps) f.name → ⊥) → length (loopers_in (last_item apps)) < 8
    → AppsAre apps → AppsAre (in_app (λ (a : AppData). record a { loopers = a.loopers ++ new_looper f ∷ [] }) apps)
looper_are apps f words said new room h =
    in_app_are (λ (a : AppData). record a { loopers = a.loopers ++ new_looper f ∷ [] }) apps (λ a. refl)
    (λ a last is. more_loopers a f words (subst (λ (o : Option AppData). SaysLooper (least_of (loopers_in o)) words f) last said)
    (λ used. new (subst (λ (o : Option AppData). HasLooper o f.name) (sym last) used)) (subst (λ (o : Option AppData). length (loopers_in o) < 8) last room) is) h

-- ---- each line
inside_line : (s : State) (form said : Form) → form ≡ said → IsInside said → AppsAre s.apps → AppsAre (with_form s.apps form)
inside_line s form said e is h = subst (λ (x : Form). AppsAre (with_form s.apps x)) (sym e) (inside_are s.apps said is h)

pub form_are : (s : State) (keyword : Keyword) (words : List (List ℕ)) (form : Form) → MayStand s keyword → Says s keyword words form → (IsInUse s form → ⊥) → IsWithin s form → AppsAre s.apps → AppsAre (with_form s.apps form)
form_are s key.App words form stands said new within h =
    subst (λ (x : Form). AppsAre (with_form s.apps x)) (sym said.1)
    (app_are s.apps said.0 words said.2 stands (λ used. new (subst (IsInUse s) (sym said.1) used)) (subst (IsWithin s) said.1 within) h)
form_are s key.Looper words form stands said new within h =
    subst (λ (x : Form). AppsAre (with_form s.apps x)) (sym said.1)
    (looper_are s.apps said.0 words said.2 (λ used. new (subst (IsInUse s) (sym said.1) used)) (subst (IsWithin s) said.1 within) h)
form_are s key.Hook words form stands said new within h = inside_line s form says_hook said.0 tt h
form_are s key.Prefer words form stands said new within h = inside_line s form (says_prefer said.0) said.1 tt h
form_are s key.Common words form stands said new within h = inside_line s form (says_common said.0) said.1 tt h
form_are s key.Handler words form stands said new within h = inside_line s form (says_handler said.0) said.1 tt h
form_are s key.Next words form stands said new within h = inside_line s form (says_next said.0) said.1 tt h
form_are s key.Suite words form stands said new within h = inside_line s form (says_suite said.0) said.1 tt h
form_are s key.Filter words form stands said new within h = inside_line s form (says_filter said.0) said.1 tt h
form_are s key.Property words form stands said new within h = inside_line s form (says_property said.0) said.1 tt h
form_are s key.Element words form stands said new within h = inside_line s form (says_element said.0) said.1 tt h
form_are s key.On words form stands said new within h = inside_line s form (says_on said.0) said.1 tt h
form_are s key.Reply words form stands said new within h = inside_line s form (says_action said.0) said.1 tt h
form_are s key.Post words form stands said new within h = inside_line s form (says_action said.0) said.1 tt h
form_are s key.Ask words form stands said new within h = inside_line s form (says_action said.0) said.1 tt h
form_are s key.Set words form stands said new within h = inside_line s form (says_action said.0) said.1 tt h
form_are s key.Add words form stands said new within h = inside_line s form (says_action said.0) said.1 tt h
form_are s key.Drop words form stands said new within h = inside_line s form (says_action said.0) said.1 tt h
form_are s key.Quit words form stands said new within h = inside_line s form (says_action said.0) said.1 tt h
