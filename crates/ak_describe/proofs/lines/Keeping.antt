-- What always holds of what is open stays so as lines are added.
use Rattle.std.proofs.Common.{◌≡◌, ◌≢◌, ℕ, ◌<◌, ◌≤◌, true, List, [], ◌∷◌, ◌++◌, length, Option, Some, None, IfSome, option_map, refl, sym, ap, subst, ◌∙◌, arith}
use Rattle.std.proofs.lemmas.List.{length_push}
use Rattle.std.proofs.lemmas.Option.{IfSome_then}
use Rattle.ak_base.specs.declared.limited.Limited.{Limited}
use Rattle.ak_base.specs.declared.limited.Limited.TheVariants.{Within, Over}
use Rattle.ak_base.specs.declared.code.Code.{Code}
use Rattle.ak_filter.specs.declared.filter.Filter.{Filter}
use Rattle.ak_message.specs.declared.kind.Kind.TheVariants as k
use Rattle.ak_message.specs.Message.{ValueData}
use Rattle.ak_action.specs.declared.action.Action.{Action}
use Rattle.ak_action.specs.declared.action.Reaction.{Reaction}
use Rattle.ak_describe.specs.declared.form.heads.AppForm.{AppForm}
use Rattle.ak_describe.specs.declared.form.heads.LooperForm.{LooperForm}
use Rattle.ak_describe.specs.declared.form.property.PropertyForm.{PropertyForm}
use Rattle.ak_describe.specs.declared.keyword.After.{After}
use Rattle.ak_describe.specs.declared.keyword.After.TheVariants as following
use Rattle.ak_describe.specs.declared.keyword.Keyword.{Keyword}
use Rattle.ak_describe.specs.declared.keyword.Keyword.TheVariants as key
use Rattle.ak_describe.specs.declared.parts.PropertyParts.{PropertyParts}
use Rattle.ak_describe.specs.Keyword.{after_of}
use Rattle.ak_describe.specs.Parts.{RowData, LooperData, AppData, opened}
use Rattle.ak_describe.specs.Pass.{State, last_item, loopers_in, open_looper, rows_in, new_app, new_looper, new_property, new_reaction, nothing_read}
use Rattle.ak_describe.specs.Says.{Form, says_app, says_looper, says_hook, says_prefer, says_common, says_handler, says_next, says_suite, says_filter, says_property, says_element, says_on, says_action, MayStand, Says, IsWithin, LooperHas, RowHas, PropertyHas, ReactionHas, open_row, properties_in, open_properties, reactions_in, with_changed, in_app, in_looper, in_row, usage_of, element_added, action_added, with_form}
use Rattle.ak_describe.proofs.ground.Ends.{some_there, last_there, last_push, last_changed, length_changed}
use Rattle.ak_describe.proofs.lines.Standing.{PropertyFits, ReactionFits, RowFits, LooperFits, OpenFits, StateFits, is_open_after, fits_at, open_row_is}

-- ---- what is open then
open_of_app : (apps : List AppData) (a : AppData) → a.loopers ≡ [] → open_looper (apps ++ a ∷ []) ≡ None
open_of_app apps a none = ap (λ (o : Option AppData). last_item (loopers_in o)) (last_push apps a) ∙ ap (λ (ls : List LooperData). last_item ls) none

pub loopers_changed : (change : AppData → AppData) (apps : List AppData) → loopers_in (last_item (in_app change apps)) ≡ loopers_in (option_map change (last_item apps))
loopers_changed change apps = ap (λ (o : Option AppData). loopers_in o) (last_changed change apps)

loopers_with_by : (change : LooperData → LooperData) (o : Option AppData) → loopers_in (option_map (λ (a : AppData). record a { loopers = with_changed change a.loopers }) o) ≡ with_changed change (loopers_in o)
loopers_with_by change None = refl
loopers_with_by change (Some a) = refl

pub loopers_with : (change : LooperData → LooperData) (apps : List AppData) → loopers_in (last_item (in_looper change apps)) ≡ with_changed change (loopers_in (last_item apps))
loopers_with change apps = loopers_changed (λ (a : AppData). record a { loopers = with_changed change a.loopers }) apps ∙ loopers_with_by change (last_item apps)

pub open_with : (change : LooperData → LooperData) (apps : List AppData) → open_looper (in_looper change apps) ≡ option_map change (open_looper apps)
open_with change apps = ap last_item (loopers_with change apps) ∙ last_changed change (loopers_in (last_item apps))

open_more : (l : LooperData) (apps : List AppData) (a : AppData) → last_item apps ≡ Some a → open_looper (in_app (λ (b : AppData). record b { loopers = b.loopers ++ l ∷ [] }) apps) ≡ Some l
open_more l apps a is =
    ap last_item (loopers_changed (λ (b : AppData). record b { loopers = b.loopers ++ l ∷ [] }) apps)
    ∙ ap (λ (o : Option AppData). last_item (loopers_in (option_map (λ (b : AppData). record b { loopers = b.loopers ++ l ∷ [] }) o))) is
    ∙ last_push a.loopers l

-- ---- a looper and its handler
plain_row : (r : RowData) (after : After) → RowFits r after → RowFits r following.Plain
plain_row r after h = record { filters = h.filters; property = h.property; reaction = h.reaction; element = λ e. absurd cc; action = λ e. absurd cc }

opened_fits : (name : List ℕ) → RowFits (opened name) following.Plain
opened_fits name = record { filters = omega arith; property = tt; reaction = tt; element = λ e. absurd cc; action = λ e. absurd cc }

new_looper_fits : (f : LooperForm) → LooperFits (new_looper f) following.Plain
new_looper_fits f = record { common = omega arith; row = opened f.name; is_last = last_push [] (opened f.name); fits = opened_fits f.name }

-- the handler that is open becomes another one
row_fits_in : (change : RowData → RowData) (l : LooperData) (before after : After) → (h : LooperFits l before) → RowFits (change h.row) after → LooperFits (record l { rows = with_changed change l.rows }) after
row_fits_in change l before after h f =
    record { common = h.common; row = change h.row; is_last = last_changed change l.rows ∙ ap (option_map change) h.is_last; fits = f }

looper_kept : (change : LooperData → LooperData) (s : State) (l : LooperData) (after : After) → open_looper s.apps ≡ Some l → LooperFits (change l) after → OpenFits (open_looper (in_looper change s.apps)) after
looper_kept change s l after is h =
    let e : open_looper (in_looper change s.apps) ≡ Some (change l) = open_with change s.apps ∙ ap (option_map change) is in
    subst (λ (o : Option LooperData). OpenFits o after) (sym e) h

row_kept : (change : RowData → RowData) (s : State) (l : LooperData) (after : After) → open_looper s.apps ≡ Some l → (h : LooperFits l s.after) → RowFits (change h.row) after → OpenFits (open_looper (in_row change s.apps)) after
row_kept change s l after is h f = looper_kept (λ (m : LooperData). record m { rows = with_changed change m.rows }) s l after is (row_fits_in change l s.after after h f)

-- ---- lists that grow
if_last : {A : Type 0} (P : A → Type 0) (xs : List A) (x : A) → P x → IfSome (last_item (xs ++ x ∷ [])) P
if_last P xs x h = subst (λ o. IfSome o P) (sym (last_push xs x)) h

if_changed_by : {A : Type 0} (P : A → Type 0) (change : A → A) (o : Option A) → ((x : A) → o ≡ Some x → P x → P (change x)) → IfSome o P → IfSome (option_map change o) P
if_changed_by P change None step h = tt
if_changed_by P change (Some x) step h = step x refl h

if_changed : {A : Type 0} (P : A → Type 0) (change : A → A) (xs : List A) → ((x : A) → last_item xs ≡ Some x → P x → P (change x)) → IfSome (last_item xs) P → IfSome (last_item (with_changed change xs)) P
if_changed P change xs step h = subst (λ o. IfSome o P) (sym (last_changed change xs)) (if_changed_by P change (last_item xs) step h)

new_property_fits : (p : PropertyForm) (usage : List ℕ) → p.kind ≢ k.Message → PropertyFits (new_property p usage)
new_property_fits p usage other = record { kind_is = other; same_kind = refl; limit = omega arith; next_id = refl }

element_fits : (e : Limited (List ℕ × ValueData)) (p : PropertyParts) → length p.elements.list < 64 → PropertyFits p → PropertyFits (element_added e p)
element_fits Over p lt h = h
element_fits (Within x) p lt h =
    let more = length_push p.elements.list (record { name = x.0; id = p.elements.next_id; value = x.1 }) in
    record { kind_is = h.kind_is; same_kind = h.same_kind; limit = omega (arith, more); next_id = omega (arith, more, h.next_id) }

action_fits : (a : Limited Action) (r : Reaction) → length r.actions < 16 → ReactionFits r → ReactionFits (action_added a r)
action_fits Over r lt h = h
action_fits (Within a) r lt h = omega (arith, length_push r.actions a)

-- ---- what a line asks of the limits, of what is open
looper_has : (o : Option LooperData) (l : LooperData) (P : LooperData → Type 0) → o ≡ Some l → LooperHas o P → P l
looper_has o l P e h = subst (λ (x : Option LooperData). LooperHas x P) e h

row_has : (o : Option RowData) (r : RowData) (P : RowData → Type 0) → o ≡ Some r → RowHas o P → P r
row_has o r P e h = subst (λ (x : Option RowData). RowHas x P) e h

property_has : (o : Option PropertyParts) (p : PropertyParts) (P : PropertyParts → Type 0) → o ≡ Some p → PropertyHas o P → P p
property_has o p P e h = subst (λ (x : Option PropertyParts). PropertyHas x P) e h

reaction_has : (o : Option Reaction) (r : Reaction) (P : Reaction → Type 0) → o ≡ Some r → ReactionHas o P → P r
reaction_has o r P e h = subst (λ (x : Option Reaction). ReactionHas x P) e h

-- ---- a line in a looper
module _ (s : State) (l : LooperData) (h : StateFits s) (is : open_looper s.apps ≡ Some l) where
  fits : LooperFits l s.after
  fits = fits_at (open_looper s.apps) s.after l h is

  row_is : open_row s ≡ Some fits.row
  row_is = open_row_is s l fits.row is fits.is_last

  -- where the handlers stay
  head_kept : (change : LooperData → LooperData) → (change l).rows ≡ l.rows → length (change l).common ≤ 32 → OpenFits (open_looper (in_looper change s.apps)) following.Plain
  head_kept change same le =
      looper_kept change s l following.Plain is (record { common = le; row = fits.row; is_last = ap last_item same ∙ fits.is_last; fits = plain_row fits.row s.after fits.fits })

  common_kept : (f : Filter) → LooperHas (open_looper s.apps) (λ m. length m.common < 32) → OpenFits (open_looper (with_form s.apps (says_common f))) following.Plain
  common_kept f within =
      let lt : length l.common < 32 = looper_has (open_looper s.apps) l (λ m. length m.common < 32) is within in
      head_kept (λ (m : LooperData). record m { common = m.common ++ f ∷ [] }) refl (omega (arith, lt, length_push l.common f))

  handler_kept : (name : List ℕ) → OpenFits (open_looper (with_form s.apps (says_handler name))) following.Plain
  handler_kept name =
      looper_kept (λ (m : LooperData). record m { rows = m.rows ++ opened name ∷ [] }) s l following.Plain is
      (record { common = fits.common; row = opened name; is_last = last_push l.rows (opened name); fits = opened_fits name })

  next_kept : (name : List ℕ) → OpenFits (open_looper (with_form s.apps (says_next name))) following.Plain
  next_kept name =
      let f = plain_row fits.row s.after fits.fits in
      row_kept (λ (r : RowData). record r { next = Some name }) s l following.Plain is fits (record { filters = f.filters; property = f.property; reaction = f.reaction; element = f.element; action = f.action })

  suite_kept : (name : List ℕ) → OpenFits (open_looper (with_form s.apps (says_suite name))) following.Plain
  suite_kept name =
      let f = plain_row fits.row s.after fits.fits in
      row_kept (λ (r : RowData). record r { suites = r.suites ++ name ∷ [] }) s l following.Plain is fits (record { filters = f.filters; property = f.property; reaction = f.reaction; element = f.element; action = f.action })

  filter_kept : (x : Filter) → RowHas (open_row s) (λ r. length r.filters < 32) → OpenFits (open_looper (with_form s.apps (says_filter x))) following.Plain
  filter_kept x within =
      let f = plain_row fits.row s.after fits.fits in
      let lt : length fits.row.filters < 32 = row_has (open_row s) fits.row (λ r. length r.filters < 32) row_is within in
      row_kept (λ (r : RowData). record r { filters = r.filters ++ x ∷ [] }) s l following.Plain is fits
      (record { filters = omega (arith, lt, length_push fits.row.filters x); property = f.property; reaction = f.reaction; element = f.element; action = f.action })

  property_kept : (p : PropertyForm) → p.kind ≢ k.Message → OpenFits (open_looper (with_form s.apps (says_property p))) following.Element
  property_kept p other =
      let new : PropertyParts = new_property p (usage_of p.usage) in
      row_kept (λ (r : RowData). record r { properties = r.properties ++ new_property p (usage_of p.usage) ∷ [] }) s l following.Element is fits
      (record {
        filters = fits.fits.filters;
        property = if_last PropertyFits fits.row.properties new (new_property_fits p (usage_of p.usage) other);
        reaction = fits.fits.reaction;
        element = λ e. omega (arith, length_push fits.row.properties new);
        action = λ e. absurd cc;
      })

  on_kept : (code : Code) → OpenFits (open_looper (with_form s.apps (says_on code))) following.Action
  on_kept code =
      row_kept (λ (r : RowData). record r { reactions = r.reactions ++ new_reaction code ∷ [] }) s l following.Action is fits
      (record {
        filters = fits.fits.filters;
        property = fits.fits.property;
        reaction = if_last ReactionFits fits.row.reactions (new_reaction code) (let none : length (new_reaction code).actions ≤ 16 = omega arith in none);
        element = λ e. absurd cc;
        action = λ e. omega (arith, length_push fits.row.reactions (new_reaction code));
      })

  element_kept : (e : Limited (List ℕ × ValueData)) → s.after ≡ following.Element → PropertyHas (last_item (open_properties s)) (λ p. length p.elements.list < 64)
      → OpenFits (open_looper (with_form s.apps (says_element e))) following.Element
  element_kept e stands within =
      let last : (p : PropertyParts) → last_item fits.row.properties ≡ Some p → length p.elements.list < 64 =
      λ p is_p. property_has (last_item (open_properties s)) p (λ q. length q.elements.list < 64) (ap (λ (o : Option RowData). last_item (properties_in o)) row_is ∙ is_p) within in
      row_kept (λ (r : RowData). record r { properties = with_changed (element_added e) r.properties }) s l following.Element is fits
      (record {
        filters = fits.fits.filters;
        property = if_changed PropertyFits (element_added e) fits.row.properties (λ p is_p p_fits. element_fits e p (last p is_p) p_fits) fits.fits.property;
        reaction = fits.fits.reaction;
        element = λ _. omega (arith, fits.fits.element stands, length_changed (element_added e) fits.row.properties);
        action = λ x. absurd cc;
      })

  action_kept : (a : Limited Action) → s.after ≡ following.Action → ReactionHas (last_item (reactions_in (open_row s))) (λ r. length r.actions < 16)
      → OpenFits (open_looper (with_form s.apps (says_action a))) following.Action
  action_kept a stands within =
      let last : (r : Reaction) → last_item fits.row.reactions ≡ Some r → length r.actions < 16 =
      λ r is_r. reaction_has (last_item (reactions_in (open_row s))) r (λ x. length x.actions < 16) (ap (λ (o : Option RowData). last_item (reactions_in o)) row_is ∙ is_r) within in
      row_kept (λ (r : RowData). record r { reactions = with_changed (action_added a) r.reactions }) s l following.Action is fits
      (record {
        filters = fits.fits.filters;
        property = fits.fits.property;
        reaction = if_changed ReactionFits (action_added a) fits.row.reactions (λ r is_r r_fits. action_fits a r (last r is_r) r_fits) fits.fits.reaction;
        element = λ x. absurd cc;
        action = λ _. omega (arith, fits.fits.action stands, length_changed (action_added a) fits.row.reactions);
      })

-- ---- each line
app_kept : (s : State) (f : AppForm) → OpenFits (open_looper (with_form s.apps (says_app f))) following.Plain
app_kept s f = subst (λ (o : Option LooperData). OpenFits o following.Plain) (sym (open_of_app s.apps (new_app f) refl)) refl

looper_line_kept : (s : State) (f : LooperForm) (a : AppData) → last_item s.apps ≡ Some a → OpenFits (open_looper (with_form s.apps (says_looper f))) following.Plain
looper_line_kept s f a is = subst (λ (o : Option LooperData). OpenFits o following.Plain) (sym (open_more (new_looper f) s.apps a is)) (new_looper_fits f)

by_form : (s : State) (form said : Form) (after : After) → form ≡ said → (IsWithin s said → OpenFits (open_looper (with_form s.apps said)) after) → IsWithin s form → OpenFits (open_looper (with_form s.apps form)) after
by_form s form said after e h within =
    subst (λ (x : Form). OpenFits (open_looper (with_form s.apps x)) after) (sym e) (h (subst (λ (x : Form). IsWithin s x) e within))

action_line_kept : (s : State) (form : Form) (a : Limited Action) → StateFits s → s.after ≡ following.Action → form ≡ says_action a → IsWithin s form → OpenFits (open_looper (with_form s.apps form)) following.Action
action_line_kept s form a h is e within =
    let l = is_open_after (open_looper s.apps) s.after h (λ plain. cc (is, plain)) in
    by_form s form (says_action a) following.Action e (λ w. action_kept s l.0 h l.1 a is w.1) within

element_line_kept : (s : State) (form : Form) (x : Limited (List ℕ × ValueData)) → StateFits s → s.after ≡ following.Element → form ≡ says_element x → IsWithin s form → OpenFits (open_looper (with_form s.apps form)) following.Element
element_line_kept s form x h is e within =
    let l = is_open_after (open_looper s.apps) s.after h (λ plain. cc (is, plain)) in
    by_form s form (says_element x) following.Element e (λ w. element_kept s l.0 h l.1 x is w.1) within

pub form_kept : (s : State) (keyword : Keyword) (words : List (List ℕ)) (form : Form) → StateFits s → MayStand s keyword → Says s keyword words form → IsWithin s form → OpenFits (open_looper (with_form s.apps form)) (after_of keyword)
form_kept s key.App words form h stands said within = by_form s form (says_app said.0) following.Plain said.1 (λ w. app_kept s said.0) within
form_kept s key.Looper words form h stands said within =
    let a = last_there s.apps (some_there s.apps stands) in
    by_form s form (says_looper said.0) following.Plain said.1 (λ w. looper_line_kept s said.0 a.0 a.1) within
form_kept s key.Hook words form h stands said within =
    let l = fits_at (open_looper s.apps) s.after stands.0 h stands.1 in
    by_form s form says_hook following.Plain said.0 (λ w. head_kept s stands.0 h stands.1 (λ (m : LooperData). record m { quit_refused = true }) refl l.common) within
form_kept s key.Prefer words form h stands said within =
    let l = fits_at (open_looper s.apps) s.after stands.0 h stands.1 in
    by_form s form (says_prefer said.0) following.Plain said.1 (λ w. head_kept s stands.0 h stands.1 (λ (m : LooperData). record m { preferred = Some said.0 }) refl l.common) within
form_kept s key.Common words form h stands said within = by_form s form (says_common said.0) following.Plain said.1 (λ w. common_kept s stands.0 h stands.1 said.0 w) within
form_kept s key.Handler words form h stands said within = by_form s form (says_handler said.0) following.Plain said.1 (λ w. handler_kept s stands.0 h stands.1 said.0) within
form_kept s key.Next words form h stands said within = by_form s form (says_next said.0) following.Plain said.1 (λ w. next_kept s stands.0 h stands.2 said.0) within
form_kept s key.Suite words form h stands said within = by_form s form (says_suite said.0) following.Plain said.1 (λ w. suite_kept s stands.0 h stands.1 said.0) within
form_kept s key.Filter words form h stands said within = by_form s form (says_filter said.0) following.Plain said.1 (λ w. filter_kept s stands.0 h stands.1 said.0 w) within
form_kept s key.Property words form h stands said within = by_form s form (says_property said.0) following.Element said.1 (λ w. property_kept s stands.0 h stands.1 said.0 said.2.kind_is) within
form_kept s key.Element words form h stands said within = element_line_kept s form said.0 h stands said.1 within
form_kept s key.On words form h stands said within = by_form s form (says_on said.0) following.Action said.1 (λ w. on_kept s stands.0 h stands.1 said.0) within
form_kept s key.Reply words form h stands said within = action_line_kept s form said.0 h stands said.1 within
form_kept s key.Post words form h stands said within = action_line_kept s form said.0 h stands said.1 within
form_kept s key.Ask words form h stands said within = action_line_kept s form said.0 h stands said.1 within
form_kept s key.Set words form h stands said within = action_line_kept s form said.0 h stands said.1 within
form_kept s key.Add words form h stands said within = action_line_kept s form said.0 h stands said.1 within
form_kept s key.Drop words form h stands said within = action_line_kept s form said.0 h stands said.1 within
form_kept s key.Quit words form h stands said within = action_line_kept s form said.0 h stands said.1 within

pub nothing_fits : StateFits nothing_read
nothing_fits = refl

-- ---- no property is of messages
no_messages_by : (o : Option LooperData) (after : After) → OpenFits o after → IfSome (last_item (properties_in (last_item (rows_in o)))) (λ p. p.row.kind ≢ k.Message)
no_messages_by None after h = tt
no_messages_by (Some l) after h =
    subst (λ (o : Option RowData). IfSome (last_item (properties_in o)) (λ p. p.row.kind ≢ k.Message)) (sym h.is_last)
    (IfSome_then (last_item h.row.properties) {P = PropertyFits} {Q = λ p. p.row.kind ≢ k.Message} h.fits.property (λ p f. f.kind_is))

pub no_messages : (s : State) → StateFits s → IfSome (last_item (open_properties s)) (λ p. p.row.kind ≢ k.Message)
no_messages s h = no_messages_by (open_looper s.apps) s.after h
