-- Each action that looks for an application names it by what may be looked up, and no reaction has too many actions.
use Rattle.std.proofs.Common.{◌≡◌, ℕ, ◌<◌, ◌≤◌, Bool, true, List, [], ◌∷◌, ◌++◌, length, All, Option, Some, IsTrue, refl, sym, ap, subst, ◌∙◌, arith}
use Rattle.std.specs.Prelude.{nat_le}
use Rattle.std.specs.List.{list_all}
use Rattle.std.proofs.lemmas.Bool.{and_from, le-leb}
use Rattle.std.proofs.lemmas.List.{length_push}
use Rattle.std.proofs.lemmas.List.Elements.{All-nil, All-push, All-weaker}
use Rattle.std.proofs.lemmas.List.Folds.{list_all-map}
use Rattle.std.proofs.lemmas.List.Sums.{list_all-from_AllPass}
use Rattle.ak_base.specs.declared.limited.Limited.{Limited}
use Rattle.ak_base.specs.declared.limited.Limited.TheVariants.{Within, Over}
use Rattle.ak_base.specs.Limited.{limited_map}
use Rattle.ak_input.proofs.Surface.{IfWithin, looked_up_is}
use Rattle.ak_action.specs.Limits.{action_limit}
use Rattle.ak_action.specs.declared.action.Action.{Action}
use Rattle.ak_action.specs.declared.action.Action.TheVariants as action
use Rattle.ak_action.specs.declared.action.Dest.{Dest}
use Rattle.ak_action.specs.declared.action.Dest.TheVariants as dest
use Rattle.ak_action.specs.declared.action.Reaction.{Reaction}
use Rattle.ak_action.specs.declared.template.Given.{Given}
use Rattle.ak_action.specs.declared.template.Template.{Template}
use Rattle.ak_describe.specs.declared.keyword.Keyword.{Keyword}
use Rattle.ak_describe.specs.declared.keyword.Keyword.TheVariants as key
use Rattle.ak_describe.specs.declared.parts.PropertyParts.{PropertyParts}
use Rattle.ak_describe.specs.Described.{plan_row, plan_rows}
use Rattle.ak_describe.specs.Grammar.{SaysDest, SaysPost, SaysAsk, SaysSet, SaysAdd}
use Rattle.ak_describe.specs.Parts.{RowData, LooperData, AppData, opened}
use Rattle.ak_describe.specs.Pass.{State, last_item, loopers_in, open_looper, rows_in, new_app, new_looper, new_property, new_reaction}
use Rattle.ak_describe.specs.Says.{Form, says_app, says_looper, says_hook, says_prefer, says_common, says_handler, says_next, says_suite, says_filter, says_property, says_element, says_on, says_action, ReactionHas, open_properties, reactions_in, Says, SaysReply, SaysBare, IsWithin, replied, with_changed, in_looper, in_row, usage_of, element_added, action_added, with_form}
use Rattle.ak_describe.specs.Whole.{dest_names, action_names, reaction_names, row_names}
use Rattle.ak_describe.proofs.lines.Heading.{all_changed}

-- ---- in the parts that are read
pub record ReactionNamesApps (x : Reaction) : Type 0 where
  pub few : length x.actions ≤ action_limit
  pub each : All (λ (a : Action). action_names a ≡ true) x.actions

abbrev pub RowNamesApps : RowData → Type 0
RowNamesApps r = All ReactionNamesApps r.reactions

abbrev pub LooperNamesApps : LooperData → Type 0
LooperNamesApps l = All RowNamesApps l.rows

abbrev pub AppNamesApps : AppData → Type 0
AppNamesApps a = All LooperNamesApps a.loopers

abbrev pub AllNameApps : List AppData → Type 0
AllNameApps apps = All AppNamesApps apps

pub nothing_names : AllNameApps []
nothing_names = All-nil AppNamesApps

-- ---- a line changes the last looper, or its last handler
in_looper_names : (change : LooperData → LooperData) (apps : List AppData) → ((a : AppData) (l : LooperData) → last_item apps ≡ Some a → last_item a.loopers ≡ Some l → LooperNamesApps l → LooperNamesApps (change l))
    → AllNameApps apps → AllNameApps (in_looper change apps)
in_looper_names change apps step h =
    all_changed AppNamesApps (λ (a : AppData). record a { loopers = with_changed change a.loopers }) apps
    (λ a last is. all_changed LooperNamesApps change a.loopers (λ l here. step a l last here) is) h

in_row_names : (change : RowData → RowData) (apps : List AppData)
    → ((a : AppData) (l : LooperData) (r : RowData) → last_item apps ≡ Some a → last_item a.loopers ≡ Some l → last_item l.rows ≡ Some r → RowNamesApps r → RowNamesApps (change r))
    → AllNameApps apps → AllNameApps (in_row change apps)
in_row_names change apps step h =
    in_looper_names (λ (l : LooperData). record l { rows = with_changed change l.rows }) apps
    (λ a l last here is. all_changed RowNamesApps change l.rows (λ r there. step a l r last here there) is) h

-- a new handler has no reaction, and a new reaction no action
opened_names : (name : List ℕ) → RowNamesApps (opened name)
opened_names name = All-nil ReactionNamesApps

looper_names_none : (new : LooperData) (name : List ℕ) → new.rows ≡ opened name ∷ [] → LooperNamesApps new
looper_names_none new name is = subst (λ (rows : List RowData). All RowNamesApps rows) (sym is) (All-push RowNamesApps [] (opened name) (All-nil RowNamesApps) (opened_names name))

-- ---- an action is put to the reaction that is open, where there is room for it
has_room : (apps : List AppData) (a : AppData) (l : LooperData) (r : RowData) (x : Reaction) → last_item apps ≡ Some a → last_item a.loopers ≡ Some l → last_item l.rows ≡ Some r → last_item r.reactions ≡ Some x
    → ReactionHas (last_item (reactions_in (last_item (rows_in (open_looper apps))))) (λ (y : Reaction). length y.actions < action_limit) → length x.actions < action_limit
has_room apps a l r x app looper row reaction room =
    let open_l : open_looper apps ≡ Some l = ap (λ (o : Option AppData). last_item (loopers_in o)) app ∙ looper in
    let open_r : last_item (rows_in (open_looper apps)) ≡ Some r = ap (λ (o : Option LooperData). last_item (rows_in o)) open_l ∙ row in
    let open_x : last_item (reactions_in (last_item (rows_in (open_looper apps)))) ≡ Some x = ap (λ (o : Option RowData). last_item (reactions_in o)) open_r ∙ reaction in
    subst (λ (o : Option Reaction). ReactionHas o (λ (y : Reaction). length y.actions < action_limit)) open_x room

action_added_names : (a : Action) (x : Reaction) → action_names a ≡ true → length x.actions < action_limit → ReactionNamesApps x → ReactionNamesApps (action_added (Within a) x)
action_added_names a x named room h =
    record {
      few = omega (arith, room, length_push x.actions a);
      each = All-push (λ (y : Action). action_names y ≡ true) x.actions a h.each named;
    }

-- ---- what a line says
abbrev ActionIs : Limited Action → Type 0
ActionIs a = IfWithin a (λ (x : Action). action_names x ≡ true)

abbrev SaysNames : Form → Type 0
SaysNames (says_action a) = ActionIs a
SaysNames (says_app f) = Unit {0}
SaysNames (says_looper f) = Unit {0}
SaysNames says_hook = Unit {0}
SaysNames (says_prefer name) = Unit {0}
SaysNames (says_common f) = Unit {0}
SaysNames (says_handler name) = Unit {0}
SaysNames (says_next name) = Unit {0}
SaysNames (says_suite name) = Unit {0}
SaysNames (says_filter f) = Unit {0}
SaysNames (says_property p) = Unit {0}
SaysNames (says_element e) = Unit {0}
SaysNames (says_on code) = Unit {0}

with_form_names : (s : State) (form : Form) → SaysNames form → IsWithin s form → AllNameApps s.apps → AllNameApps (with_form s.apps form)
with_form_names s (says_app f) named within h = All-push AppNamesApps s.apps (new_app f) h (All-nil LooperNamesApps)
with_form_names s (says_looper f) named within h =
    all_changed AppNamesApps (λ (a : AppData). record a { loopers = a.loopers ++ new_looper f ∷ [] }) s.apps
    (λ a last is. All-push LooperNamesApps a.loopers (new_looper f) is (looper_names_none (new_looper f) f.name refl)) h
with_form_names s says_hook named within h = in_looper_names (λ (l : LooperData). record l { quit_refused = true }) s.apps (λ a l last here is. is) h
with_form_names s (says_prefer name) named within h = in_looper_names (λ (l : LooperData). record l { preferred = Some name }) s.apps (λ a l last here is. is) h
with_form_names s (says_common f) named within h = in_looper_names (λ (l : LooperData). record l { common = l.common ++ f ∷ [] }) s.apps (λ a l last here is. is) h
with_form_names s (says_handler name) named within h =
    in_looper_names (λ (l : LooperData). record l { rows = l.rows ++ opened name ∷ [] }) s.apps (λ a l last here is. All-push RowNamesApps l.rows (opened name) is (opened_names name)) h
with_form_names s (says_next name) named within h = in_row_names (λ (r : RowData). record r { next = Some name }) s.apps (λ a l r last here there is. is) h
with_form_names s (says_suite name) named within h = in_row_names (λ (r : RowData). record r { suites = r.suites ++ name ∷ [] }) s.apps (λ a l r last here there is. is) h
with_form_names s (says_filter f) named within h = in_row_names (λ (r : RowData). record r { filters = r.filters ++ f ∷ [] }) s.apps (λ a l r last here there is. is) h
with_form_names s (says_property p) named within h =
    in_row_names (λ (r : RowData). record r { properties = r.properties ++ new_property p (usage_of p.usage) ∷ [] }) s.apps (λ a l r last here there is. is) h
with_form_names s (says_element e) named within h = in_row_names (λ (r : RowData). record r { properties = with_changed (element_added e) r.properties }) s.apps (λ a l r last here there is. is) h
with_form_names s (says_on code) named within h =
    in_row_names (λ (r : RowData). record r { reactions = r.reactions ++ new_reaction code ∷ [] }) s.apps
    (λ a l r last here there is. All-push ReactionNamesApps r.reactions (new_reaction code) is (record { few = omega arith; each = All-nil (λ (y : Action). action_names y ≡ true) })) h
with_form_names s (says_action Over) named within h = absurd within.0
with_form_names s (says_action (Within x)) named within h =
    in_row_names (λ (r : RowData). record r { reactions = with_changed (action_added (Within x)) r.reactions }) s.apps
    (λ a l r last here there is. all_changed ReactionNamesApps (action_added (Within x)) r.reactions
    (λ y reaction y_is. action_added_names x y named (has_room s.apps a l r y last here there reaction within.1) y_is) is) h

-- ---- what an action line says
dest_said : (words : List (List ℕ)) (to : Dest) → SaysDest words to → dest_names to ≡ true
dest_said words dest.Own is = refl
dest_said words (dest.Looper name) is = refl
dest_said words (dest.Handler name) is = refl
dest_said words (dest.App word) is = looked_up_is is.0 word is.2

replied_is : (t : Limited Template) → ActionIs (replied t)
replied_is Over = tt
replied_is (Within m) = refl

posted_is : (to : Dest) (back : Bool) (message : Limited Template) → dest_names to ≡ true → ActionIs (limited_map (λ (m : Template). action.Post to m back) message)
posted_is to back Over is = tt
posted_is to back (Within m) is = is

asked_is : (to : Dest) (into : Option (List ℕ)) (message : Limited Template) → dest_names to ≡ true → ActionIs (limited_map (λ (m : Template). action.Ask to m into) message)
asked_is to into Over is = tt
asked_is to into (Within m) is = is

set_is : (name : List ℕ) (value : Limited Given) → ActionIs (limited_map (λ (g : Given). action.Set name g) value)
set_is name Over = tt
set_is name (Within g) = refl

reply_said : (properties : List PropertyParts) (words : List (List ℕ)) (a : Limited Action) → SaysReply properties words a → ActionIs a
reply_said properties words a is = subst ActionIs (sym is.2) (replied_is is.0)

post_said : (properties : List PropertyParts) (words : List (List ℕ)) (a : Limited Action) → SaysPost properties words a → ActionIs a
post_said properties words a is = subst ActionIs (sym is.kept) (posted_is is.to is.back is.message (dest_said is.to_part is.to is.to_is))

ask_said : (properties : List PropertyParts) (words : List (List ℕ)) (a : Limited Action) → SaysAsk properties words a → ActionIs a
ask_said properties words a is = subst ActionIs (sym is.kept) (asked_is is.to is.into is.message (dest_said is.to_part is.to is.to_is))

set_said : (properties : List PropertyParts) (words : List (List ℕ)) (a : Limited Action) → SaysSet properties words a → ActionIs a
set_said properties words a is = subst ActionIs (sym is.kept) (set_is is.name is.value)

add_said : (properties : List PropertyParts) (words : List (List ℕ)) (a : Limited Action) → SaysAdd properties words a → ActionIs a
add_said properties words a is = subst ActionIs (sym is.kept) refl

bare_said : (bare : Action) (properties : List PropertyParts) (words : List (List ℕ)) (a : Limited Action) → action_names bare ≡ true → SaysBare bare properties words a → ActionIs a
bare_said bare properties words a named is = subst ActionIs (sym is.1) named

-- ---- each line
says_names : (s : State) (keyword : Keyword) (words : List (List ℕ)) (form : Form) → Says s keyword words form → SaysNames form
says_names s key.App words form said = subst SaysNames (sym said.1) tt
says_names s key.Looper words form said = subst SaysNames (sym said.1) tt
says_names s key.Hook words form said = subst SaysNames (sym said.0) tt
says_names s key.Prefer words form said = subst SaysNames (sym said.1) tt
says_names s key.Common words form said = subst SaysNames (sym said.1) tt
says_names s key.Handler words form said = subst SaysNames (sym said.1) tt
says_names s key.Next words form said = subst SaysNames (sym said.1) tt
says_names s key.Suite words form said = subst SaysNames (sym said.1) tt
says_names s key.Filter words form said = subst SaysNames (sym said.1) tt
says_names s key.Property words form said = subst SaysNames (sym said.1) tt
says_names s key.Element words form said = subst SaysNames (sym said.1) tt
says_names s key.On words form said = subst SaysNames (sym said.1) tt
says_names s key.Reply words form said = subst SaysNames (sym said.1) (reply_said _ words said.0 said.2)
says_names s key.Post words form said = subst SaysNames (sym said.1) (post_said _ words said.0 said.2)
says_names s key.Ask words form said = subst SaysNames (sym said.1) (ask_said _ words said.0 said.2)
says_names s key.Set words form said = subst SaysNames (sym said.1) (set_said _ words said.0 said.2)
says_names s key.Add words form said = subst SaysNames (sym said.1) (add_said _ words said.0 said.2)
says_names s key.Drop words form said = subst SaysNames (sym said.1) (bare_said action.Stop (open_properties s) words said.0 refl said.2)
says_names s key.Quit words form said = subst SaysNames (sym said.1) (bare_said action.Quit (open_properties s) words said.0 refl said.2)

pub form_names : (s : State) (keyword : Keyword) (words : List (List ℕ)) (form : Form) → Says s keyword words form → IsWithin s form → AllNameApps s.apps → AllNameApps (with_form s.apps form)
form_names s keyword words form said within h = with_form_names s form (says_names s keyword words form said) within h

-- ---- in the plans
reaction_is : (x : Reaction) → ReactionNamesApps x → reaction_names x ≡ true
reaction_is x h =
    and_from (nat_le (length x.actions) action_limit) (list_all action_names x.actions) (le-leb (length x.actions) action_limit h.few) (list_all-from_AllPass action_names x.actions h.each)

row_is : (r : RowData) → RowNamesApps r → row_names (plan_row r) ≡ true
row_is r h = list_all-from_AllPass reaction_names r.reactions (All-weaker ReactionNamesApps (λ (x : Reaction). reaction_names x ≡ true) reaction_is r.reactions h)

pub looper_is : (l : LooperData) → LooperNamesApps l → IsTrue (list_all row_names (plan_rows l.rows))
looper_is l h =
    list_all-map row_names plan_row l.rows
    ∙ list_all-from_AllPass (λ (r : RowData). row_names (plan_row r)) l.rows (All-weaker RowNamesApps (λ (r : RowData). row_names (plan_row r) ≡ true) row_is l.rows h)
