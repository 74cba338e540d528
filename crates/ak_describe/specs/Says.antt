-- What each line says, and what lines describe: all lines by what each of them says, from nothing on, with nothing against any.
use Rattle.std.specs.Prelude.{◌≡◌, ◌≢◌, ℕ, ◌-◌, ◌<◌, ◌≤◌, true, false, ◌⊎◌, List, [], ◌∷◌, ◌++◌, length, slice_set, codes, Any, Option, Some, None}
use Rattle.ak_base.specs.declared.code.Code.{Code}
use Rattle.ak_base.specs.declared.limited.Limited.{Limited}
use Rattle.ak_base.specs.declared.limited.Limited.TheVariants.{Within, Over}
use Rattle.ak_base.specs.Limits.{app_looper_limit}
use Rattle.ak_roster.specs.Limits.{app_limit}
use Rattle.ak_filter.specs.declared.filter.Filter.{Filter}
use Rattle.ak_message.specs.Message.{ValueData}
use Rattle.ak_filter.specs.Limits.{filter_limit}
use Rattle.ak_handler.specs.Limits.{handler_limit}
use Rattle.ak_property.specs.Limits.{row_limit}
use Rattle.ak_action.specs.declared.action.Action.{Action}
use Rattle.ak_action.specs.declared.action.Action.TheVariants as action
use Rattle.ak_action.specs.declared.action.Reaction.{Reaction}
use Rattle.ak_action.specs.declared.template.Template.{Template}
use Rattle.ak_value.specs.Elements.{with_last}
use Rattle.ak_value.specs.Limits.{element_limit}
use Rattle.ak_action.specs.Limits.{action_limit, reaction_limit, suite_limit}
use Rattle.ak_describe.specs.declared.form.heads.AppForm.{AppForm}
use Rattle.ak_describe.specs.declared.form.heads.LooperForm.{LooperForm}
use Rattle.ak_describe.specs.declared.form.property.PropertyForm.{PropertyForm}
use Rattle.ak_describe.specs.declared.keyword.After.TheVariants as following
use Rattle.ak_describe.specs.declared.keyword.Keyword.{Keyword}
use Rattle.ak_describe.specs.declared.keyword.Keyword.TheVariants as key
use Rattle.ak_describe.specs.declared.named.Need.{Need}
use Rattle.ak_describe.specs.declared.named.Need.TheVariants as needs
use Rattle.ak_describe.specs.declared.parts.PropertyParts.{PropertyParts}
use Rattle.ak_describe.specs.Grammar.{SaysApp, SaysLooper, SaysName, SaysCode, SaysFilter, SaysProperty, SaysElement, SaysMessage, SaysPost, SaysAsk, SaysSet, SaysAdd}
use Rattle.ak_describe.specs.Keyword.{after_of}
use Rattle.ak_describe.specs.Named.{need_of_filter, need_of_action}
use Rattle.ak_describe.specs.Parts.{RowData, LooperData, AppData, opened}
use Rattle.ak_describe.specs.Pass.{State, last_item, open_looper, loopers_in, rows_in, new_app, new_looper, new_property, new_reaction, with_need}

-- what a line says: of what passes a limit there is none
pub data Form : Type 0 where
  says_app : AppForm → Form
  says_looper : LooperForm → Form
  says_hook : Form
  says_prefer : List ℕ → Form
  says_common : Filter → Form
  says_handler : List ℕ → Form
  says_next : List ℕ → Form
  says_suite : List ℕ → Form
  says_filter : Filter → Form
  says_property : PropertyForm → Form
  says_element : Limited (List ℕ × ValueData) → Form
  says_on : Code → Form
  says_action : Limited Action → Form

-- ---- what is open: the last application, its last looper, the last handler of that
abbrev pub open_row : State → Option RowData
open_row s = last_item (rows_in (open_looper s.apps))

abbrev pub properties_in : Option RowData → List PropertyParts
properties_in None = []
properties_in (Some r) = r.properties

abbrev pub open_properties : State → List PropertyParts
open_properties s = properties_in (open_row s)

-- an application's own looper, its first, has a port of 2 messages or more
abbrev pub least_of : List LooperData → ℕ
least_of [] = 2
least_of (l ∷ loopers) = 1

-- ---- the first word
abbrev pub word_of : Keyword → List ℕ
word_of key.App = codes "app"
word_of key.Looper = codes "looper"
word_of key.Hook = codes "hook"
word_of key.Prefer = codes "prefer"
word_of key.Common = codes "common"
word_of key.Handler = codes "handler"
word_of key.Next = codes "next"
word_of key.Suite = codes "suite"
word_of key.Filter = codes "filter"
word_of key.Property = codes "property"
word_of key.Element = codes "element"
word_of key.On = codes "on"
word_of key.Reply = codes "reply"
word_of key.Post = codes "post"
word_of key.Ask = codes "ask"
word_of key.Set = codes "set"
word_of key.Add = codes "add"
word_of key.Drop = codes "drop"
word_of key.Quit = codes "quit"

-- in a looper, before its handlers
abbrev pub InHead : State → (LooperData → Type 0) → Type 0
InHead s P = (l : LooperData) × (open_looper s.apps ≡ Some l) × (length l.rows ≤ 1) × P l

-- in a handler, behind its `handler` line
abbrev pub InHandler : State → (RowData → Type 0) → Type 0
InHandler s P = (l : LooperData) × (r : RowData) × (open_looper s.apps ≡ Some l) × (1 < length l.rows) × (open_row s ≡ Some r) × P r

-- in a looper or a handler
abbrev pub InLooper : State → Type 0
InLooper s = (l : LooperData) × (open_looper s.apps ≡ Some l)

-- behind nothing, or an application with a looper
abbrev pub IsComplete : List AppData → Type 0
IsComplete apps = (apps ≡ []) ⊎ ((a : AppData) × (last_item apps ≡ Some a) × (a.loopers ≢ []))

-- where a line that begins so may stand
abbrev pub MayStand : State → Keyword → Type 0
MayStand s key.App = IsComplete s.apps
MayStand s key.Looper = s.apps ≢ []
MayStand s key.Hook = InHead s (λ l. l.quit_refused ≡ false)
MayStand s key.Prefer = InHead s (λ l. l.preferred ≡ None)
MayStand s key.Common = InHead s (λ _. Unit {0})
MayStand s key.Handler = InLooper s
MayStand s key.Next = InHandler s (λ r. r.next ≡ None)
MayStand s key.Suite = InLooper s
MayStand s key.Filter = InLooper s
MayStand s key.Property = InLooper s
MayStand s key.On = InLooper s
MayStand s key.Element = s.after ≡ following.Element
MayStand s key.Reply = s.after ≡ following.Action
MayStand s key.Post = s.after ≡ following.Action
MayStand s key.Ask = s.after ≡ following.Action
MayStand s key.Set = s.after ≡ following.Action
MayStand s key.Add = s.after ≡ following.Action
MayStand s key.Drop = s.after ≡ following.Action
MayStand s key.Quit = s.after ≡ following.Action

-- ---- the further words
abbrev pub SaysAction : (List PropertyParts → List (List ℕ) → Limited Action → Type 0) → State → List (List ℕ) → Form → Type 0
SaysAction Says s words form = (a : Limited Action) × (form ≡ says_action a) × Says (open_properties s) words a

abbrev pub replied : Limited Template → Limited Action
replied Over = Over
replied (Within m) = Within (action.Reply m)

abbrev pub SaysReply : List PropertyParts → List (List ℕ) → Limited Action → Type 0
SaysReply properties words a = (t : Limited Template) × SaysMessage properties words t × (a ≡ replied t)

abbrev pub SaysBare : Action → List PropertyParts → List (List ℕ) → Limited Action → Type 0
SaysBare bare properties words a = (words ≡ []) × (a ≡ Within bare)

-- of the property that is open, whose kind an element has
abbrev pub SaysOpenElement : State → List (List ℕ) → Limited (List ℕ × ValueData) → Type 0
SaysOpenElement s words e = (p : PropertyParts) × (last_item (open_properties s) ≡ Some p) × SaysElement p.row.kind words e

-- what the words behind the first one say, by that
abbrev pub Says : State → Keyword → List (List ℕ) → Form → Type 0
Says s key.App words form = (f : AppForm) × (form ≡ says_app f) × SaysApp words f
Says s key.Looper words form = (f : LooperForm) × (form ≡ says_looper f) × SaysLooper (least_of (loopers_in (last_item s.apps))) words f
Says s key.Hook words form = (form ≡ says_hook) × (words ≡ codes "quit" ∷ codes "refuse" ∷ [])
Says s key.Prefer words form = (name : List ℕ) × (form ≡ says_prefer name) × SaysName words name
Says s key.Common words form = (f : Filter) × (form ≡ says_common f) × SaysFilter words f
Says s key.Handler words form = (name : List ℕ) × (form ≡ says_handler name) × SaysName words name
Says s key.Next words form = (name : List ℕ) × (form ≡ says_next name) × SaysName words name
Says s key.Suite words form = (name : List ℕ) × (form ≡ says_suite name) × SaysName words name
Says s key.Filter words form = (f : Filter) × (form ≡ says_filter f) × SaysFilter words f
Says s key.Property words form = (p : PropertyForm) × (form ≡ says_property p) × SaysProperty words p
Says s key.Element words form = (e : Limited (List ℕ × ValueData)) × (form ≡ says_element e) × SaysOpenElement s words e
Says s key.On words form = (code : Code) × (form ≡ says_on code) × SaysCode words code
Says s key.Reply words form = SaysAction SaysReply s words form
Says s key.Post words form = SaysAction SaysPost s words form
Says s key.Ask words form = SaysAction SaysAsk s words form
Says s key.Set words form = SaysAction SaysSet s words form
Says s key.Add words form = SaysAction SaysAdd s words form
Says s key.Drop words form = SaysAction (SaysBare action.Stop) s words form
Says s key.Quit words form = SaysAction (SaysBare action.Quit) s words form

-- ---- names that are in use
abbrev pub HasLooper : Option AppData → List ℕ → Type 0
HasLooper None name = ⊥
HasLooper (Some a) name = Any (λ (l : LooperData). l.name ≡ name) a.loopers

abbrev pub HasRow : Option LooperData → List ℕ → Type 0
HasRow None name = ⊥
HasRow (Some l) name = Any (λ (r : RowData). r.name ≡ name) l.rows

abbrev pub HasReaction : Option RowData → Code → Type 0
HasReaction None code = ⊥
HasReaction (Some r) code = Any (λ (reaction : Reaction). reaction.what ≡ code) r.reactions

-- a path; a looper of the application; a handler of the looper, its own name too; a property or a reaction's code of the handler
abbrev pub IsInUse : State → Form → Type 0
IsInUse s (says_app f) = Any (λ (a : AppData). a.path ≡ f.path) s.apps
IsInUse s (says_looper f) = HasLooper (last_item s.apps) f.name
IsInUse s (says_handler name) = HasRow (open_looper s.apps) name
IsInUse s (says_property p) = Any (λ (q : PropertyParts). q.row.name ≡ p.name) (open_properties s)
IsInUse s (says_on code) = HasReaction (open_row s) code
IsInUse s says_hook = ⊥
IsInUse s (says_prefer name) = ⊥
IsInUse s (says_common f) = ⊥
IsInUse s (says_next name) = ⊥
IsInUse s (says_suite name) = ⊥
IsInUse s (says_filter f) = ⊥
IsInUse s (says_element e) = ⊥
IsInUse s (says_action a) = ⊥

-- ---- limits
abbrev pub RowHas : Option RowData → (RowData → Type 0) → Type 0
RowHas None P = ⊥
RowHas (Some r) P = P r

abbrev pub LooperHas : Option LooperData → (LooperData → Type 0) → Type 0
LooperHas None P = ⊥
LooperHas (Some l) P = P l

abbrev pub PropertyHas : Option PropertyParts → (PropertyParts → Type 0) → Type 0
PropertyHas None P = ⊥
PropertyHas (Some p) P = P p

abbrev pub ReactionHas : Option Reaction → (Reaction → Type 0) → Type 0
ReactionHas None P = ⊥
ReactionHas (Some r) P = P r

abbrev pub reactions_in : Option RowData → List Reaction
reactions_in None = []
reactions_in (Some r) = r.reactions

abbrev pub IsKept : {A : Type 0} → Limited A → Type 0
IsKept Over = ⊥
IsKept (Within x) = Unit {0}

-- there is room for what the line says, and it passes no limit itself
abbrev pub IsWithin : State → Form → Type 0
IsWithin s (says_app f) = length s.apps < app_limit
IsWithin s (says_looper f) = length (loopers_in (last_item s.apps)) < app_looper_limit
IsWithin s says_hook = Unit {0}
IsWithin s (says_prefer name) = Unit {0}
IsWithin s (says_common f) = LooperHas (open_looper s.apps) (λ l. length l.common < filter_limit)
IsWithin s (says_handler name) = LooperHas (open_looper s.apps) (λ l. length l.rows < handler_limit)
IsWithin s (says_next name) = Unit {0}
IsWithin s (says_suite name) = RowHas (open_row s) (λ r. length r.suites < suite_limit)
IsWithin s (says_filter f) = RowHas (open_row s) (λ r. length r.filters < filter_limit)
IsWithin s (says_property p) = IsKept p.usage × RowHas (open_row s) (λ r. length r.properties < row_limit)
IsWithin s (says_element e) = IsKept e × PropertyHas (last_item (open_properties s)) (λ p. length p.elements.list < element_limit)
IsWithin s (says_on code) = RowHas (open_row s) (λ r. length r.reactions < reaction_limit)
IsWithin s (says_action a) = IsKept a × ReactionHas (last_item (reactions_in (open_row s))) (λ r. length r.actions < action_limit)

-- ---- what the line adds
abbrev pub changed : {A : Type 0} → (A → A) → List A → Option A → List A
changed change xs None = xs
changed change xs (Some x) = slice_set xs (length xs - 1) (change x)

-- the last one of a list becomes another
abbrev pub with_changed : {A : Type 0} → (A → A) → List A → List A
with_changed change xs = changed change xs (last_item xs)

abbrev pub in_app : (AppData → AppData) → List AppData → List AppData
in_app change apps = with_changed change apps

abbrev pub in_looper : (LooperData → LooperData) → List AppData → List AppData
in_looper change apps = in_app (λ a. record a { loopers = with_changed change a.loopers }) apps

abbrev pub in_row : (RowData → RowData) → List AppData → List AppData
in_row change apps = in_looper (λ l. record l { rows = with_changed change l.rows }) apps

abbrev pub usage_of : Limited (List ℕ) → List ℕ
usage_of Over = []
usage_of (Within text) = text

abbrev pub element_added : Limited (List ℕ × ValueData) → PropertyParts → PropertyParts
element_added Over p = p
element_added (Within e) p = record p { elements = with_last p.elements e.0 e.1 }

abbrev pub action_added : Limited Action → Reaction → Reaction
action_added Over reaction = reaction
action_added (Within a) reaction = record reaction { actions = reaction.actions ++ a ∷ [] }

abbrev pub with_form : List AppData → Form → List AppData
with_form apps (says_app f) = apps ++ new_app f ∷ []
with_form apps (says_looper f) = in_app (λ a. record a { loopers = a.loopers ++ new_looper f ∷ [] }) apps
with_form apps says_hook = in_looper (λ l. record l { quit_refused = true }) apps
with_form apps (says_prefer name) = in_looper (λ l. record l { preferred = Some name }) apps
with_form apps (says_common f) = in_looper (λ l. record l { common = l.common ++ f ∷ [] }) apps
with_form apps (says_handler name) = in_looper (λ l. record l { rows = l.rows ++ opened name ∷ [] }) apps
with_form apps (says_next name) = in_row (λ r. record r { next = Some name }) apps
with_form apps (says_suite name) = in_row (λ r. record r { suites = r.suites ++ name ∷ [] }) apps
with_form apps (says_filter f) = in_row (λ r. record r { filters = r.filters ++ f ∷ [] }) apps
with_form apps (says_property p) = in_row (λ r. record r { properties = r.properties ++ new_property p (usage_of p.usage) ∷ [] }) apps
with_form apps (says_element e) = in_row (λ r. record r { properties = with_changed (element_added e) r.properties }) apps
with_form apps (says_on code) = in_row (λ r. record r { reactions = r.reactions ++ new_reaction code ∷ [] }) apps
with_form apps (says_action a) = in_row (λ r. record r { reactions = with_changed (action_added a) r.reactions }) apps

abbrev pub action_names : Limited Action → Option Need
action_names Over = None
action_names (Within a) = need_of_action a

-- the name in the line that may be given later
abbrev pub names_in : Form → Option Need
names_in (says_prefer name) = Some (needs.Handler name)
names_in (says_next name) = Some (needs.Next name)
names_in (says_common f) = need_of_filter f
names_in (says_filter f) = need_of_filter f
names_in (says_action a) = action_names a
names_in (says_app f) = None
names_in (says_looper f) = None
names_in says_hook = None
names_in (says_handler name) = None
names_in (says_suite name) = None
names_in (says_property p) = None
names_in (says_element e) = None
names_in (says_on code) = None

-- what stands there behind the line
abbrev pub state_with : State → ℕ → Keyword → Form → State
state_with s line keyword form =
    record {
      apps = with_form s.apps form;
      after = after_of keyword;
      names = with_need s.names (with_form s.apps form) line (names_in form);
    }
