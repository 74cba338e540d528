-- The first pass: which lines may stand, and what a line makes of what is described so far, or its first fault.
use Rattle.std.specs.Prelude.{ℕ, ◌+◌, ◌-◌, ◌^◌, min, Bool, true, false, not, ◌&&◌, ◌==◌, nat_lt, nat_le, if◌then◌else◌, is_some, is_none, List, [], ◌∷◌, ◌++◌, length, slice_get, slice_set, Option, Some, None, option_and_then, Result, Ok, Err}
use Rattle.ak_base.specs.declared.ending.RefusalKind.{RefusalKind}
use Rattle.ak_base.specs.declared.ending.RefusalKind.TheVariants as refusal
use Rattle.ak_base.specs.declared.code.Code.{Code}
use Rattle.ak_base.specs.declared.limited.Limited.{Limited}
use Rattle.ak_base.specs.declared.limited.Limited.TheVariants.{Within, Over}
use Rattle.ak_base.specs.Limits.{app_looper_limit}
use Rattle.ak_roster.specs.Limits.{app_limit}
use Rattle.ak_input.specs.declared.line.Line.{Line}
use Rattle.ak_message.specs.Message.{ValueData, kind_of}
use Rattle.ak_filter.specs.Limits.{filter_limit}
use Rattle.ak_handler.specs.Limits.{handler_limit}
use Rattle.ak_property.specs.Limits.{row_limit}
use Rattle.ak_action.specs.declared.action.Action.{Action}
use Rattle.ak_action.specs.declared.action.Action.TheVariants as action
use Rattle.ak_action.specs.declared.action.Reaction.{Reaction}
use Rattle.ak_value.specs.declared.fault.ElementFault.{ElementFault}
use Rattle.ak_value.specs.declared.fault.ElementFault.TheVariants as fault
use Rattle.ak_value.specs.Elements.{described, add_fault, with_last}
use Rattle.ak_action.specs.Limits.{action_limit, reaction_limit, suite_limit}
use Rattle.ak_describe.specs.declared.form.heads.AppForm.{AppForm}
use Rattle.ak_describe.specs.declared.form.heads.LooperForm.{LooperForm}
use Rattle.ak_describe.specs.declared.form.property.PropertyForm.{PropertyForm}
use Rattle.ak_describe.specs.declared.keyword.After.{After}
use Rattle.ak_describe.specs.declared.keyword.After.TheVariants as following
use Rattle.ak_describe.specs.declared.keyword.Keyword.{Keyword}
use Rattle.ak_describe.specs.declared.keyword.Keyword.TheVariants as key
use Rattle.ak_describe.specs.declared.named.Named.{Named}
use Rattle.ak_describe.specs.declared.named.Need.{Need}
use Rattle.ak_describe.specs.declared.named.Need.TheVariants as needs
use Rattle.ak_describe.specs.declared.parts.PropertyParts.{PropertyParts}
use Rattle.ak_describe.specs.Actions.{reply_form, post_form, ask_form, set_form, add_form}
use Rattle.ak_describe.specs.Forms.{app_form, looper_form, hook_form, filter_form, property_form, element_form}
use Rattle.ak_describe.specs.Keyword.{keyword_of, after_of, allows_element, allows_action}
use Rattle.ak_describe.specs.Named.{need_of_filter, need_of_action}
use Rattle.ak_describe.specs.Parts.{RowData, LooperData, AppData, opened, has_path, looper_named, row_named, property_named, has_reaction}
use Rattle.ak_describe.specs.Words.{texts, ends, only_name, only_code}

-- a line with a fault, and what is wrong with it
pub record Refusal : Type 0 where
  pub line : ℕ
  pub kind : RefusalKind

-- what the lines say so far, what the last one lets follow, and the names that may be given later, in the order of their lines
pub record State : Type 0 where
  pub apps : List AppData
  pub after : After
  pub names : List Named

abbrev pub nothing_read : State
nothing_read = record { apps = []; after = following.Plain; names = [] }

-- ---- one after another
-- what is made of it, unless it is refused
abbrev pub then_read : {A B E : Type 0} → Result A E → (A → Result B E) → Result B E
then_read (Ok x) f = f x
then_read (Err e) f = Err e

-- further words that are not of the line's form are a bad value
abbrev pub or_bad : {A B : Type 0} → Option A → (A → Result B RefusalKind) → Result B RefusalKind
or_bad None f = Err refusal.BadValue
or_bad (Some x) f = f x

-- what passes a limit is told by that
abbrev pub or_limit : {A B : Type 0} → Limited A → (A → Result B RefusalKind) → Result B RefusalKind
or_limit Over f = Err refusal.Limit
or_limit (Within x) f = f x

-- a name that is in use, and then that there is no room
abbrev pub judged : {A : Type 0} → Bool → Bool → A → Result A RefusalKind
judged in_use has_room next =
    if in_use then Err refusal.NameInUse else if has_room then Ok next else Err refusal.Limit

-- ---- the last one of a list is open
abbrev pub last_item : {A : Type 0} → List A → Option A
last_item xs = slice_get xs (length xs - 1)

abbrev pub with_item : {A B : Type 0} → List A → Result (A × B) RefusalKind → Result (List A × B) RefusalKind
with_item xs (Ok x) = Ok (slice_set xs (length xs - 1) x.0, x.1)
with_item xs (Err kind) = Err kind

abbrev pub on_item : {A B : Type 0} → (A → Result (A × B) RefusalKind) → List A → Option A → Result (List A × B) RefusalKind
on_item change xs None = Err refusal.UnknownLine
on_item change xs (Some x) = with_item xs (change x)

-- it becomes what the line makes of it; where there is none, the line may not stand
abbrev pub on_last : {A B : Type 0} → (A → Result (A × B) RefusalKind) → List A → Result (List A × B) RefusalKind
on_last change xs = on_item change xs (last_item xs)

-- ---- which lines may stand
-- an application has a looper before the next one comes
abbrev pub has_looper : Option AppData → Bool
has_looper None = true
has_looper (Some a) = not (length a.loopers == 0)

abbrev pub may_open_app : List AppData → Bool
may_open_app apps = has_looper (last_item apps)

abbrev pub loopers_in : Option AppData → List LooperData
loopers_in None = []
loopers_in (Some a) = a.loopers

abbrev pub open_looper : List AppData → Option LooperData
open_looper apps = last_item (loopers_in (last_item apps))

-- no handler is opened yet but the looper itself
abbrev pub is_before_handlers : LooperData → Bool
is_before_handlers l = nat_le (length l.rows) 1

abbrev pub lacks_next : Option RowData → Bool
lacks_next None = false
lacks_next (Some r) = is_none r.next

abbrev pub has_no_next : LooperData → Bool
has_no_next l = lacks_next (last_item l.rows)

-- of the lines of a looper and its handlers
abbrev pub may_follow : LooperData → Keyword → Bool
may_follow l key.Hook = is_before_handlers l && not l.quit_refused
may_follow l key.Prefer = is_before_handlers l && is_none l.preferred
may_follow l key.Common = is_before_handlers l
may_follow l key.Next = not (is_before_handlers l) && has_no_next l
may_follow l key.Handler = true
may_follow l key.Suite = true
may_follow l key.Filter = true
may_follow l key.Property = true
may_follow l key.On = true
may_follow l key.App = false
may_follow l key.Looper = false
may_follow l key.Element = false
may_follow l key.Reply = false
may_follow l key.Post = false
may_follow l key.Ask = false
may_follow l key.Set = false
may_follow l key.Add = false
may_follow l key.Drop = false
may_follow l key.Quit = false

abbrev pub follows : Option LooperData → Keyword → Bool
follows None keyword = false
follows (Some l) keyword = may_follow l keyword

abbrev pub may_stand : State → Keyword → Bool
may_stand s key.App = may_open_app s.apps
may_stand s key.Looper = not (length s.apps == 0)
may_stand s key.Element = allows_element s.after
may_stand s key.Reply = allows_action s.after
may_stand s key.Post = allows_action s.after
may_stand s key.Ask = allows_action s.after
may_stand s key.Set = allows_action s.after
may_stand s key.Add = allows_action s.after
may_stand s key.Drop = allows_action s.after
may_stand s key.Quit = allows_action s.after
may_stand s key.Hook = follows (open_looper s.apps) key.Hook
may_stand s key.Prefer = follows (open_looper s.apps) key.Prefer
may_stand s key.Common = follows (open_looper s.apps) key.Common
may_stand s key.Handler = follows (open_looper s.apps) key.Handler
may_stand s key.Next = follows (open_looper s.apps) key.Next
may_stand s key.Suite = follows (open_looper s.apps) key.Suite
may_stand s key.Filter = follows (open_looper s.apps) key.Filter
may_stand s key.Property = follows (open_looper s.apps) key.Property
may_stand s key.On = follows (open_looper s.apps) key.On

-- ---- the lines of a handler: what each makes of it, and the name in the line that may be given later
abbrev pub next_line : RowData → List (List ℕ) → Result (RowData × Option Need) RefusalKind
next_line r words = or_bad (only_name words) (λ name. Ok (record r { next = Some name }, Some (needs.Next name)))

abbrev pub suite_line : RowData → List (List ℕ) → Result (RowData × Option Need) RefusalKind
suite_line r words =
    or_bad (only_name words) (λ name. judged false (nat_lt (length r.suites) suite_limit) (record r { suites = r.suites ++ name ∷ [] }, None))

-- there is room where there are not 32 filters
abbrev pub filter_line : RowData → List (List ℕ) → Result (RowData × Option Need) RefusalKind
filter_line r words =
    or_bad (filter_form words) (λ f. judged false (not (length r.filters == filter_limit)) (record r { filters = r.filters ++ f ∷ [] }, need_of_filter f))

-- a property without elements
abbrev pub new_property : PropertyForm → List ℕ → PropertyParts
new_property p usage =
    record {
      row = record { name = p.name; kind = p.kind; commands = p.commands; forms = p.forms; usage = usage };
      elements = described p.kind [];
    }

abbrev pub property_added : RowData → PropertyForm → Limited (List ℕ) → Result (RowData × Option Need) RefusalKind
property_added r p usage =
    or_limit usage (λ text. judged false (nat_lt (length r.properties) row_limit) (record r { properties = r.properties ++ new_property p text ∷ [] }, None))

abbrev pub property_line : RowData → List (List ℕ) → Result (RowData × Option Need) RefusalKind
property_line r words =
    or_bad (property_form words) (λ p. if is_some (property_named r.properties p.name) then Err refusal.NameInUse else property_added r p p.usage)

-- an element of another kind is a bad value, and one too many a limit
abbrev pub element_kept : {A : Type 0} → Option ElementFault → A → Result A RefusalKind
element_kept None next = Ok next
element_kept (Some fault.ElementLimit) next = Err refusal.Limit
element_kept (Some fault.BadType) next = Err refusal.BadValue
element_kept (Some fault.BadScript) next = Err refusal.BadValue
element_kept (Some fault.BadValue) next = Err refusal.BadValue
element_kept (Some fault.NameNotFound) next = Err refusal.BadValue
element_kept (Some fault.BadIndex) next = Err refusal.BadValue
element_kept (Some fault.NoMemory) next = Err refusal.BadValue

abbrev pub element_added : PropertyParts → List ℕ × ValueData → Result (PropertyParts × Option Need) RefusalKind
element_added p x =
    element_kept (add_fault p.elements (kind_of x.1)) (record p { elements = with_last p.elements x.0 x.1 }, None)

abbrev pub element_in : PropertyParts → List (List ℕ) → Result (PropertyParts × Option Need) RefusalKind
element_in p words = or_bad (element_form p.row.kind words) (λ read. or_limit read (element_added p))

-- of the last property
abbrev pub element_line : RowData → List (List ℕ) → Result (RowData × Option Need) RefusalKind
element_line r words =
    then_read (on_last (λ (p : PropertyParts). element_in p words) r.properties) (λ x. Ok (record r { properties = x.0 }, x.1))

abbrev pub new_reaction : Code → Reaction
new_reaction what = record { what = what; actions = [] }

abbrev pub reaction_line : RowData → List (List ℕ) → Result (RowData × Option Need) RefusalKind
reaction_line r words =
    or_bad (only_code words) (λ what. judged (has_reaction r.reactions what.0) (nat_lt (length r.reactions) reaction_limit) (record r { reactions = r.reactions ++ new_reaction what ∷ [] }, None))

-- an action alone, as `drop` and `quit` are
abbrev pub bare : Action → List (List ℕ) → Option (Limited Action)
bare a words = if ends words then Some (Within a) else None

abbrev pub added_form : List PropertyParts → List (List ℕ) → Option (Limited Action)
added_form properties words = option_and_then (λ (a : Action). Some (Within a)) (add_form properties words)

abbrev pub action_from : List PropertyParts → Keyword → List (List ℕ) → Result (Limited Action) RefusalKind
action_from properties key.Reply words = or_bad (reply_form properties words) (λ a. Ok a)
action_from properties key.Post words = or_bad (post_form properties words) (λ a. Ok a)
action_from properties key.Ask words = or_bad (ask_form properties words) (λ a. Ok a)
action_from properties key.Set words = or_bad (set_form properties words) (λ a. Ok a)
action_from properties key.Add words = or_bad (added_form properties words) (λ a. Ok a)
action_from properties key.Drop words = or_bad (bare action.Stop words) (λ a. Ok a)
action_from properties key.Quit words = or_bad (bare action.Quit words) (λ a. Ok a)
action_from properties key.App words = Err refusal.UnknownLine
action_from properties key.Looper words = Err refusal.UnknownLine
action_from properties key.Hook words = Err refusal.UnknownLine
action_from properties key.Prefer words = Err refusal.UnknownLine
action_from properties key.Common words = Err refusal.UnknownLine
action_from properties key.Handler words = Err refusal.UnknownLine
action_from properties key.Next words = Err refusal.UnknownLine
action_from properties key.Suite words = Err refusal.UnknownLine
action_from properties key.Filter words = Err refusal.UnknownLine
action_from properties key.Property words = Err refusal.UnknownLine
action_from properties key.Element words = Err refusal.UnknownLine
action_from properties key.On words = Err refusal.UnknownLine

-- there is room where there are not 16 actions
abbrev pub with_action : Action → Reaction → Result (Reaction × Option Need) RefusalKind
with_action a reaction =
    judged false (not (length reaction.actions == action_limit)) (record reaction { actions = reaction.actions ++ a ∷ [] }, need_of_action a)

abbrev pub action_added : RowData → Action → Result (RowData × Option Need) RefusalKind
action_added r a =
    then_read (on_last (with_action a) r.reactions) (λ x. Ok (record r { reactions = x.0 }, x.1))

-- of the last reaction
abbrev pub action_line : RowData → Keyword → List (List ℕ) → Result (RowData × Option Need) RefusalKind
action_line r keyword words =
    then_read (action_from r.properties keyword words) (λ read. or_limit read (action_added r))

abbrev pub carry_in_row : RowData → Keyword → List (List ℕ) → Result (RowData × Option Need) RefusalKind
carry_in_row r key.Next words = next_line r words
carry_in_row r key.Suite words = suite_line r words
carry_in_row r key.Filter words = filter_line r words
carry_in_row r key.Property words = property_line r words
carry_in_row r key.Element words = element_line r words
carry_in_row r key.On words = reaction_line r words
carry_in_row r keyword words = action_line r keyword words

-- ---- the lines of a looper
abbrev pub hook_line : LooperData → List (List ℕ) → Result (LooperData × Option Need) RefusalKind
hook_line l words = if hook_form words then Ok (record l { quit_refused = true }, None) else Err refusal.BadValue

abbrev pub prefer_line : LooperData → List (List ℕ) → Result (LooperData × Option Need) RefusalKind
prefer_line l words = or_bad (only_name words) (λ name. Ok (record l { preferred = Some name }, Some (needs.Handler name)))

abbrev pub common_line : LooperData → List (List ℕ) → Result (LooperData × Option Need) RefusalKind
common_line l words =
    or_bad (filter_form words) (λ f. judged false (not (length l.common == filter_limit)) (record l { common = l.common ++ f ∷ [] }, need_of_filter f))

abbrev pub handler_line : LooperData → List (List ℕ) → Result (LooperData × Option Need) RefusalKind
handler_line l words =
    or_bad (only_name words) (λ name. judged (is_some (row_named l.rows name)) (nat_lt (length l.rows) handler_limit) (record l { rows = l.rows ++ opened name ∷ [] }, None))

-- and those of its last handler
abbrev pub in_last_row : LooperData → Keyword → List (List ℕ) → Result (LooperData × Option Need) RefusalKind
in_last_row l keyword words =
    then_read (on_last (λ (r : RowData). carry_in_row r keyword words) l.rows) (λ x. Ok (record l { rows = x.0 }, x.1))

abbrev pub carry_in_looper : LooperData → Keyword → List (List ℕ) → Result (LooperData × Option Need) RefusalKind
carry_in_looper l key.Hook words = hook_line l words
carry_in_looper l key.Prefer words = prefer_line l words
carry_in_looper l key.Common words = common_line l words
carry_in_looper l key.Handler words = handler_line l words
carry_in_looper l keyword words = in_last_row l keyword words

-- ---- the lines that open applications and loopers
-- an application's own looper, its first, has a port of 2 messages or more
abbrev pub least_capacity : AppData → ℕ
least_capacity a = if length a.loopers == 0 then 2 else 1

abbrev pub new_looper : LooperForm → LooperData
new_looper form =
    record { name = form.name; capacity = form.capacity; quit_refused = false; preferred = None; common = []; rows = opened form.name ∷ [] }

abbrev pub looper_line : AppData → List (List ℕ) → Result (AppData × Option Need) RefusalKind
looper_line a words =
    or_bad (looper_form (least_capacity a) words) (λ form. judged (is_some (looper_named a.loopers form.name)) (nat_lt (length a.loopers) app_looper_limit) (record a { loopers = a.loopers ++ new_looper form ∷ [] }, None))

abbrev pub new_app : AppForm → AppData
new_app form = record { path = form.path; signature = form.signature; mode = form.mode; loopers = [] }

abbrev pub app_line : List AppData → List (List ℕ) → Result (List AppData × Option Need) RefusalKind
app_line apps words =
    or_bad (app_form words) (λ form. judged (has_path apps form.path) (nat_lt (length apps) app_limit) (apps ++ new_app form ∷ [], None))

abbrev pub in_last_looper : AppData → Keyword → List (List ℕ) → Result (AppData × Option Need) RefusalKind
in_last_looper a keyword words =
    then_read (on_last (λ (l : LooperData). carry_in_looper l keyword words) a.loopers) (λ x. Ok (record a { loopers = x.0 }, x.1))

-- of the last application
abbrev pub looper_in : List AppData → List (List ℕ) → Result (List AppData × Option Need) RefusalKind
looper_in apps words = on_last (λ (a : AppData). looper_line a words) apps

abbrev pub in_last_app : List AppData → Keyword → List (List ℕ) → Result (List AppData × Option Need) RefusalKind
in_last_app apps keyword words = on_last (λ (a : AppData). in_last_looper a keyword words) apps

abbrev pub carry : List AppData → Keyword → List (List ℕ) → Result (List AppData × Option Need) RefusalKind
carry apps key.App words = app_line apps words
carry apps key.Looper words = looper_in apps words
carry apps keyword words = in_last_app apps keyword words

-- ---- names that may be given later
abbrev pub rows_in : Option LooperData → List RowData
rows_in None = []
rows_in (Some l) = l.rows

-- the places of the looper and the handler that are open
abbrev pub open_looper_place : List AppData → ℕ
open_looper_place apps = length (loopers_in (last_item apps)) - 1

abbrev pub open_row_place : List AppData → ℕ
open_row_place apps = length (rows_in (open_looper apps)) - 1

-- a name in a line of the handler that is open
abbrev pub new_name : List AppData → ℕ → Need → Named
new_name apps line need =
    record { line = line; app = length apps - 1; looper = open_looper_place apps; row = open_row_place apps; need = need }

abbrev pub with_need : List Named → List AppData → ℕ → Option Need → List Named
with_need names apps line None = names
with_need names apps line (Some need) = names ++ new_name apps line need ∷ []

-- ---- a line
abbrev pub carried : State → ℕ → Keyword → Result (List AppData × Option Need) RefusalKind → Result State RefusalKind
carried s line keyword (Ok x) = Ok (record { apps = x.0; after = after_of keyword; names = with_need s.names x.0 line x.1 })
carried s line keyword (Err kind) = Err kind

abbrev pub begun : State → ℕ → Option Keyword → List (List ℕ) → Result State RefusalKind
begun s line None words = Err refusal.UnknownLine
begun s line (Some keyword) words =
    if may_stand s keyword then carried s line keyword (carry s.apps keyword words) else Err refusal.UnknownLine

-- by its words
abbrev pub read_words : State → ℕ → List (List ℕ) → Result State RefusalKind
read_words s line [] = Err refusal.UnknownLine
read_words s line (word ∷ words) = begun s line (keyword_of word) words

unfoldable pub read_line : State → Line → Result State RefusalKind
read_line s line = read_words s line.number (texts line.words)

-- ---- all lines
abbrev pub at_line : {A : Type 0} → ℕ → Result A RefusalKind → Result A Refusal
at_line line (Ok x) = Ok x
at_line line (Err kind) = Err (record { line = line; kind = kind })

abbrev pub after_lines : State → List Line → Result State Refusal
after_lines s [] = Ok s
after_lines s (line ∷ lines) = then_read (at_line line.number (read_line s line)) (λ next. after_lines next lines)

-- the number behind the last line, of those that a line can have
abbrev pub number_behind : Line → ℕ
number_behind line = min (line.number + 1) (2 ^ 32 - 1)

abbrev pub unfinished_at : Option Line → Option Refusal
unfinished_at None = None
unfinished_at (Some line) = Some (record { line = number_behind line; kind = refusal.Unfinished })

-- the lines end with an application that has no looper
abbrev pub unfinished : List AppData → List Line → Option Refusal
unfinished apps lines = if may_open_app apps then None else unfinished_at (last_item lines)

abbrev pub or_refused : {A : Type 0} → Option Refusal → A → Result A Refusal
or_refused None x = Ok x
or_refused (Some r) x = Err r

unfoldable pub first_pass : List Line → Result State Refusal
first_pass lines = then_read (after_lines nothing_read lines) (λ s. or_refused (unfinished s.apps lines) s)
