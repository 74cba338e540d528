-- The plan of a looper: what is described, and when everything that is named in it is there.
use Rattle.std.specs.Prelude.{◌≡◌, ℕ, zero, suc, ◌==◌, nat_le, Bool, true, false, not, ◌&&◌, if◌then◌else◌, is_some, is_none, List, [], ◌∷◌, length, Option, None, Some, option_and_then, slice_get}
use Rattle.std.specs.List.{position, list_all, list_any}
use Rattle.std.specs.Str.{bytes_eq}
use Rattle.ak_base.specs.Word.{is_word}
use Rattle.ak_base.specs.Limits.{capacity_limit}
use Rattle.ak_message.specs.declared.kind.Kind.{Kind}
use Rattle.ak_message.specs.declared.kind.Kind.TheVariants as k
use Rattle.ak_message.specs.Kind.{is_same_kind}
use Rattle.ak_handler.specs.Limits.{handler_limit}
use Rattle.ak_property.specs.declared.table.PropertyRow.{PropertyRow}
use Rattle.ak_value.specs.Elements.{ElementsData}
use Rattle.ak_action.specs.declared.action.Action.{Action}
use Rattle.ak_action.specs.declared.action.Action.TheVariants as action
use Rattle.ak_action.specs.declared.action.Dest.{Dest}
use Rattle.ak_action.specs.declared.action.Dest.TheVariants as dest
use Rattle.ak_action.specs.declared.action.Reaction.{Reaction}
use Rattle.ak_action.specs.declared.plan.PlanFault.{PlanFault}
use Rattle.ak_action.specs.declared.plan.PlanFault.TheVariants as fault
use Rattle.ak_action.specs.declared.plan.PlanParts.{PlanParts}
use Rattle.ak_action.specs.declared.plan.PlanRow.{PlanRow}
use Rattle.ak_action.specs.declared.template.Given.{Given}
use Rattle.ak_action.specs.declared.template.Given.TheVariants as given
use Rattle.ak_action.specs.declared.template.Template.{Template}
use Rattle.ak_action.specs.Number.{number_kind}
use Rattle.ak_action.specs.Limits.{suite_limit}

-- ---- the looper
abbrev pub is_looper : PlanRow → List ℕ → Bool
is_looper row name = is_none row.next && bytes_eq row.name name

-- it is the first handler, and has no next one
abbrev pub begin_with_looper : List PlanRow → List ℕ → Bool
begin_with_looper [] name = false
begin_with_looper (row ∷ rows) name = is_looper row name

-- ---- names
abbrev pub place_named : List PlanRow → List ℕ → Option ℕ
place_named rows name = position (λ row. bytes_eq row.name name) rows

abbrev pub names_are_words : List PlanRow → Bool
names_are_words rows = list_all (λ row. is_word row.name) rows

abbrev pub names_differ : List PlanRow → Bool
names_differ [] = true
names_differ (row ∷ rows) = if is_some (place_named rows row.name) then false else names_differ rows

-- none, or one of the handlers
abbrev pub may_be : List PlanRow → Option (List ℕ) → Bool
may_be rows None = true
may_be rows (Some name) = is_some (place_named rows name)

abbrev pub names_are_there : List PlanRow → Bool
names_are_there rows = list_all (λ row. may_be rows row.next) rows

-- ---- chains
-- the place of the next handler that is named, or of the looper where none is
abbrev pub place_or_looper : List PlanRow → Option (List ℕ) → Option ℕ
place_or_looper rows None = Some 0
place_or_looper rows (Some name) = place_named rows name

-- the place of the next handler of the one at that place; the looper has none
abbrev pub next_place : List PlanRow → ℕ → Option ℕ
next_place rows place =
    if place == 0 then None
    else option_and_then (λ row. place_or_looper rows row.next) (slice_get rows place)

-- where one comes after so many steps from a handler to its next one
abbrev pub place_after : List PlanRow → ℕ → Option ℕ → Option ℕ
place_after rows zero at = at
place_after rows (suc n) at = place_after rows n (option_and_then (next_place rows) at)

-- those of the first so many handlers have ended after as many steps as there are handlers
abbrev pub chains_end_below : List PlanRow → ℕ → Bool
chains_end_below rows zero = true
chains_end_below rows (suc n) = chains_end_below rows n && is_none (place_after rows (length rows) (Some n))

abbrev pub chains_end : List PlanRow → Bool
chains_end rows = chains_end_below rows (length rows)

-- ---- properties
abbrev pub is_named : List PropertyRow → List ℕ → Bool
is_named ps name = list_any (λ p. bytes_eq p.name name) ps

abbrev pub table_names_differ : List PropertyRow → Bool
table_names_differ [] = true
table_names_differ (p ∷ ps) = if is_named ps p.name then false else table_names_differ ps

-- they are of its kind, which is not that of messages
abbrev pub fits_kind : PropertyRow → ElementsData → Bool
fits_kind p e = is_same_kind e.kind p.kind && not (is_same_kind p.kind k.Message)

-- each property has its elements
abbrev pub kinds_fit : List PropertyRow → List ElementsData → Bool
kinds_fit [] [] = true
kinds_fit (p ∷ ps) (e ∷ es) = fits_kind p e && kinds_fit ps es
kinds_fit [] (e ∷ es) = false
kinds_fit (p ∷ ps) [] = false

abbrev pub fits_table : PlanRow → Bool
fits_table row = table_names_differ row.table && kinds_fit row.table row.elements

-- ---- actions
abbrev pub is_property : PlanRow → List ℕ → Bool
is_property row name = is_named row.table name

abbrev pub is_property_of : PlanRow → List ℕ → Kind → Bool
is_property_of row name kind = list_any (λ p. bytes_eq p.name name && is_same_kind p.kind kind) row.table

abbrev pub may_be_property : PlanRow → Option (List ℕ) → Bool
may_be_property row None = true
may_be_property row (Some name) = is_property row name

abbrev pub fits_given : PlanRow → Given → Bool
fits_given row (given.Values _) = true
fits_given row (given.Field _) = true
fits_given row (given.Property name) = is_property row name

abbrev pub is_one : Given → Bool
is_one (given.Values v) = length v.list == 1
is_one (given.Field _) = true
is_one (given.Property _) = true

abbrev pub fits_template : PlanRow → Template → Bool
fits_template row t = list_all (λ f. fits_given row f.given) t.fields

-- a looper or an application
abbrev pub is_asked : Dest → Bool
is_asked dest.Own = false
is_asked (dest.Looper _) = true
is_asked (dest.Handler _) = false
is_asked (dest.App _) = true

abbrev pub fits_action : PlanRow → Action → Bool
fits_action row (action.Reply t) = fits_template row t
fits_action row (action.Post to t back) = fits_template row t
fits_action row (action.Ask to t into) = is_asked to && (may_be_property row into && fits_template row t)
fits_action row (action.Set property value) = is_property row property && (is_one value && fits_given row value)
fits_action row (action.Add property amount) = is_property_of row property (number_kind amount)
fits_action row action.Stop = true
fits_action row action.Quit = true

abbrev pub fits_reaction : PlanRow → Reaction → Bool
fits_reaction row r = list_all (fits_action row) r.actions

abbrev pub fits_actions : PlanRow → Bool
fits_actions row = list_all (fits_reaction row) row.reactions

-- ---- the first fault
abbrev pub looper_fault : PlanParts → List PlanRow → Option PlanFault
looper_fault parts rows =
    if begin_with_looper rows parts.name then
    (if nat_le 1 parts.capacity && nat_le parts.capacity capacity_limit then
    (if nat_le (length rows) handler_limit then None else Some fault.HandlerLimit)
    else Some fault.BadCapacity)
    else Some fault.BadLooper

abbrev pub names_fault : PlanParts → List PlanRow → Option PlanFault
names_fault parts rows =
    if names_are_words rows then
    (if names_differ rows then
    (if names_are_there rows && may_be rows parts.preferred then
    (if chains_end rows then None else Some fault.ChainLoop)
    else Some fault.UnknownName)
    else Some fault.NameInUse)
    else Some fault.BadName

abbrev pub suites_fit : List PlanRow → Bool
suites_fit rows = list_all (λ row. nat_le (length row.suites) suite_limit) rows

abbrev pub tables_fit : List PlanRow → Bool
tables_fit rows = list_all fits_table rows

abbrev pub actions_fit : List PlanRow → Bool
actions_fit rows = list_all fits_actions rows

abbrev pub rows_fault : List PlanRow → Option PlanFault
rows_fault rows =
    if suites_fit rows then
    (if tables_fit rows then
    (if actions_fit rows then None else Some fault.BadAction)
    else Some fault.BadTable)
    else Some fault.SuiteLimit

-- the first one that is there
abbrev pub first_of_faults : Option PlanFault → Option PlanFault → Option PlanFault
first_of_faults (Some f) _ = Some f
first_of_faults None g = g

abbrev pub plan_fault : PlanParts → Option PlanFault
plan_fault parts =
    first_of_faults (looper_fault parts parts.rows) (first_of_faults (names_fault parts parts.rows) (rows_fault parts.rows))

abbrev pub IsPlan : PlanParts → Type 0
IsPlan parts = plan_fault parts ≡ None
