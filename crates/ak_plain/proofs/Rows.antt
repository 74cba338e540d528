-- Handlers whose reactions name words that are looked up: they stay so when their elements are changed, and when handlers are added, removed or linked.
use Rattle.std.proofs.Common.{ℕ, ◌+◌, ◌≤◌, ◌==◌, zero, suc, Bool, true, false, not, ◌&&◌, cond, List, [], ◌∷◌, ◌++◌, map, filter, length, Option, None, Some, option_map, unwrap_or, slice_get, Result, Ok, Err, refl, sym, subst, arith, leb-true}
use Rattle.std.specs.Prelude.{◌^◌, ◌-◌, IfSome, IsTrue, is_some, nat_le, nat_lt}
use Rattle.std.specs.List.{AllByRecursion, list_all, list_any}
use Rattle.ak_message.specs.declared.specifier.Specifier.{Specifier}
use Rattle.ak_message.specs.Message.{MessageData, ValueData}
use Rattle.ak_handler.specs.declared.fault.HandlerFault.{HandlerFault}
use Rattle.ak_handler.specs.declared.fault.HandlerFault.TheVariants as fault
use Rattle.ak_handler.specs.Changes.{add_fault, content_of, holding, is_there, linked, may_be, next_fault, numbered_rows, preferred_fault, relinked, remove_fault, with_content, with_handler, with_next, without_handler}
use Rattle.ak_handler.specs.Handlers.{HandlerData, HandlersData, chain_from, has_token, token_named}
use Rattle.ak_handler.specs.Limits.{handler_limit}
use Rattle.ak_specifier.specs.Current.{current_of, left_of}
use Rattle.ak_value.specs.declared.fault.ElementFault.{ElementFault}
use Rattle.ak_action.specs.declared.action.Action.{Action}
use Rattle.ak_action.specs.declared.action.Reaction.{Reaction}
use Rattle.ak_action.specs.declared.plan.PlanParts.{PlanParts}
use Rattle.ak_action.specs.declared.plan.PlanRow.{PlanRow}
use Rattle.ak_action.specs.declared.row.DeskRow.{DeskRow}
use Rattle.ak_action.specs.declared.state.DeskState.{DeskState}
use Rattle.ak_action.specs.Acts.{put, taken_in}
use Rattle.ak_action.specs.Doing.{row_of}
use Rattle.ak_action.specs.Interp.{actions_of, reaction_actions}
use Rattle.ak_action.specs.Limits.{action_limit}
use Rattle.ak_action.specs.Opening.{Opens, described_from}
use Rattle.ak_action.specs.Properties.{AccessedAt, access_at}
use Rattle.ak_action.specs.Row.{empty_row}
use Rattle.ak_desk.specs.declared.entry.Edit.{Edit}
use Rattle.ak_desk.specs.declared.entry.Edit.TheVariants as edit
use Rattle.ak_desk.specs.declared.entry.EditAnswer.{EditAnswer}
use Rattle.ak_desk.specs.declared.entry.EditAnswer.TheVariants as answered
use Rattle.ak_desk.specs.Machine.{edited, edit_of}
use Rattle.ak_desk.specs.Properties.{Accessed, accessed, on_property, property_replied, row_in}
use Rattle.ak_journal.specs.Legible.{IsRefusal}
use Rattle.ak_journal.specs.Plain.{IsPlainEditAnswer}
use Rattle.ak_describe.specs.Whole.{action_names, reaction_names, row_names}

-- ---- lists
module _ {X : Type 0} (P : X → Type 0) where
  pub all_push : (xs : List X) (x : X) → AllByRecursion P xs → P x → AllByRecursion P (xs ++ x ∷ [])
  all_push [] x all p = (p, tt)
  all_push (y ∷ xs) x all p = (all.0, all_push xs x all.1 p)

  all_map : (f : X → X) → ((x : X) → P x → P (f x)) → (xs : List X) → AllByRecursion P xs → AllByRecursion P (map f xs)
  all_map f each [] all = tt
  all_map f each (x ∷ xs) all = (each x all.0, all_map f each xs all.1)

  kept_if : (b : Bool) (x : X) (xs : List X) → P x → AllByRecursion P xs → AllByRecursion P (cond b (x ∷ xs) xs)
  kept_if true x xs p all = (p, all)
  kept_if false x xs p all = all

  all_kept : (t : X → Bool) (xs : List X) → AllByRecursion P xs → AllByRecursion P (filter t xs)
  all_kept t [] all = tt
  all_kept t (x ∷ xs) all = kept_if (t x) x (filter t xs) all.0 (all_kept t xs all.1)

pub first_so : (a b : Bool) → IsTrue (a && b) → IsTrue a
first_so true b h = refl
first_so false b h = h

pub second_so : (a b : Bool) → IsTrue (a && b) → IsTrue b
second_so true b h = h
second_so false b h = absurd cc

-- ---- handlers
abbrev pub IsNamedRow : DeskRow → Type 0
IsNamedRow row = IsTrue (list_all reaction_names row.reactions)

abbrev pub IsNamedHandler : HandlerData DeskRow → Type 0
IsNamedHandler h = IsNamedRow h.content

abbrev pub AreNamed : HandlersData DeskRow → Type 0
AreNamed h = AllByRecursion IsNamedHandler h.list

-- each reaction of each handler has at most 16 actions, and names words that are looked up
abbrev pub IsNamedDesk : DeskState → Type 0
IsNamedDesk s = AreNamed s.handlers

-- what is found there
picked : (b : Bool) (h : HandlerData DeskRow) (o : Option (HandlerData DeskRow)) → IsNamedHandler h → IsNamedRow (unwrap_or (option_map (λ h. h.content) o) empty_row) → IsNamedRow (unwrap_or (option_map (λ h. h.content) (cond b (Some h) o)) empty_row)
picked true h o p q = p
picked false h o p q = q

named_row : (list : List (HandlerData DeskRow)) (token : ℕ) → AllByRecursion IsNamedHandler list → IsNamedRow (unwrap_or (content_of list token) empty_row)
named_row [] token all = refl
named_row (h ∷ list) token all = picked (has_token token h) h _ all.0 (named_row list token all.1)

-- the actions of one reaction
abbrev pub AreNamedActions : List Action → Type 0
AreNamedActions actions = IsTrue (list_all action_names actions) × (length actions ≤ action_limit)

named_actions : (reactions : List Reaction) (place : ℕ) → IsTrue (list_all reaction_names reactions) → AreNamedActions (reaction_actions (slice_get reactions place))
named_actions [] place h = (refl, omega arith)
named_actions (r ∷ reactions) zero h =
    let own : IsTrue (reaction_names r) = first_so (reaction_names r) (list_all reaction_names reactions) h in (
      second_so (nat_le (length r.actions) action_limit) (list_all action_names r.actions) own,
      leb-true (length r.actions) action_limit (first_so (nat_le (length r.actions) action_limit) (list_all action_names r.actions) own),
    )
named_actions (r ∷ reactions) (suc place) h = named_actions reactions place (second_so (reaction_names r) (list_all reaction_names reactions) h)

pub actions_named : (s : DeskState) (token reaction : ℕ) → IsNamedDesk s → AreNamedActions (actions_of s token reaction)
actions_named s token reaction named = named_actions (row_of s token).reactions reaction (named_row s.handlers.list token named)

-- ---- elements change
held_by : (b : Bool) (row : DeskRow) (h : HandlerData DeskRow) → IsNamedRow row → IsNamedHandler h → IsNamedHandler (cond b (record h { content = row }) h)
held_by true row h p q = p
held_by false row h p q = q

with_content_named : (h : HandlersData DeskRow) (token : ℕ) (row : DeskRow) → IsNamedRow row → AreNamed h → AreNamed (with_content h token row)
with_content_named h token row p all = all_map IsNamedHandler (holding token row) (λ x q. held_by (has_token token x) row x p q) h.list all

pub put_named : (s : DeskState) (token place : ℕ) (value : ValueData) → IsNamedDesk s → IsNamedDesk (put s token place value)
put_named s token place value named = with_content_named s.handlers token _ (named_row s.handlers.list token named) named

pub taken_in_named : (s : DeskState) (token : ℕ) (into : Option ℕ) (m : MessageData) → IsNamedDesk s → IsNamedDesk (taken_in s token into m)
taken_in_named s token None m named = named
taken_in_named s token (Some place) m named = with_content_named s.handlers token _ (named_row s.handlers.list token named) named

accessed_named : (h : HandlersData DeskRow) (token : ℕ) (r : Result AccessedAt ElementFault) → AreNamed h → AreNamed (accessed h token r).handlers
accessed_named h token (Err f) named = named
accessed_named h token (Ok a) named = with_content_named h token _ (named_row h.list token named) named

either_named : (b : Bool) (x y : Accessed) → AreNamed x.handlers → AreNamed y.handlers → AreNamed (cond b x y).handlers
either_named true x y p q = p
either_named false x y p q = q

on_property_named : (h : HandlersData DeskRow) (token place : ℕ) (m : MessageData) (o : Option Specifier) → AreNamed h → AreNamed (on_property h token place m o).handlers
on_property_named h token place m None named = named
on_property_named h token place m (Some sp) named =
    either_named (left_of m == 1) (accessed h token (access_at (row_in h token).elements place m.what sp.at m)) _ (accessed_named h token (access_at (row_in h token).elements place m.what sp.at m) named) named

pub replied_named : (s : DeskState) (token place : ℕ) (m : MessageData) → IsNamedDesk s → IsNamedDesk (property_replied s token place m).state
replied_named s token place m named = on_property_named s.handlers token place m (current_of m) named

-- ---- edits
edited_named : (h : HandlersData DeskRow) (o : Option HandlerFault) (a : EditAnswer) (t : HandlersData DeskRow) → AreNamed h → AreNamed t → AreNamed (edited h o a t).handlers
edited_named h None a t p q = q
edited_named h (Some f) a t p q = p

linked_by : (b : Bool) (next : Option ℕ) (h : HandlerData DeskRow) → IsNamedHandler h → IsNamedHandler (cond b (record h { next = next }) h)
linked_by true next h p = p
linked_by false next h p = p

pub edit_named : (h : HandlersData DeskRow) (e : Edit) → AreNamed h → AreNamed (edit_of h e).handlers
edit_named h (edit.Add name) named =
    edited_named h (add_fault h name) (answered.Token h.next_token) (with_handler h name empty_row) named
    (all_push IsNamedHandler h.list (record { token = h.next_token; name = name; next = Some 0; content = empty_row }) named refl)
edit_named h (edit.Remove token) named =
    edited_named h (remove_fault h token) answered.Done (without_handler h token) named
    (all_map IsNamedHandler (relinked token) (λ x p. p) (filter (λ x. not (has_token token x)) h.list) (all_kept IsNamedHandler (λ x. not (has_token token x)) h.list named))
edit_named h (edit.Next token next) named =
    edited_named h (next_fault h token next) answered.Done (with_next h token next) named
    (all_map IsNamedHandler (linked token next) (λ x p. linked_by (has_token token x) next x p) h.list named)
edit_named h (edit.Prefer token) named = edited_named h (preferred_fault h token) answered.Done (record h { preferred = token }) named named

-- ---- an edit is refused, or done; running out of memory is no fault of the handlers
answer_plain : (h : HandlersData DeskRow) (o : Option HandlerFault) (a : EditAnswer) (t : HandlersData DeskRow) → IfSome o IsRefusal → IsPlainEditAnswer a → IsPlainEditAnswer (edited h o a t).answer
answer_plain h None a t p q = q
answer_plain h (Some f) a t p q = p

add_fault_by : (in_use room : Bool) → IfSome (cond in_use (Some fault.NameInUse) (cond room None (Some fault.HandlerLimit))) IsRefusal
add_fault_by true room = tt
add_fault_by false true = tt
add_fault_by false false = tt

remove_fault_by : (there looper : Bool) → IfSome (cond there (cond looper (Some fault.IsLooper) None) (Some fault.BadHandler)) IsRefusal
remove_fault_by false looper = tt
remove_fault_by true true = tt
remove_fault_by true false = tt

next_fault_by : (there looper back : Bool) → IfSome (cond there (cond looper (Some fault.IsLooper) (cond back (Some fault.ChainLoop) None)) (Some fault.BadHandler)) IsRefusal
next_fault_by false looper back = tt
next_fault_by true true back = tt
next_fault_by true false true = tt
next_fault_by true false false = tt

preferred_fault_by : (there : Bool) → IfSome (cond there None (Some fault.BadHandler)) IsRefusal
preferred_fault_by true = tt
preferred_fault_by false = tt

pub edit_answer_plain : (h : HandlersData DeskRow) (e : Edit) → IsPlainEditAnswer (edit_of h e).answer
edit_answer_plain h (edit.Add name) =
    answer_plain h (add_fault h name) (answered.Token h.next_token) (with_handler h name empty_row)
    (add_fault_by (is_some (token_named h.list name)) (nat_lt (length h.list) handler_limit && nat_lt h.next_token (2 ^ 64 - 1))) tt
edit_answer_plain h (edit.Remove token) =
    answer_plain h (remove_fault h token) answered.Done (without_handler h token) (remove_fault_by (is_there h.list token) (token == 0)) tt
edit_answer_plain h (edit.Next token next) =
    answer_plain h (next_fault h token next) answered.Done (with_next h token next)
    (next_fault_by (is_there h.list token && may_be h.list next) (token == 0) (list_any (λ t. t == token) (chain_from h.list next))) tt
edit_answer_plain h (edit.Prefer token) =
    answer_plain h (preferred_fault h token) answered.Done (record h { preferred = token }) (preferred_fault_by (may_be h.list token)) tt

-- ---- a desk as its plan opens it
numbered_named : (all rows : List PlanRow) (place token : ℕ) → IsTrue (list_all row_names rows) → AllByRecursion IsNamedHandler (numbered_rows token (described_from all place rows))
numbered_named all [] place token h = tt
numbered_named all (row ∷ rows) place token h =
    (first_so (row_names row) (list_all row_names rows) h, numbered_named all rows (place + 1) (token + 1) (second_so (row_names row) (list_all row_names rows) h))

pub opened_named : (plan : PlanParts) (looper team first : ℕ) (names : List (List ℕ)) (s : DeskState) → Opens plan looper team first names s → IsTrue (list_all row_names plan.rows) → IsNamedDesk s
opened_named plan looper team first names s opens named = subst AreNamed (sym opens.handlers_are) (numbered_named plan.rows plan.rows 0 0 named)
