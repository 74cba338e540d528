-- Which handler the specifiers of a message lead to, from the last one on.
use Rattle.std.specs.Prelude.{ℕ, pos, zero, suc, ◌-◌, ◌==◌, ◌&&◌, not, nat_le, nat_lt, Bool, true, false, if◌then◌else◌, List, length, codes, Option, None, Some}
use Rattle.std.specs.List.{position}
use Rattle.std.specs.Str.{bytes_eq}
use Rattle.ak_message.specs.declared.address.Target.{Target}
use Rattle.ak_message.specs.declared.address.Target.TheVariants as target
use Rattle.ak_message.specs.declared.specifier.At.{At}
use Rattle.ak_message.specs.declared.specifier.At.TheVariants as at
use Rattle.ak_message.specs.declared.specifier.Specifier.{Specifier}
use Rattle.ak_message.specs.Message.{MessageData}
use Rattle.ak_specifier.specs.Current.{left_of, popped_once, current_of}
use Rattle.ak_handler.specs.Handlers.{HandlersData, token_at}
use Rattle.ak_property.specs.HandlerRow.{RowData}
use Rattle.ak_route.specs.Handlers.{row_of}
use Rattle.ak_route.specs.Matching.{matches, counts_built_in}

-- what one specifier says of where to go
pub data Step : Type 0 where
  -- it is for the handler asked
  stay : Step
  -- to that handler of the looper, with one specifier less
  to_handler : ℕ → Step
  -- to that later looper of the application, with one specifier less
  to_looper : ℕ → Step
  lost : Step

-- so many specifiers lead to a handler, to a looper, or nowhere
pub data Destination : Type 0 where
  at_handler : ℕ → Destination
  at_looper : ℕ → Destination
  nowhere : Destination

-- the place, and the message as it is then: what led there is popped
pub record Resolved : Type 0 where
  pub place : Destination
  pub message : MessageData

abbrev pub handler_if_there : Option ℕ → Step
handler_if_there None = lost
handler_if_there (Some token) = to_handler token

-- the first looper is this one
abbrev pub looper_if_there : ℕ → Option ℕ → Step
looper_if_there count None = lost
looper_if_there count (Some zero) = if nat_lt 0 count then to_handler 0 else lost
looper_if_there count (Some (suc i)) = if nat_lt (suc i) count then to_looper (suc i) else lost

abbrev pub stay_if : Bool → Step
stay_if holds = if holds then stay else lost

-- a handler by its place, from the front or from the end
abbrev pub handler_step : HandlersData RowData → MessageData → Specifier → Step
handler_step s m sp = by_form sp.at
  where
    by_form : At → Step
    by_form at.Direct = stay_if (counts_built_in m sp (codes "Handler"))
    by_form (at.Index (pos i)) = handler_if_there (token_at s.list i)
    by_form (at.Reverse (pos r)) =
        if nat_le 1 r && nat_le r (length s.list) then handler_if_there (token_at s.list (length s.list - r)) else lost
    by_form _ = lost

-- a looper of the application by its place or its name
abbrev pub looper_step : List (List ℕ) → MessageData → Specifier → Step
looper_step loopers m sp = by_form sp.at
  where
    by_form : At → Step
    by_form at.Direct = stay_if (counts_built_in m sp (codes "Looper"))
    by_form (at.Index (pos i)) = looper_if_there (length loopers) (Some i)
    by_form (at.Name name) = looper_if_there (length loopers) (position (bytes_eq name) loopers)
    by_form _ = lost

abbrev pub is_own : List (List ℕ) → Bool
is_own loopers = nat_lt 0 (length loopers)

-- the loopers are those of the application, where this is its own looper, and none else
abbrev pub looper_knows : HandlersData RowData → List (List ℕ) → MessageData → Specifier → Step
looper_knows s loopers m sp =
    if bytes_eq sp.property (codes "Handler") then handler_step s m sp
    else if bytes_eq sp.property (codes "Looper") && is_own loopers then looper_step loopers m sp
    else lost

-- the handler that has a match stays; else the looper, which has the token 0, knows its handlers and loopers
abbrev pub step_with : HandlersData RowData → List (List ℕ) → MessageData → ℕ → Option Specifier → Step
step_with s loopers m token None = lost
step_with s loopers m token (Some sp) =
    if matches (row_of s token) m sp then stay else if token == 0 then looper_knows s loopers m sp else lost

abbrev pub step : HandlersData RowData → List (List ℕ) → MessageData → ℕ → Step
step s loopers m token = step_with s loopers m token (current_of m)

abbrev pub resolved : Destination → MessageData → Resolved
resolved place m = record { place = place; message = m }

-- where it stays, or where it goes on
abbrev pub go_on : MessageData → ℕ → Step → (ℕ → Resolved) → Resolved
go_on m token stay on = resolved (at_handler token) m
go_on m token (to_handler next) on = on next
go_on m token (to_looper place) on = resolved (at_looper place) (popped_once m)
go_on m token lost on = resolved nowhere m

-- so many specifiers are left
abbrev pub resolve_from : HandlersData RowData → List (List ℕ) → ℕ → MessageData → ℕ → Resolved
resolve_from s loopers zero m token = resolved (at_handler token) m
resolve_from s loopers (suc n) m token =
    go_on m token (step s loopers m token) (λ next. resolve_from s loopers n (popped_once m) next)

-- ---- who is asked first: where the preferred handler stands for no other target and has no match, the looper
abbrev pub is_preferred : Target → Bool
is_preferred target.Preferred = true
is_preferred (target.Token _) = false

abbrev pub matches_current : HandlersData RowData → MessageData → ℕ → Option Specifier → Bool
matches_current s m token None = false
matches_current s m token (Some sp) = matches (row_of s token) m sp

abbrev pub first_asked : HandlersData RowData → MessageData → Target → ℕ → ℕ
first_asked s m t token = if is_preferred t && not (matches_current s m token (current_of m)) then 0 else token

abbrev pub resolve : HandlersData RowData → List (List ℕ) → MessageData → Target → ℕ → Resolved
resolve s loopers m t token = resolve_if (left_of m)
  where
    resolve_if : ℕ → Resolved
    resolve_if zero = resolved (at_handler token) m
    resolve_if (suc n) = resolve_from s loopers (suc n) m (first_asked s m t token)
