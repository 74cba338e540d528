-- What each change makes of the handlers, and why it is refused.
use Rattle.std.specs.Prelude.{ℕ, ◌+◌, ◌^◌, ◌-◌, ◌==◌, ◌&&◌, Bool, true, not, is_some, nat_lt, if◌then◌else◌, List, [], ◌∷◌, ◌++◌, length, map, Option, None, Some, option_map}
use Rattle.std.specs.List.{list_any, filter}
use Rattle.ak_handler.specs.declared.fault.HandlerFault.{HandlerFault}
use Rattle.ak_handler.specs.declared.fault.HandlerFault.TheVariants as fault
use Rattle.ak_handler.specs.Handlers.{HandlerData, HandlersData, has_token, handler_of, token_named, chain_from}
use Rattle.ak_handler.specs.Limits.{handler_limit}

-- the other one in place of that token
abbrev pub unless : ℕ → Option ℕ → Option ℕ → Option ℕ
unless token other None = None
unless token other (Some t) = if t == token then other else Some t

module _ {R : Type 0} where
  abbrev pub is_there : List (HandlerData R) → ℕ → Bool
  is_there list token = is_some (handler_of list token)

  -- none, or a handler of the list
  abbrev pub may_be : List (HandlerData R) → Option ℕ → Bool
  may_be list None = true
  may_be list (Some token) = is_there list token

  -- ---- a looper without other handlers
  abbrev pub looper_alone : List ℕ → R → HandlersData R
  looper_alone name content =
      record { list = (record { token = 0; name = name; next = None; content = content }) ∷ []; preferred = None; next_token = 1 }

  -- ---- described handlers, each with its name, its next handler and what it holds: they have the tokens from 0 on, in order
  abbrev pub numbered_rows : ℕ → List (List ℕ × Option ℕ × R) → List (HandlerData R)
  numbered_rows token [] = []
  numbered_rows token (x ∷ xs) =
      (record { token = token; name = x.0; next = x.1; content = x.2 }) ∷ numbered_rows (token + 1) xs

  abbrev pub from_rows : List (List ℕ × Option ℕ × R) → Option ℕ → HandlersData R
  from_rows rows preferred = record { list = numbered_rows 0 rows; preferred = preferred; next_token = length rows }

  -- ---- adding: the new one stands last, and its next handler is the looper
  abbrev pub add_fault : HandlersData R → List ℕ → Option HandlerFault
  add_fault s name =
      if is_some (token_named s.list name) then Some fault.NameInUse
      else if nat_lt (length s.list) handler_limit && nat_lt s.next_token (2 ^ 64 - 1) then None
      else Some fault.HandlerLimit

  abbrev pub with_handler : HandlersData R → List ℕ → R → HandlersData R
  with_handler s name content =
      record {
        list = s.list ++ (record { token = s.next_token; name = name; next = Some 0; content = content }) ∷ [];
        preferred = s.preferred;
        next_token = s.next_token + 1;
      }

  -- ---- removing: whose next handler it was has the looper as next, and where it was preferred none is
  abbrev pub remove_fault : HandlersData R → ℕ → Option HandlerFault
  remove_fault s token =
      if is_there s.list token then (if token == 0 then Some fault.IsLooper else None) else Some fault.BadHandler

  -- its next handler is the looper where that was the one with the token
  abbrev pub relinked : ℕ → HandlerData R → HandlerData R
  relinked token h = record h { next = unless token (Some 0) h.next }

  abbrev pub without_handler : HandlersData R → ℕ → HandlersData R
  without_handler s token =
      record {
        list = map (relinked token) (filter (λ h. not (has_token token h)) s.list);
        preferred = unless token None s.preferred;
        next_token = s.next_token;
      }

  -- ---- another next handler: no chain may come back to where it began
  abbrev pub next_fault : HandlersData R → ℕ → Option ℕ → Option HandlerFault
  next_fault s token next =
      if is_there s.list token && may_be s.list next
      then
      (if token == 0 then Some fault.IsLooper
      else if list_any (λ t. t == token) (chain_from s.list next) then Some fault.ChainLoop
      else None)
      else Some fault.BadHandler

  abbrev pub linked : ℕ → Option ℕ → HandlerData R → HandlerData R
  linked token next h = if has_token token h then record h { next = next } else h

  abbrev pub with_next : HandlersData R → ℕ → Option ℕ → HandlersData R
  with_next s token next = record s { list = map (linked token next) s.list }

  -- ---- another preferred handler
  abbrev pub preferred_fault : HandlersData R → Option ℕ → Option HandlerFault
  preferred_fault s token = if may_be s.list token then None else Some fault.BadHandler

  -- ---- what a handler holds
  abbrev pub content_of : List (HandlerData R) → ℕ → Option R
  content_of list token = option_map (λ h. h.content) (handler_of list token)

  abbrev pub holding : ℕ → R → HandlerData R → HandlerData R
  holding token content h = if has_token token h then record h { content = content } else h

  abbrev pub with_content : HandlersData R → ℕ → R → HandlersData R
  with_content s token content = record s { list = map (holding token content) s.list }
