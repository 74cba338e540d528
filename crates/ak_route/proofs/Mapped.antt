-- What routing sees of handlers keeps their tokens, names and next handlers, and so all that is looked up by them.
use Rattle.std.proofs.Common.{◌≡◌, ℕ, zero, suc, List, [], ◌∷◌, length, map, find, option_map, option_and_then, unwrap_or, Option, None, Some, is_some, refl, sym, ap, ◌∙◌}
use Rattle.std.proofs.lemmas.List.{length-map}
use Rattle.ak_handler.specs.Handlers.{HandlerData, HandlersData, handler_of, has_token, has_name, place_of, token_named, next_in, chain_of, chain_from}
use Rattle.ak_handler.specs.Changes.{content_of, is_there}
use Rattle.ak_base.proofs.Surface.{find-map, is_some-position}
use Rattle.ak_handler.proofs.Surface.{none_there}
use Rattle.ak_property.specs.HandlerRow.{RowData}
use Rattle.ak_route.specs.Handlers.{no_row, row_seen, handlers_seen, row_of}
use Rattle.ak_route.specs.Filtering.{target_after}

module _ {R : Type 0} (f : R → RowData) where
  -- ---- of one handler that may be there
  token_kept : (o : Option (HandlerData R)) → option_map (λ h. h.token) (option_map (row_seen f) o) ≡ option_map (λ h. h.token) o
  token_kept None = refl
  token_kept (Some h) = refl

  next_kept : (o : Option (HandlerData R)) → option_and_then (λ h. h.next) (option_map (row_seen f) o) ≡ option_and_then (λ h. h.next) o
  next_kept None = refl
  next_kept (Some h) = refl

  content_seen : (o : Option (HandlerData R)) → option_map (λ h. h.content) (option_map (row_seen f) o) ≡ option_map f (option_map (λ h. h.content) o)
  content_seen None = refl
  content_seen (Some h) = refl

  there_kept : (o : Option (HandlerData R)) → is_some (option_map (row_seen f) o) ≡ is_some o
  there_kept None = refl
  there_kept (Some h) = refl

  -- ---- of a list
  pub length-seen : (list : List (HandlerData R)) → length (map (row_seen f) list) ≡ length list
  length-seen list = length-map list (row_seen f)

  pub handler_of-seen : (list : List (HandlerData R)) (token : ℕ) → handler_of (map (row_seen f) list) token ≡ option_map (row_seen f) (handler_of list token)
  handler_of-seen list token = find-map (row_seen f) (has_token token) list

  pub content_of-seen : (list : List (HandlerData R)) (token : ℕ) → content_of (map (row_seen f) list) token ≡ option_map f (content_of list token)
  content_of-seen list token =
      ap (option_map (λ h. h.content)) (handler_of-seen list token) ∙ content_seen (handler_of list token)

  pub is_there-seen : (list : List (HandlerData R)) (token : ℕ) → is_there (map (row_seen f) list) token ≡ is_there list token
  is_there-seen list token = ap is_some (handler_of-seen list token) ∙ there_kept (handler_of list token)

  pub token_named-seen : (list : List (HandlerData R)) (name : List ℕ) → token_named (map (row_seen f) list) name ≡ token_named list name
  token_named-seen list name =
      ap (option_map (λ h. h.token)) (find-map (row_seen f) (has_name name) list) ∙ token_kept (find (has_name name) list)

  pub next_in-seen : (list : List (HandlerData R)) (token : ℕ) → next_in (map (row_seen f) list) token ≡ next_in list token
  next_in-seen list token = ap (option_and_then (λ h. h.next)) (handler_of-seen list token) ∙ next_kept (handler_of list token)

  pub chain_of-seen : (list : List (HandlerData R)) (n : ℕ) (at : Option ℕ) → chain_of (map (row_seen f) list) n at ≡ chain_of list n at
  chain_of-seen list zero at = refl
  chain_of-seen list (suc n) None = refl
  chain_of-seen list (suc n) (Some token) =
      ap (λ tokens. token ∷ tokens) (ap (chain_of (map (row_seen f) list) n) (next_in-seen list token) ∙ chain_of-seen list n (next_in list token))

  pub chain_from-seen : (list : List (HandlerData R)) (at : Option ℕ) → chain_from (map (row_seen f) list) at ≡ chain_from list at
  chain_from-seen list at = ap (λ n. chain_of (map (row_seen f) list) n at) (length-seen list) ∙ chain_of-seen list (length list) at

  -- it is there where what it holds is
  held_kept : {X : Type 0} (g : X → R) (o : Option X) (p : Option (HandlerData R)) → option_map g o ≡ option_map (λ h. h.content) p → is_some o ≡ is_some p
  held_kept g None None e = refl
  held_kept g None (Some h) e = absurd cc
  held_kept g (Some x) None e = absurd cc
  held_kept g (Some x) (Some h) e = refl

  pub held_there : {X : Type 0} (g : X → R) (o : Option X) (list : List (HandlerData R)) (token : ℕ) → option_map g o ≡ content_of list token → is_some o ≡ is_there (map (row_seen f) list) token
  held_there g o list token e = held_kept g o (handler_of list token) e ∙ sym (is_there-seen list token)

  -- ---- of all handlers
  pub row_of-seen : (s : HandlersData R) (token : ℕ) → row_of (handlers_seen f s) token ≡ unwrap_or (option_map f (content_of s.list token)) no_row
  row_of-seen s token = ap (λ o. unwrap_or o no_row) (content_of-seen s.list token)

  pub row-found : (s : HandlersData R) (token : ℕ) (x : R) → Some x ≡ content_of s.list token → row_of (handlers_seen f s) token ≡ f x
  row-found s token x found = row_of-seen s token ∙ ap (λ o. unwrap_or (option_map f o) no_row) (sym found)

  pub row-missing : (s : HandlersData R) (token : ℕ) → None ≡ content_of s.list token → row_of (handlers_seen f s) token ≡ no_row
  row-missing s token missing = row_of-seen s token ∙ ap (λ o. unwrap_or (option_map f o) no_row) (sym missing)

  pub target_after-seen : (s : HandlersData R) (name : List ℕ) (target : ℕ) → target_after (handlers_seen f s) (Some name) target ≡ unwrap_or (token_named s.list name) target
  target_after-seen s name target = ap (λ o. unwrap_or o target) (token_named-seen s.list name)

  -- ---- where there is no such handler, no filters run
  pub no_filters : (s : HandlersData R) (token : ℕ) → place_of s.list token ≡ None → (row_of (handlers_seen f s) token).filters ≡ []
  no_filters s token nowhere =
      let none = none_there (handler_of s.list token) (sym (ap is_some nowhere) ∙ is_some-position (has_token token) s.list) in
      ap (λ row. row.filters) (row-missing s token (ap (option_map (λ h. h.content)) none))

pub ruleset handlers_as_seen = (content_of-seen, token_named-seen, next_in-seen, is_there-seen, length-seen, chain_from-seen)
