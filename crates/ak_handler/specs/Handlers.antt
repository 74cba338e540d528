-- The handlers of a looper: what contracts see of them, the chains that they form, and what is always true of them.
use Rattle.std.specs.Prelude.{◌≡◌, ◌≢◌, ℕ, suc, zero, ◌^◌, ◌<◌, ◌≤◌, ◌==◌, Bool, List, [], ◌∷◌, length, map, find, All, AllPairs, Contains, Option, None, Some, IfSome, option_map, option_and_then, refl}
use Rattle.std.specs.List.{position, slice_get}
use Rattle.std.specs.Str.{bytes_eq}
use Rattle.std.specs.Coded.{Coded, code_by, coded×, coded_list, coded_option, coded_ℕ}
use Rattle.ak_handler.specs.Limits.{handler_limit}

-- one handler: its token, its name, the token of its next handler or none, and what it holds
pub record HandlerData (R : Type 0) : Type 0 where
  pub token : ℕ
  pub name : List ℕ
  pub next : Option ℕ
  pub content : R

-- the handlers in the order in which they were added, the looper first; the token of the preferred one or none; and the token of
-- the next one that is added
pub record HandlersData (R : Type 0) : Type 0 where
  pub list : List (HandlerData R)
  pub preferred : Option ℕ
  pub next_token : ℕ

module _ {R : Type 0} where
  -- ---- looking up
  abbrev pub has_token : ℕ → HandlerData R → Bool
  has_token token h = h.token == token

  abbrev pub has_name : List ℕ → HandlerData R → Bool
  has_name name h = bytes_eq h.name name

  abbrev pub handler_of : List (HandlerData R) → ℕ → Option (HandlerData R)
  handler_of list token = find (has_token token) list

  abbrev pub tokens_of : List (HandlerData R) → List ℕ
  tokens_of list = map (λ h. h.token) list

  abbrev pub token_named : List (HandlerData R) → List ℕ → Option ℕ
  token_named list name = option_map (λ h. h.token) (find (has_name name) list)

  abbrev pub token_at : List (HandlerData R) → ℕ → Option ℕ
  token_at list index = option_map (λ h. h.token) (slice_get list index)

  abbrev pub place_of : List (HandlerData R) → ℕ → Option ℕ
  place_of list token = position (has_token token) list

  -- the next handler of the one with that token
  abbrev pub next_in : List (HandlerData R) → ℕ → Option ℕ
  next_in list token = option_and_then (λ h. h.next) (handler_of list token)

  -- ---- chains
  -- where one comes after so many steps from a handler to its next one
  abbrev pub after_steps : List (HandlerData R) → ℕ → Option ℕ → Option ℕ
  after_steps list zero at = at
  after_steps list (suc n) at = after_steps list n (option_and_then (next_in list) at)

  -- the first so many handlers of a chain
  abbrev pub chain_of : List (HandlerData R) → ℕ → Option ℕ → List ℕ
  chain_of list zero at = []
  chain_of list (suc n) None = []
  chain_of list (suc n) (Some token) = token ∷ chain_of list n (next_in list token)

  -- a handler, its next one, and so on; no chain is longer than the list
  abbrev pub chain_from : List (HandlerData R) → Option ℕ → List ℕ
  chain_from list at = chain_of list (length list) at

  -- ---- what is always true of them
  -- the first one is the looper, with the token 0 and no next handler
  abbrev pub BeginsWithLooper : List (HandlerData R) → Type 0
  BeginsWithLooper list = IfSome (handler_of list 0) (λ h. h.next ≡ None) × (token_at list 0 ≡ Some 0)

  abbrev pub IsThere : List (HandlerData R) → Option ℕ → Type 0
  IsThere list at = IfSome at (λ token. Contains (tokens_of list) token)

  pub record IsHandlers (s : HandlersData R) : Type 0 where
    pub looper : BeginsWithLooper s.list
    pub limit : length s.list ≤ handler_limit
    pub tokens_rise : AllPairs (λ a b. a.token < b.token) s.list
    pub tokens_below : All (λ h. h.token < s.next_token) s.list
    pub next_token : s.next_token < 2 ^ 64
    pub names_differ : AllPairs (λ a b. a.name ≢ b.name) s.list
    pub next_is_there : All (λ h. IsThere s.list h.next) s.list
    pub preferred_is_there : IsThere s.list s.preferred
    -- each chain has ended after as many steps as there are handlers
    pub chains_end : All (λ h. after_steps s.list (length s.list) (Some h.token) ≡ None) s.list

  -- ---- they are stored as their parts are
  abbrev pub handler_code : Coded R → Coded (HandlerData R)
  handler_code c =
      code_by (ℕ × (List ℕ × (Option ℕ × R))) (coded× coded_ℕ (coded× (coded_list coded_ℕ) (coded× (coded_option coded_ℕ) c)))
      (λ h. (h.token, (h.name, (h.next, h.content))))
      (λ p. record { token = p.0; name = p.1.0; next = p.1.1.0; content = p.1.1.1 })
      (λ _. refl)

  abbrev pub handlers_code : Coded R → Coded (HandlersData R)
  handlers_code c =
      code_by (List (HandlerData R) × (Option ℕ × ℕ)) (coded× (coded_list (handler_code c)) (coded× (coded_option coded_ℕ) coded_ℕ))
      (λ s. (s.list, (s.preferred, s.next_token)))
      (λ p. record { list = p.0; preferred = p.1.0; next_token = p.1.1 })
      (λ _. refl)
