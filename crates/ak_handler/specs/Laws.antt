-- What holds of all handlers.
use Rattle.std.specs.Prelude.{◌≡◌, ◌≢◌, ◌<◌, ◌≤◌, ◌⊎◌, ℕ, List, [], ◌∷◌, ◌++◌, length, AllPairs, All, Contains, Option, None, Some}
use Rattle.ak_handler.specs.declared.fault.HandlerFault.{HandlerFault}
use Rattle.ak_handler.specs.Handlers.{HandlersData, IsHandlers, IsThere, chain_from, chain_of, tokens_of}
use Rattle.ak_handler.specs.Changes.{add_fault, with_handler, remove_fault, without_handler, next_fault, with_next, preferred_fault, with_content}

-- the chain of a handler meets handlers of the set alone, each at most once, and is the whole chain: with more steps it is the same
pub record IsWholeChain {R : Type 0} (s : HandlersData R) (at : Option ℕ) : Type 0 where
  pub there : All (λ token. Contains (tokens_of s.list) token) (chain_from s.list at)
  pub once : AllPairs (λ a b. a ≢ b) (chain_from s.list at)
  pub whole : (n : ℕ) → length s.list ≤ n → chain_of s.list n at ≡ chain_from s.list at

abbrev pub ChainsAreWhole : (R : Type 0) → Type 0
ChainsAreWhole R = (s : HandlersData R) (at : Option ℕ) → IsHandlers s → IsThere s.list at → IsWholeChain s at

-- ---- after any changes
-- a change that is asked for: a handler with that name and content is added; the one with that token is removed; it gets another next
-- handler or none; another one is preferred, or none; it holds something else
pub data Change (R : Type 0) : Type 0 where
  add : List ℕ → R → Change R
  remove : ℕ → Change R
  link : ℕ → Option ℕ → Change R
  prefer : Option ℕ → Change R
  hold : ℕ → R → Change R

-- a change that is refused changes nothing; nor does one that finds no memory, which is as one that was not asked for
abbrev pub unless_refused : {A : Type 0} → Option HandlerFault → A → A → A
unless_refused None done same = done
unless_refused (Some f) done same = same

module _ {R : Type 0} where
  abbrev pub changed : HandlersData R → Change R → HandlersData R
  changed s (add name content) = unless_refused (add_fault s name) (with_handler s name content) s
  changed s (remove token) = unless_refused (remove_fault s token) (without_handler s token) s
  changed s (link token next) = unless_refused (next_fault s token next) (with_next s token next) s
  changed s (prefer token) = unless_refused (preferred_fault s token) (record s { preferred = token }) s
  changed s (hold token content) = with_content s token content

  abbrev pub after : HandlersData R → List (Change R) → HandlersData R
  after s [] = s
  after s (c ∷ cs) = after (changed s c) cs

  -- the tokens that they give, in order: an addition that is not refused gives the next one, and nothing else gives any
  abbrev pub token_given : HandlersData R → Change R → List ℕ
  token_given s (add name content) = unless_refused (add_fault s name) (s.next_token ∷ []) []
  token_given s (remove token) = []
  token_given s (link token next) = []
  token_given s (prefer token) = []
  token_given s (hold token content) = []

  abbrev pub tokens_given : HandlersData R → List (Change R) → List ℕ
  tokens_given s [] = []
  tokens_given s (c ∷ cs) = token_given s c ++ tokens_given (changed s c) cs

-- whatever changes are made, the tokens given rise from the next one on, and so none is given twice
abbrev pub TokensRise : (R : Type 0) → Type 0
TokensRise R =
    (s : HandlersData R) (cs : List (Change R))
    → AllPairs (λ a b. a < b) (tokens_given s cs) × All (λ t. (s.next_token ≤ t) × (t < (after s cs).next_token)) (tokens_given s cs)

-- a handler that is there then was there before, or its token is one of those given
abbrev pub HandlersAreGivenTokens : (R : Type 0) → Type 0
HandlersAreGivenTokens R =
    (s : HandlersData R) (cs : List (Change R)) (token : ℕ) → Contains (tokens_of (after s cs).list) token
    → Contains (tokens_of s.list) token ⊎ Contains (tokens_given s cs) token

-- so a token that was given before is not there again, once its handler is removed
abbrev pub NoTokenIsUsedAgain : (R : Type 0) → Type 0
NoTokenIsUsedAgain R =
    (s : HandlersData R) (cs : List (Change R)) (token : ℕ) → token < s.next_token → Contains (tokens_of (after s cs).list) token
    → Contains (tokens_of s.list) token
