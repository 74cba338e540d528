-- The handler at the place of a token is the one with that token, and to change or remove it there is to do so by token.
use Rattle.std.proofs.Common.{◌≡◌, ℕ, ◌<◌, false, List, AllPairs, Option, None, Some, is_some, refl, sym, subst}
use Rattle.std.specs.List.{slice_get}
use Rattle.ak_handler.specs.Handlers.{HandlerData, HandlersData, IsHandlers, handler_of, has_token, place_of}
use Rattle.ak_handler.proofs.Places.{IsAt, at_place}
use Rattle.ak_handler.proofs.Tokens.{tokens_alone}

module _ {R : Type 0} where
  pub placed_at : (list : List (HandlerData R)) (token place : ℕ) → AllPairs (λ a b. a.token < b.token) list → place_of list token ≡ Some place → IsAt (has_token token) list place
  placed_at list token place rise placed =
      at_place (has_token token) list place (tokens_alone list token rise) placed

  -- as it stands in the fields of handlers that are seen as these
  pub seen_at : (inside seen : HandlersData R) (token place : ℕ) → inside ≡ seen → IsHandlers inside → place_of seen.list token ≡ Some place → IsAt (has_token token) inside.list place
  seen_at inside seen token place view h placed =
      placed_at inside.list token place h.tokens_rise (subst (λ s. place_of s.list token ≡ Some place) (sym view) placed)

  pub row_found : (list : List (HandlerData R)) (token place : ℕ) → AllPairs (λ a b. a.token < b.token) list → place_of list token ≡ Some place → slice_get list place ≡ handler_of list token
  row_found list token place rise placed = sym (placed_at list token place rise placed).found

pub none_there : {X : Type 0} (o : Option X) → false ≡ is_some o → None ≡ o
none_there None e = refl
none_there (Some x) e = absurd cc
