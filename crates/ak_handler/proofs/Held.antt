-- What a handler holds is changed where it is there: where it is not, nothing changes.
use Rattle.std.proofs.Common.{◌≡◌, ℕ, Bool, true, false, cond, List, [], ◌∷◌, map, Option, None, Some, option_map, refl, ap}
use Rattle.ak_handler.specs.Changes.{content_of, holding}
use Rattle.ak_handler.specs.Handlers.{HandlerData, handler_of, has_token}

module _ {R : Type 0} (token : ℕ) (content : R) where
  skipped : (b : Bool) (h : HandlerData R) (rest : Option (HandlerData R)) → option_map (λ (h : HandlerData R). h.content) (cond b (Some h) rest) ≡ None → (b ≡ false) × (option_map (λ (h : HandlerData R). h.content) rest ≡ None)
  skipped true h rest e = absurd cc
  skipped false h rest e = (refl, e)

  -- no handler has the token, so none changes
  pub map-held_by_none : (list : List (HandlerData R)) → content_of list token ≡ None → map (holding token content) list ≡ list
  map-held_by_none [] e = refl
  map-held_by_none (h ∷ list) e =
      let head = skipped (has_token token h) h (handler_of list token) e in
      rw head.0 (ap (λ (t : List (HandlerData R)). h ∷ t) (map-held_by_none list head.1))
