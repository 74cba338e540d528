-- Handlers that are marked by their places, and their tokens.
use Rattle.std.proofs.Common.{◌≡◌, ℕ, zero, suc, ◌<◌, ◌==◌, ◌||◌, Bool, true, false, List, [], ◌∷◌, length, get_or, set, All, AllPairs, Option, None, Some, IfSome, is_some, refl, sym, ap, subst, ◌∙◌, eq-eqb, ne_eqb, arith}
use Rattle.std.proofs.Math.ListN.{replicate}
use Rattle.std.specs.List.{slice_get}
use Rattle.std.proofs.lemmas.List.Elements.{All-head, All-tail}
use Rattle.std.proofs.lemmas.Option.{get_or_from_slice_get, slice_get_within}
use Rattle.ak_handler.specs.Handlers.{HandlerData, handler_of, has_token, place_of}
use Rattle.ak_base.proofs.Surface.{is_some-position}
use Rattle.ak_handler.proofs.Surface.{placed_at, found_has}
use Rattle.ak_route.specs.Filtering.{asked_already}

or_same : (a b : Bool) → (a || b) ≡ (a || (a || b))
or_same true b = refl
or_same false b = refl

or_swap : (a b c : Bool) → (a || (b || c)) ≡ (b || (a || c))
or_swap true true c = refl
or_swap true false c = refl
or_swap false true c = refl
or_swap false false c = refl

module _ {R : Type 0} where
  -- the tokens of those that are marked
  abbrev pub marked : List (HandlerData R) → List Bool → List ℕ
  marked [] marks = []
  marked (h ∷ list) [] = []
  marked (h ∷ list) (true ∷ marks) = h.token ∷ marked list marks
  marked (h ∷ list) (false ∷ marks) = marked list marks

  pub none_marked : (list : List (HandlerData R)) (n : ℕ) → marked list (replicate n false) ≡ []
  none_marked [] n = refl
  none_marked (h ∷ list) zero = refl
  none_marked (h ∷ list) (suc n) = none_marked list n

  -- ---- a token that is below all is not among them
  below_none : (list : List (HandlerData R)) (marks : List Bool) (token : ℕ) → All (λ h. token < h.token) list → asked_already (marked list marks) token ≡ false
  below_none [] marks token below = refl
  below_none (h ∷ list) [] token below = refl
  below_none (h ∷ list) (true ∷ marks) token below =
      rw (ne_eqb h.token token (λ same. absurd (omega (arith, All-head (λ h. token < h.token) h list below)))) (below_none list marks token (All-tail (λ h. token < h.token) h list below))
  below_none (h ∷ list) (false ∷ marks) token below =
      below_none list marks token (All-tail (λ h. token < h.token) h list below)

  All-at : (P : HandlerData R → Type 0) (list : List (HandlerData R)) (place : ℕ) (h : HandlerData R) → slice_get list place ≡ Some h → All P list → P h
  All-at P list place h at all =
      subst P (get_or_from_slice_get list place h h at) (all place h (slice_get_within list place h at))

  above : (h : HandlerData R) (list : List (HandlerData R)) → AllPairs (λ a b. a.token < b.token) (h ∷ list) → All (λ x. h.token < x.token) list
  above h list rise k d lt = rise zero (suc k) d (omega arith) (omega (arith, lt))

  rest_rises : (h : HandlerData R) (list : List (HandlerData R)) → AllPairs (λ a b. a.token < b.token) (h ∷ list) → AllPairs (λ a b. a.token < b.token) list
  rest_rises h list rise i j d lt within = rise (suc i) (suc j) d (omega (arith, lt)) (omega (arith, within))

  -- ---- whether the one at a place is marked
  mark_at : (list : List (HandlerData R)) (marks : List Bool) (place : ℕ) (h : HandlerData R) → AllPairs (λ a b. a.token < b.token) list → slice_get list place ≡ Some h → asked_already (marked list marks) h.token ≡ get_or marks place false
  mark_at [] marks place h rise at = absurd cc
  mark_at (x ∷ list) [] place h rise at = refl
  mark_at (x ∷ list) (true ∷ marks) zero h rise at =
      let same : x.token ≡ h.token = cc in
      rw (eq-eqb x.token h.token same) refl
  mark_at (x ∷ list) (false ∷ marks) zero h rise at =
      let same : x.token ≡ h.token = cc in
      ap (asked_already (marked list marks)) (sym same) ∙ below_none list marks x.token (above x list rise)
  mark_at (x ∷ list) (true ∷ marks) (suc place) h rise at =
      let other = All-at (λ y. x.token < y.token) list place h at (above x list rise) in
      rw (ne_eqb x.token h.token (λ same. absurd (omega (arith, other)))) (mark_at list marks place h (rest_rises x list rise) at)
  mark_at (x ∷ list) (false ∷ marks) (suc place) h rise at =
      mark_at list marks place h (rest_rises x list rise) at

  -- ---- one more is marked
  mark_more : (list : List (HandlerData R)) (marks : List Bool) (place : ℕ) (h : HandlerData R) (token : ℕ) → slice_get list place ≡ Some h → place < length marks → ((h.token == token) || asked_already (marked list marks) token) ≡ asked_already (marked list (set marks place true)) token
  mark_more [] marks place h token at within = absurd cc
  mark_more (x ∷ list) [] place h token at within = absurd (omega (arith, within))
  mark_more (x ∷ list) (true ∷ marks) zero h token at within =
      let same : h.token ≡ x.token = cc in
      ap (λ t. (t == token) || ((x.token == token) || asked_already (marked list marks) token)) same ∙ sym (or_same (x.token == token) (asked_already (marked list marks) token))
  mark_more (x ∷ list) (false ∷ marks) zero h token at within =
      let same : h.token ≡ x.token = cc in
      ap (λ t. (t == token) || asked_already (marked list marks) token) same
  mark_more (x ∷ list) (true ∷ marks) (suc place) h token at within =
      or_swap (h.token == token) (x.token == token) (asked_already (marked list marks) token) ∙ ap (λ b. (x.token == token) || b) (mark_more list marks place h token at (omega (arith, within)))
  mark_more (x ∷ list) (false ∷ marks) (suc place) h token at within =
      mark_more list marks place h token at (omega (arith, within))

  -- ---- by the place of a token
  record Stands (list : List (HandlerData R)) (token place : ℕ) : Type 0 where
    handler : HandlerData R
    at : slice_get list place ≡ Some handler
    token_is : handler.token ≡ token

  stands_by : (list : List (HandlerData R)) (token place : ℕ) (o : Option (HandlerData R)) → slice_get list place ≡ o → IfSome o (λ h. h.token ≡ token) → is_some o ≡ true → Stands list token place
  stands_by list token place None is has there = absurd cc
  stands_by list token place (Some h) is has there = record { handler = h; at = is; token_is = has }

  stands : (list : List (HandlerData R)) (token place : ℕ) → AllPairs (λ a b. a.token < b.token) list → place_of list token ≡ Some place → Stands list token place
  stands list token place rise placed =
      stands_by list token place (handler_of list token) (sym (placed_at list token place rise placed).found) (found_has list token)
      (sym (is_some-position (has_token token) list) ∙ ap is_some placed)

  pub marked_there : (list : List (HandlerData R)) (marks : List Bool) (token place : ℕ) → AllPairs (λ a b. a.token < b.token) list → place_of list token ≡ Some place → asked_already (marked list marks) token ≡ get_or marks place false
  marked_there list marks token place rise placed =
      let s = stands list token place rise placed in
      subst (λ t. asked_already (marked list marks) t ≡ get_or marks place false) s.token_is (mark_at list marks place s.handler rise s.at)

  pub marked_more : (list : List (HandlerData R)) (marks : List Bool) (target place : ℕ) → AllPairs (λ a b. a.token < b.token) list → place_of list target ≡ Some place → place < length marks → (token : ℕ) → asked_already (target ∷ marked list marks) token ≡ asked_already (marked list (set marks place true)) token
  marked_more list marks target place rise placed within token =
      let s = stands list target place rise placed in
      subst (λ t. asked_already (t ∷ marked list marks) token ≡ asked_already (marked list (set marks place true)) token) s.token_is (mark_more list marks place s.handler token s.at within)
