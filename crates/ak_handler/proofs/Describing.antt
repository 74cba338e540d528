-- Described handlers are numbered one by one.
use Rattle.std.proofs.Common.{◌≡◌, ◌≢◌, ℕ, zero, suc, ◌+◌, Bool, true, false, List, [], ◌∷◌, ◌++◌, length, AllPairs, Option, None, bytes_eq, refl, sym, ap, ◌∙◌, append_assoc, length-append, arith}
use Rattle.std.proofs.lemmas.List.{get_or_at}
use Rattle.std.proofs.lemmas.Slice.Eq.{bytes_eq-Decides}
use Rattle.ak_handler.specs.Changes.{numbered_rows}
use Rattle.ak_handler.specs.Handlers.{HandlerData, token_named}

apart : (a b : List ℕ) → a ≢ b → bytes_eq a b ≡ false
apart a b differ = apart_by (bytes_eq a b) refl
  where
    apart_by : (r : Bool) → bytes_eq a b ≡ r → bytes_eq a b ≡ false
    apart_by true e = absurd (differ ((bytes_eq-Decides a b).0 e))
    apart_by false e = e

module _ {R : Type 0} where
  -- those that are numbered, and those that are left
  abbrev pub both : List (HandlerData R) → List (List ℕ × Option ℕ × R) → List (HandlerData R)
  both list left = list ++ numbered_rows (length list) left

  pub numbered_more : (list : List (HandlerData R)) (h : HandlerData R) (left : List (List ℕ × Option ℕ × R)) → h.token ≡ length list → both (list ++ h ∷ []) left ≡ both list ((h.name, h.next, h.content) ∷ left)
  numbered_more list h left token =
      let count : length (list ++ h ∷ []) ≡ length list + 1 = omega (arith, length-append list (h ∷ [])) in
      append_assoc list (h ∷ []) (numbered_rows (length (list ++ h ∷ [])) left) ∙ (λ i. list ++ (record { token = token i; name = h.name; next = h.next; content = h.content }) ∷ numbered_rows (count i) left)

  -- ---- where names differ, none so far has the name of the next one
  next_differs : (x : HandlerData R) (list : List (HandlerData R)) (h : HandlerData R) (left : List (HandlerData R)) → AllPairs (λ a b. a.name ≢ b.name) (x ∷ (list ++ h ∷ left)) → x.name ≢ h.name
  next_differs x list h left differ same =
      differ zero (suc (length list)) x (omega arith) (omega (arith, length-append list (h ∷ left))) (same ∙ sym (ap (λ h. h.name) (get_or_at list h left x (length list) refl)))

  pub no_such_name : (list : List (HandlerData R)) (h : HandlerData R) (left : List (HandlerData R)) → AllPairs (λ a b. a.name ≢ b.name) (list ++ h ∷ left) → token_named list h.name ≡ None
  no_such_name [] h left differ = refl
  no_such_name (x ∷ list) h left differ =
      rw (apart x.name h.name (next_differs x list h left differ)) (no_such_name list h left (λ i j d lt within. differ (suc i) (suc j) d (omega (arith, lt)) (omega (arith, within))))
