-- Handlers by their tokens: which is found, that it is there, and what is known of the first one.
use Rattle.std.proofs.Common.{◌≡◌, ℕ, zero, suc, ◌<◌, ◌==◌, Bool, true, false, cond, List, [], ◌∷◌, length, get_or, All, AllPairs, Contains, Option, None, Some, IfSome, IsSome, is_some, option_and_then, refl, sym, ap, subst, eqb-true, eq-eqb, ne_eqb, arith}
use Rattle.std.proofs.lemmas.Bool.{cond_both}
use Rattle.std.proofs.lemmas.List.{length-map, get_or-map}
use Rattle.ak_handler.specs.Changes.{is_there, may_be}
use Rattle.ak_handler.specs.Handlers.{HandlerData, BeginsWithLooper, IsThere, after_steps, handler_of, has_token, tokens_of}
use Rattle.ak_handler.proofs.Chains.{Ends, ended, ends_before, ends_in_time}
use Rattle.ak_handler.proofs.Places.{IsAlone}

apart : (a b token : ℕ) → a < b → a == token ≡ true → b == token ≡ false
apart a b token lt e = ne_eqb b token (λ same. absurd (omega (arith, eqb-true a token e)))

module _ {R : Type 0} where
  -- ---- which is found
  pub found_has : (list : List (HandlerData R)) (token : ℕ) → IfSome (handler_of list token) (λ h. h.token ≡ token)
  found_has [] token = tt
  found_has (h ∷ list) token =
      cond_both (has_token token h) (Some h) (handler_of list token) (λ o. IfSome o (λ h. h.token ≡ token)) (λ e. eqb-true _ _ e) (λ _. found_has list token)

  found_at : (list : List (HandlerData R)) (token k : ℕ) → k < length (tokens_of list) → get_or (tokens_of list) k token ≡ token → IsSome (handler_of list token)
  found_at [] token k lt e = absurd (omega arith)
  found_at (h ∷ list) token zero lt e = rw (eq-eqb h.token token e) refl
  found_at (h ∷ list) token (suc k) lt e =
      cond_both (has_token token h) (Some h) (handler_of list token) IsSome (λ _. refl) (λ _. found_at list token k (omega arith) e)

  pub found : (list : List (HandlerData R)) (token : ℕ) → Contains (tokens_of list) token → IsSome (handler_of list token)
  found list token there = found_at list token there.0 there.1 there.2

  deeper : (h : HandlerData R) (list : List (HandlerData R)) (token : ℕ) → Contains (tokens_of list) token → Contains (tokens_of (h ∷ list)) token
  deeper h list token there = (suc there.0, omega (arith, there.1), there.2)

  found_there_by : (h : HandlerData R) (list : List (HandlerData R)) (token : ℕ) (b : Bool) → has_token token h ≡ b → (is_there list token ≡ true → Contains (tokens_of list) token) → is_some (cond b (Some h) (handler_of list token)) ≡ true → Contains (tokens_of (h ∷ list)) token
  found_there_by h list token true is rest e = (zero, omega arith, eqb-true _ _ is)
  found_there_by h list token false is rest e = deeper h list token (rest e)

  pub found_there : (list : List (HandlerData R)) (token : ℕ) → is_there list token ≡ true → Contains (tokens_of list) token
  found_there [] token e = absurd cc
  found_there (h ∷ list) token e = found_there_by h list token (has_token token h) refl (found_there list token) e

  pub may_be_there : (list : List (HandlerData R)) (at : Option ℕ) → may_be list at ≡ true → IsThere list at
  may_be_there list None e = tt
  may_be_there list (Some token) e = found_there list token e

  pub contains_token : (list : List (HandlerData R)) (k : ℕ) (d : HandlerData R) → k < length list → Contains (tokens_of list) (get_or list k d).token
  contains_token list k d lt =
      (k, omega (arith, length-map list (λ h. h.token)), get_or-map (λ h. h.token) list k d (get_or list k d).token lt)

  -- ---- no two have one token
  pub tokens_alone : (list : List (HandlerData R)) (token : ℕ) → AllPairs (λ a b. a.token < b.token) list → IsAlone (has_token token) list
  tokens_alone list token rise i j d lt within =
      apart (get_or list i d).token (get_or list j d).token token (rise i j d lt within)

  -- ---- it is enough that chains end at all
  pub chains_end_from : (list : List (HandlerData R)) → All (λ h. IsThere list h.next) list → All (λ h. Ends list (Some h.token)) list → All (λ h. after_steps list (length list) (Some h.token) ≡ None) list
  chains_end_from list links ends k d lt =
      ends_in_time list links (Some (get_or list k d).token) (contains_token list k d lt) (ends k d lt)

  -- ---- the first one
  pub record Begins (list : List (HandlerData R)) : Type 0 where
    pub first : HandlerData R
    pub rest : List (HandlerData R)
    pub is : list ≡ first ∷ rest
    pub token : first.token ≡ 0
    pub next : first.next ≡ None

  looper_next : (h : HandlerData R) (list : List (HandlerData R)) → h.token ≡ 0 → IfSome (handler_of (h ∷ list) 0) (λ h. h.next ≡ None) → h.next ≡ None
  looper_next h list e next =
      let is : handler_of (h ∷ list) 0 ≡ Some h = rw (eq-eqb h.token 0 e) refl in
      subst (λ o. IfSome o (λ h. h.next ≡ None)) is next

  pub begins : (list : List (HandlerData R)) → BeginsWithLooper list → Begins list
  begins [] looper = absurd (cc (looper.1))
  begins (h ∷ list) looper =
      let e : h.token ≡ 0 = cc (looper.1) in
      record { first = h; rest = list; is = refl; token = e; next = looper_next h list e looper.0 }

  pub begins_with : (h : HandlerData R) (list : List (HandlerData R)) → h.token ≡ 0 → h.next ≡ None → BeginsWithLooper (h ∷ list)
  begins_with h list e next =
      let is : handler_of (h ∷ list) 0 ≡ Some h = rw (eq-eqb h.token 0 e) refl in
      (subst (λ o. IfSome o (λ h. h.next ≡ None)) (sym is) next, ap Some e)

  pub looper_there : (list : List (HandlerData R)) → BeginsWithLooper list → Contains (tokens_of list) 0
  looper_there list looper =
      let b = begins list looper in
      subst (λ l. Contains (tokens_of l) 0) (sym b.is) (0, omega arith, b.token)

  looper_next_by : (o : Option (HandlerData R)) → IfSome o (λ h. h.next ≡ None) → option_and_then (λ h. h.next) o ≡ None
  looper_next_by None h = refl
  looper_next_by (Some h) e = e

  pub looper_ends : (list : List (HandlerData R)) → BeginsWithLooper list → Ends list (Some 0)
  looper_ends list looper =
      ends_before list 0 (subst (Ends list) (sym (looper_next_by (handler_of list 0) looper.0)) (ended list))
