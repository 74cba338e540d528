-- One more handler at the end: all that is true of handlers stays true.
use Rattle.std.proofs.Common.{◌≡◌, ◌≢◌, ℕ, ◌+◌, ◌-◌, ◌^◌, ◌<◌, Bool, true, false, cond, List, [], ◌∷◌, ◌++◌, length, get_or, find, All, Contains, Option, None, Some, is_some, option_map, option_and_then, bytes_eq, refl, sym, ap, subst, ◌∙◌, eq-eqb, ne_eqb, length-append, arith}
use Rattle.std.specs.Option.{option_or}
use Rattle.std.proofs.lemmas.List.{map-append}
use Rattle.std.proofs.lemmas.List.Elements.{All-push, All-cons, All-head, All-tail, Contains-append_left}
use Rattle.std.proofs.lemmas.List.Folds.{find-append}
use Rattle.std.proofs.lemmas.List.Quantifiers.{all_pairs_push}
use Rattle.std.proofs.lemmas.Slice.Eq.{bytes_eq-Decides}
use Rattle.ak_handler.specs.Changes.{with_handler}
use Rattle.ak_handler.specs.Handlers.{HandlerData, HandlersData, IsHandlers, BeginsWithLooper, IsThere, handler_of, has_name, has_token, next_in, token_named, tokens_of}
use Rattle.ak_handler.proofs.Chains.{Ends, along_chain, ended, ends_before, ends_there, next_there}
use Rattle.ak_handler.proofs.Tokens.{begins, begins_with, chains_end_from, contains_token, found, looper_there}

module _ {X : Type 0} (p : X → Bool) where
  none_passes_by : (b : Bool) (x : X) (o : Option X) → is_some (cond b (Some x) o) ≡ false → (b ≡ false) × (is_some o ≡ false)
  none_passes_by true x o e = absurd cc
  none_passes_by false x o e = (refl, e)

  -- where none is found, none passes
  none_passes : (xs : List X) → is_some (find p xs) ≡ false → All (λ x. p x ≡ false) xs
  none_passes [] e = λ k d lt. absurd (omega arith)
  none_passes (x ∷ xs) e =
      let apart = none_passes_by (p x) x (find p xs) e in
      All-cons (λ x. p x ≡ false) x xs apart.0 (none_passes xs apart.1)

  none_found : (xs : List X) → All (λ x. p x ≡ false) xs → find p xs ≡ None
  none_found [] h = refl
  none_found (x ∷ xs) h =
      rw (All-head (λ x. p x ≡ false) x xs h) (none_found xs (All-tail (λ x. p x ≡ false) x xs h))

is_some-map : {A B : Type 0} (f : A → B) (o : Option A) → is_some (option_map f o) ≡ is_some o
is_some-map f None = refl
is_some-map f (Some x) = refl

or_next : {X : Type 0} (o p : Option X) → is_some o ≡ true → option_or o p ≡ o
or_next None p e = absurd cc
or_next (Some x) p e = refl

module _ {R : Type 0} (list : List (HandlerData R)) (new : HandlerData R) where
  tokens-push : tokens_of (list ++ new ∷ []) ≡ tokens_of list ++ new.token ∷ []
  tokens-push = map-append (λ h. h.token) list (new ∷ [])

  there-push : (at : Option ℕ) → IsThere list at → IsThere (list ++ new ∷ []) at
  there-push None there = tt
  there-push (Some token) there =
      subst (λ tokens. Contains tokens token) (sym tokens-push) (Contains-append_left (tokens_of list) (new.token ∷ []) token there)

  next_of_other : (at : ℕ) → Contains (tokens_of list) at → next_in (list ++ new ∷ []) at ≡ next_in list at
  next_of_other at there =
      ap (option_and_then (λ h. h.next)) (find-append (has_token at) list (new ∷ []) ∙ or_next (handler_of list at) (handler_of (new ∷ []) at) (found list at there))

  next_of_new : All (λ h. h.token < new.token) list → next_in (list ++ new ∷ []) new.token ≡ new.next
  next_of_new below =
      let no_other = none_found (has_token new.token) list (λ k d lt. ne_eqb (get_or list k d).token new.token (λ same. absurd (omega (arith, below k d lt)))) in
      let last : handler_of (new ∷ []) new.token ≡ Some new = rw (eq-eqb new.token new.token refl) refl in
      ap (option_and_then (λ h. h.next)) (find-append (has_token new.token) list (new ∷ []) ∙ (λ k. option_or (no_other k) (last k)))

  -- the other chains are as before
  ends_pushed : All (λ h. IsThere list h.next) list → (at : Option ℕ) → Ends list at → IsThere list at → Ends (list ++ new ∷ []) at
  ends_pushed links =
      along_chain list (λ at. IsThere list at → Ends (list ++ new ∷ []) at) (λ _. ended (list ++ new ∷ []))
      (λ at e there. ends_before (list ++ new ∷ []) at (subst (Ends (list ++ new ∷ [])) (sym (next_of_other at there)) (e (next_there list links at))))

  looper-push : BeginsWithLooper list → BeginsWithLooper (list ++ new ∷ [])
  looper-push looper =
      let b = begins list looper in
      subst (λ l. BeginsWithLooper (l ++ new ∷ [])) (sym b.is) (begins_with b.first (b.rest ++ new ∷ []) b.token b.next)

module _ {R : Type 0} (s : HandlersData R) (name : List ℕ) (content : R) where
  abbrev new : HandlerData R
  new = record { token = s.next_token; name = name; next = Some 0; content = content }

  name_apart : (other : List ℕ) → bytes_eq other name ≡ false → other ≢ name
  name_apart other e same = let yes = (bytes_eq-Decides other name).1 same in absurd cc

  pub handlers_added : IsHandlers s → is_some (token_named s.list name) ≡ false → length s.list < 64 → s.next_token < 2 ^ 64 - 1 → IsHandlers (with_handler s name content)
  handlers_added h unused few room =
      let after = s.list ++ new ∷ [] in
      let free = none_passes (has_name name) s.list (sym (is_some-map (λ h. h.token) (find (has_name name) s.list)) ∙ unused) in
      let looper = looper_there s.list h.looper in
      let links : All (λ h. IsThere after h.next) after =
      All-push (λ h. IsThere after h.next) s.list new (λ k d lt. there-push s.list new (get_or s.list k d).next (h.next_is_there k d lt)) (there-push s.list new (Some 0) looper) in
      let from_looper = ends_pushed s.list new h.next_is_there (Some 0) (record { steps = length s.list; is = ends_there s.list h.chains_end (Some 0) looper }) looper in
      let ends : All (λ h. Ends after (Some h.token)) after =
      All-push (λ h. Ends after (Some h.token)) s.list new
      (λ k d lt. ends_pushed s.list new h.next_is_there (Some (get_or s.list k d).token) (record { steps = length s.list; is = h.chains_end k d lt }) (contains_token s.list k d lt))
      (ends_before after s.next_token (subst (Ends after) (sym (next_of_new s.list new h.tokens_below)) from_looper)) in
      record {
        looper = looper-push s.list new h.looper;
        limit = omega (arith, few, length-append s.list (new ∷ []));
        tokens_rise = all_pairs_push (λ a b. a.token < b.token) s.list new h.tokens_rise h.tokens_below;
        tokens_below = All-push (λ h. h.token < s.next_token + 1) s.list new (λ k d lt. omega (arith, h.tokens_below k d lt)) (omega arith);
        next_token = omega (arith, room);
        names_differ = all_pairs_push (λ a b. a.name ≢ b.name) s.list new h.names_differ (λ k d lt. name_apart (get_or s.list k d).name (free k d lt));
        next_is_there = links;
        preferred_is_there = there-push s.list new s.preferred h.preferred_is_there;
        chains_end = chains_end_from after links ends;
      }
