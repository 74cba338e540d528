-- A handler is removed, and those whose next it was have the looper as next: all that is true of handlers stays true.
use Rattle.std.proofs.Common.{◌≡◌, ◌≢◌, ℕ, ◌<◌, ◌≤◌, ◌==◌, Bool, true, false, cond, not, List, [], ◌∷◌, length, get_or, map, filter, find, All, Option, None, Some, is_some, option_map, option_and_then, refl, sym, ap, subst, ◌∙◌, eq-eqb, eqb-true, ne_eqb, arith}
use Rattle.std.proofs.lemmas.Bool.{cond_both}
use Rattle.std.proofs.lemmas.List.Elements.{All-map, All-filter, filter_passes}
use Rattle.std.proofs.lemmas.List.Kept.{AllPairs-filter}
use Rattle.std.proofs.lemmas.List.Filters.{length-filter_both}
use Rattle.ak_handler.specs.Changes.{relinked, unless, without_handler}
use Rattle.ak_handler.specs.Handlers.{HandlerData, HandlersData, IsHandlers, BeginsWithLooper, IsThere, handler_of, has_token, next_in}
use Rattle.ak_handler.proofs.Chains.{Ends, along_chain, ended, ends_before}
use Rattle.ak_handler.proofs.Mapped.{IsInOrder, found-map, looper-map, mapped, there-map}
use Rattle.ak_handler.proofs.Tokens.{begins, begins_with, chains_end_from, found, found_there, looper_ends, looper_there}

differs : (a b : ℕ) → a == b ≡ false → a ≢ b
differs a b e same = let yes = eq-eqb a b same in absurd cc

passes : (b : Bool) → not b ≡ true → b ≡ false
passes true e = absurd cc
passes false e = refl

module _ {X : Type 0} (p q : X → Bool) (within : (x : X) → p x ≡ true → q x ≡ true) where
  found_behind : (x : X) (a b : Bool) (xs ys : List X) → p x ≡ a → (a ≡ true → b ≡ true) → find p ys ≡ find p xs → find p (cond b (x ∷ ys) ys) ≡ cond a (Some x) (find p xs)
  found_behind x true true xs ys is h e = rw is refl
  found_behind x true false xs ys is h e = let no = h refl in absurd cc
  found_behind x false true xs ys is h e = rw is e
  found_behind x false false xs ys is h e = e

  -- what passes a narrower test is found among those that pass a wider one
  find-filter : (xs : List X) → find p (filter q xs) ≡ find p xs
  find-filter [] = refl
  find-filter (x ∷ xs) = found_behind x (p x) (q x) xs (filter q xs) refl (within x) (find-filter xs)

length-filter-le : {X : Type 0} (p : X → Bool) (xs : List X) → length (filter p xs) ≤ length xs
length-filter-le p xs = omega (arith, length-filter_both p (λ x. not (p x)) (λ x. refl) xs)

module _ {R : Type 0} (token : ℕ) where
  abbrev stays : HandlerData R → Bool
  stays h = not (has_token token h)

  other_stays : (at : ℕ) → at ≢ token → (h : HandlerData R) → has_token at h ≡ true → stays h ≡ true
  other_stays at other h e = rw (ne_eqb h.token token (λ same. other (sym (eqb-true h.token at e) ∙ same))) refl

  next_by : (o : Option (HandlerData R)) → option_and_then (λ h. h.next) (option_map (relinked token) o) ≡ unless token (Some 0) (option_and_then (λ h. h.next) o)
  next_by None = refl
  next_by (Some h) = refl

  module _ (list : List (HandlerData R)) where
    found_left : (at : ℕ) → at ≢ token → handler_of (filter stays list) at ≡ handler_of list at
    found_left at other = find-filter (has_token at) stays (other_stays at other) list

    next_left : (at : ℕ) → at ≢ token → next_in (map (relinked token) (filter stays list)) at ≡ unless token (Some 0) (next_in list at)
    next_left at other =
        ap (option_and_then (λ h. h.next)) (found-map (relinked token) (λ _. refl) (filter stays list) at) ∙ next_by (handler_of (filter stays list) at) ∙ ap (λ o. unless token (Some 0) (option_and_then (λ h. h.next) o)) (found_left at other)

    there_left : (other at : Option ℕ) → IsThere (map (relinked token) (filter stays list)) other → IsThere list at → IsThere (map (relinked token) (filter stays list)) (unless token other at)
    there_left other None there_other there = tt
    there_left other (Some t) there_other there =
        cond_both (t == token) other (Some t) (IsThere (map (relinked token) (filter stays list)))
        (λ _. there_other)
        (λ e. there-map (relinked token) (λ _. refl) (filter stays list) (Some t) (found_there (filter stays list) t (ap is_some (found_left t (differs t token e)) ∙ found list t there)))

    abbrev left : List (HandlerData R)
    left = map (relinked token) (filter stays list)

    on_by : (o : Option ℕ) → Ends left (Some 0) → (o ≢ Some token → Ends left o) → Ends left (unless token (Some 0) o)
    on_by None from_looper on = ended left
    on_by (Some t) from_looper on =
        cond_both (t == token) (Some 0) (Some t) (Ends left) (λ _. from_looper) (λ e. on (λ same. differs t token e cc))

    -- a chain goes on as before, or to the looper and ends
    ends_left : Ends left (Some 0) → (at : Option ℕ) → Ends list at → at ≢ Some token → Ends left at
    ends_left from_looper =
        along_chain list (λ at. at ≢ Some token → Ends left at) (λ _. ended left)
        (λ at on other. ends_before left at (subst (Ends left) (sym (next_left at (λ same. other (ap Some same)))) (on_by (next_in list at) from_looper on)))

  first_stays : (first : HandlerData R) (rest : List (HandlerData R)) → first.token ≡ 0 → token ≢ 0 → filter stays (first ∷ rest) ≡ first ∷ filter stays rest
  first_stays first rest e other = rw (ne_eqb first.token token (λ same. other (sym same ∙ e))) refl

  looper_stays : (list : List (HandlerData R)) → BeginsWithLooper list → token ≢ 0 → BeginsWithLooper (filter stays list)
  looper_stays list looper other =
      let b = begins list looper in
      subst (λ l. BeginsWithLooper (filter stays l)) (sym b.is)
      (subst BeginsWithLooper (sym (first_stays b.first b.rest b.token other)) (begins_with b.first (filter stays b.rest) b.token b.next))

  in_order_left : (s : HandlersData R) → IsHandlers s → token ≢ 0 → IsInOrder (record s { list = filter stays s.list })
  in_order_left s h other =
      record {
        looper = looper_stays s.list h.looper other;
        limit = omega (arith, length-filter-le stays s.list, h.limit);
        tokens_rise = AllPairs-filter (λ a b. a.token < b.token) stays s.list h.tokens_rise;
        tokens_below = All-filter stays (λ h. h.token < s.next_token) s.list h.tokens_below;
        next_token = h.next_token;
        names_differ = AllPairs-filter (λ a b. a.name ≢ b.name) stays s.list h.names_differ;
      }

  pub handlers_without : (s : HandlersData R) → IsHandlers s → token ≢ 0 → IsHandlers (without_handler s token)
  handlers_without s h other =
      let in_order = in_order_left s h other in
      let looper = looper-map (relinked token) (λ _. refl) (filter stays s.list) (λ x _ e. ap (unless token (Some 0)) e) in_order.looper in
      let links : All (λ h. IsThere (left s.list) h.next) (left s.list) =
      All-map (λ h. IsThere (left s.list) h.next) (relinked token) (filter stays s.list)
      (All-filter stays (λ h. IsThere (left s.list) (unless token (Some 0) h.next)) s.list
      (λ k d lt. there_left s.list (Some 0) (get_or s.list k d).next (looper_there (left s.list) looper) (h.next_is_there k d lt))) in
      let ended_before = All-filter stays (λ h. Ends s.list (Some h.token)) s.list (λ k d lt. record { steps = length s.list; is = h.chains_end k d lt }) in
      let ends : All (λ h. Ends (left s.list) (Some h.token)) (left s.list) =
      All-map (λ h. Ends (left s.list) (Some h.token)) (relinked token) (filter stays s.list)
      (λ k d lt. ends_left s.list (looper_ends (left s.list) looper) (Some (get_or (filter stays s.list) k d).token) (ended_before k d lt)
      (λ same. differs (get_or (filter stays s.list) k d).token token (passes _ (filter_passes stays s.list k d lt)) cc)) in
      mapped (relinked token) (λ _. refl) (record s { list = filter stays s.list }) (unless token None s.preferred) (λ _. refl) (λ x _ e. ap (unless token (Some 0)) e) in_order (there_left s.list None s.preferred tt h.preferred_is_there) links (chains_end_from (left s.list) links ends)
