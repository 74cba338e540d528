-- Another next handler, whose chain does not come back: all that is true of handlers stays true.
use Rattle.std.proofs.Common.{◌≡◌, ◌≢◌, ℕ, zero, suc, ◌==◌, Bool, true, false, cond, ◌||◌, ⊎_elim, List, length, get_or, map, All, Option, None, Some, IfSome, IsSome, option_map, option_and_then, refl, sym, ap, subst, ◌∙◌, eq-eqb, ne_eqb}
use Rattle.std.specs.List.{list_any}
use Rattle.std.proofs.lemmas.Bool.{cond_both}
use Rattle.std.proofs.lemmas.Bool.Decides.{eqb_tells}
use Rattle.std.proofs.lemmas.List.Elements.{All-map}
use Rattle.ak_handler.specs.Changes.{linked, may_be, with_next}
use Rattle.ak_handler.specs.Handlers.{HandlerData, HandlersData, IsHandlers, IsThere, after_steps, chain_from, chain_of, handler_of, has_token, next_in}
use Rattle.ak_handler.proofs.Chains.{Ends, along_chain, ended, ends_before, ends_there}
use Rattle.ak_handler.proofs.Mapped.{found-map, in_order, mapped, there-map}
use Rattle.ak_handler.proofs.Tokens.{chains_end_from, found_has, may_be_there}

differs : (a b : ℕ) → a == b ≡ false → a ≢ b
differs a b e same = let yes = eq-eqb a b same in absurd cc

neither : (a b : Bool) → (a || b) ≡ false → (a ≡ false) × (b ≡ false)
neither true b e = absurd cc
neither false b e = (refl, e)

module _ {R : Type 0} (token : ℕ) (next : Option ℕ) where
  same_by : {A : Type 0} (part : HandlerData R → A) (h : HandlerData R) → part (record h { next = next }) ≡ part h → (b : Bool) → part (cond b (record h { next = next }) h) ≡ part h
  same_by part h e true = e
  same_by part h e false = refl

  same_token : (h : HandlerData R) → (linked token next h).token ≡ h.token
  same_token h = same_by (λ h. h.token) h refl (has_token token h)

  same_name : (h : HandlerData R) → (linked token next h).name ≡ h.name
  same_name h = same_by (λ h. h.name) h refl (has_token token h)

  other_next : (h : HandlerData R) → h.token ≢ token → (linked token next h).next ≡ h.next
  other_next h other = rw (ne_eqb h.token token other) refl

  its_next : (h : HandlerData R) → h.token ≡ token → (linked token next h).next ≡ next
  its_next h e = rw (eq-eqb h.token token e) refl

  other_by : (at : ℕ) (o : Option (HandlerData R)) → IfSome o (λ h. h.token ≡ at) → at ≢ token → option_and_then (λ h. h.next) (option_map (linked token next) o) ≡ option_and_then (λ h. h.next) o
  other_by at None has other = refl
  other_by at (Some h) has other = other_next h (λ e. other (sym has ∙ e))

  its_by : (o : Option (HandlerData R)) → IfSome o (λ h. h.token ≡ token) → IsSome o → option_and_then (λ h. h.next) (option_map (linked token next) o) ≡ next
  its_by None has is = absurd cc
  its_by (Some h) has is = its_next h has

  module _ (list : List (HandlerData R)) where
    after : List (HandlerData R)
    after = map (linked token next) list

    next_of_other : (at : ℕ) → at ≢ token → next_in (map (linked token next) list) at ≡ next_in list at
    next_of_other at other =
        ap (option_and_then (λ h. h.next)) (found-map (linked token next) same_token list at) ∙ other_by at (handler_of list at) (found_has list at) other

    next_of_it : IsSome (handler_of list token) → next_in (map (linked token next) list) token ≡ next
    next_of_it there =
        ap (option_and_then (λ h. h.next)) (found-map (linked token next) same_token list token) ∙ its_by (handler_of list token) (found_has list token) there

    -- a chain that does not meet the handler is as before
    clear : (n : ℕ) (at : Option ℕ) → after_steps list n at ≡ None → list_any (λ t. t == token) (chain_of list n at) ≡ false → Ends (map (linked token next) list) at
    clear zero at e free = subst (Ends (map (linked token next) list)) (sym e) (ended (map (linked token next) list))
    clear (suc n) None e free = ended (map (linked token next) list)
    clear (suc n) (Some at) e free =
        let apart = neither (at == token) (list_any (λ t. t == token) (chain_of list n (next_in list at))) free in
        ends_before (map (linked token next) list) at
        (subst (Ends (map (linked token next) list)) (sym (next_of_other at (differs at token apart.0))) (clear n (next_in list at) e apart.1))

    -- one that meets it goes on from the new next handler
    ends_linked : IsSome (handler_of list token) → Ends (map (linked token next) list) next → (at : Option ℕ) → Ends list at → Ends (map (linked token next) list) at
    ends_linked there from_next =
        along_chain list (Ends (map (linked token next) list)) (ended (map (linked token next) list))
        (λ at e. ⊎_elim
        (λ same. subst (λ t. Ends (map (linked token next) list) (Some t)) (sym same.1) (ends_before (map (linked token next) list) token (subst (Ends (map (linked token next) list)) (sym (next_of_it there)) from_next)))
        (λ other. ends_before (map (linked token next) list) at (subst (Ends (map (linked token next) list)) (sym (next_of_other at other.1)) e))
        (eqb_tells at token))

  pub handlers_linked : (s : HandlersData R) → IsHandlers s → IsSome (handler_of s.list token) → may_be s.list next ≡ true → token ≢ 0 → list_any (λ t. t == token) (chain_from s.list next) ≡ false → IsHandlers (with_next s token next)
  handlers_linked s h found may_be_next other free =
      let after = map (linked token next) s.list in
      let there = may_be_there s.list next may_be_next in
      let links : All (λ h. IsThere after h.next) after =
      All-map (λ h. IsThere after h.next) (linked token next) s.list
      (λ k d lt. cond_both (has_token token (get_or s.list k d)) (record (get_or s.list k d) { next = next }) (get_or s.list k d) (λ h. IsThere after h.next)
      (λ _. there-map (linked token next) same_token s.list next there)
      (λ _. there-map (linked token next) same_token s.list (get_or s.list k d).next (h.next_is_there k d lt))) in
      let from_next = clear s.list (length s.list) next (ends_there s.list h.chains_end next there) free in
      let ends : All (λ h. Ends after (Some h.token)) after =
      All-map (λ h. Ends after (Some h.token)) (linked token next) s.list
      (λ k d lt. subst (λ t. Ends after (Some t)) (sym (same_token (get_or s.list k d))) (ends_linked s.list found from_next (Some (get_or s.list k d).token) (record { steps = length s.list; is = h.chains_end k d lt }))) in
      mapped (linked token next) same_token s s.preferred same_name
      (λ x is_looper e. other_next x (λ same. other (sym same ∙ is_looper)) ∙ e) (in_order s h) (there-map (linked token next) same_token s.list s.preferred h.preferred_is_there) links (chains_end_from after links ends)
