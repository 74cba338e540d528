-- What a handler holds is changed: all that is true of handlers stays true.
use Rattle.std.proofs.Common.{◌≡◌, ℕ, Bool, true, false, cond, List, length, get_or, map, All, Option, None, Some, option_map, option_and_then, refl, sym, ap, subst, ◌∙◌}
use Rattle.std.proofs.lemmas.List.Elements.{All-map}
use Rattle.ak_handler.specs.Changes.{holding, with_content}
use Rattle.ak_handler.specs.Handlers.{HandlerData, HandlersData, IsHandlers, IsThere, handler_of, has_token, next_in}
use Rattle.ak_handler.proofs.Chains.{Ends, along_chain, ended, ends_before}
use Rattle.ak_handler.proofs.Mapped.{found-map, in_order, mapped, there-map}
use Rattle.ak_handler.proofs.Tokens.{chains_end_from}

module _ {R : Type 0} (token : ℕ) (content : R) where
  -- what is the same of a handler with other content
  same_by : {A : Type 0} (part : HandlerData R → A) (h : HandlerData R) → part (record h { content = content }) ≡ part h → (b : Bool) → part (cond b (record h { content = content }) h) ≡ part h
  same_by part h e true = e
  same_by part h e false = refl

  same_token : (h : HandlerData R) → (holding token content h).token ≡ h.token
  same_token h = same_by (λ h. h.token) h refl (has_token token h)

  same_next : (h : HandlerData R) → (holding token content h).next ≡ h.next
  same_next h = same_by (λ h. h.next) h refl (has_token token h)

  same_name : (h : HandlerData R) → (holding token content h).name ≡ h.name
  same_name h = same_by (λ h. h.name) h refl (has_token token h)

  next_by : (o : Option (HandlerData R)) → option_and_then (λ h. h.next) (option_map (holding token content) o) ≡ option_and_then (λ h. h.next) o
  next_by None = refl
  next_by (Some h) = same_next h

  next_held : (list : List (HandlerData R)) (at : ℕ) → next_in (map (holding token content) list) at ≡ next_in list at
  next_held list at =
      ap (option_and_then (λ h. h.next)) (found-map (holding token content) same_token list at) ∙ next_by (handler_of list at)

  ends_held : (list : List (HandlerData R)) (at : Option ℕ) → Ends list at → Ends (map (holding token content) list) at
  ends_held list =
      along_chain list (Ends (map (holding token content) list)) (ended (map (holding token content) list))
      (λ at e. ends_before (map (holding token content) list) at (subst (Ends (map (holding token content) list)) (sym (next_held list at)) e))

  pub handlers_holding : (s : HandlersData R) → IsHandlers s → IsHandlers (with_content s token content)
  handlers_holding s h =
      let after = map (holding token content) s.list in
      let links : All (λ h. IsThere after h.next) after =
      All-map (λ h. IsThere after h.next) (holding token content) s.list (λ k d lt. subst (IsThere after) (sym (same_next (get_or s.list k d))) (there-map (holding token content) same_token s.list (get_or s.list k d).next (h.next_is_there k d lt))) in
      let ends : All (λ h. Ends after (Some h.token)) after =
      All-map (λ h. Ends after (Some h.token)) (holding token content) s.list (λ k d lt. subst (λ t. Ends after (Some t)) (sym (same_token (get_or s.list k d))) (ends_held s.list (Some (get_or s.list k d).token) (record { steps = length s.list; is = h.chains_end k d lt }))) in
      mapped (holding token content) same_token s s.preferred same_name (λ x _ e. same_next x ∙ e) (in_order s h) (there-map (holding token content) same_token s.list s.preferred h.preferred_is_there) links (chains_end_from after links ends)
