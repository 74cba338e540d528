-- Handlers that are changed one by one, and keep their tokens and names.
use Rattle.std.proofs.Common.{◌≡◌, ◌≢◌, ℕ, zero, suc, ◌<◌, ◌≤◌, ◌^◌, ◌==◌, List, [], ◌∷◌, length, get_or, map, find, All, AllPairs, Contains, Option, None, Some, IfSome, option_map, refl, sym, ap, ap₂, ◌∙◌, subst, arith}
use Rattle.std.proofs.lemmas.List.{length-map}
use Rattle.std.proofs.lemmas.List.Elements.{All-map}
use Rattle.std.proofs.lemmas.List.Kept.{AllPairs-cons}
use Rattle.ak_handler.specs.Handlers.{HandlerData, HandlersData, IsHandlers, BeginsWithLooper, IsThere, after_steps, handler_of, has_token, tokens_of}
use Rattle.ak_base.proofs.Surface.{find-map}
use Rattle.ak_handler.proofs.Tokens.{begins, begins_with}

pub AllPairs-map : {A B : Type 0} (f : A → B) (Q : B → B → Type 0) (xs : List A) → AllPairs (λ a b. Q (f a) (f b)) xs → AllPairs Q (map f xs)
AllPairs-map f Q [] h = λ i j d lt within. absurd (omega arith)
AllPairs-map f Q (x ∷ xs) h =
    AllPairs-cons Q (f x) (map f xs)
    (All-map (Q (f x)) f xs (λ k d lt. h zero (suc k) d (omega arith) (omega arith)))
    (AllPairs-map f Q xs (λ i j d lt within. h (suc i) (suc j) d (omega arith) (omega arith)))

-- what is true of handlers, but for their next ones
pub record IsInOrder {R : Type 0} (s : HandlersData R) : Type 0 where
  pub looper : BeginsWithLooper s.list
  pub limit : length s.list ≤ 64
  pub tokens_rise : AllPairs (λ a b. a.token < b.token) s.list
  pub tokens_below : All (λ h. h.token < s.next_token) s.list
  pub next_token : s.next_token < 2 ^ 64
  pub names_differ : AllPairs (λ a b. a.name ≢ b.name) s.list

pub in_order : {R : Type 0} (s : HandlersData R) → IsHandlers s → IsInOrder s
in_order s h =
    record { looper = h.looper; limit = h.limit; tokens_rise = h.tokens_rise; tokens_below = h.tokens_below; next_token = h.next_token; names_differ = h.names_differ }

module _ {R : Type 0} (change : HandlerData R → HandlerData R) (same_token : (h : HandlerData R) → (change h).token ≡ h.token) where
  pub tokens-map : (list : List (HandlerData R)) → tokens_of (map change list) ≡ tokens_of list
  tokens-map [] = refl
  tokens-map (h ∷ list) = ap₂ (λ token tokens. token ∷ tokens) (same_token h) (tokens-map list)

  pub there-map : (list : List (HandlerData R)) (at : Option ℕ) → IsThere list at → IsThere (map change list) at
  there-map list at there = subst (λ tokens. IfSome at (λ token. Contains tokens token)) (sym (tokens-map list)) there

  pub found-map : (list : List (HandlerData R)) (token : ℕ) → handler_of (map change list) token ≡ option_map change (handler_of list token)
  found-map list token =
      find-map change (has_token token) list ∙ ap (option_map change) (λ i. find (λ h. same_token h i == token) list)

  pub rise-map : (list : List (HandlerData R)) → AllPairs (λ a b. a.token < b.token) list → AllPairs (λ a b. a.token < b.token) (map change list)
  rise-map list rise =
      AllPairs-map change (λ a b. a.token < b.token) list (λ i j d lt within. omega (arith, same_token (get_or list i d), same_token (get_or list j d), rise i j d lt within))

  pub below-map : (bound : ℕ) (list : List (HandlerData R)) → All (λ h. h.token < bound) list → All (λ h. h.token < bound) (map change list)
  below-map bound list below =
      All-map (λ h. h.token < bound) change list (λ k d lt. omega (arith, same_token (get_or list k d), below k d lt))

  pub looper-map : (list : List (HandlerData R)) → ((h : HandlerData R) → h.token ≡ 0 → h.next ≡ None → (change h).next ≡ None) → BeginsWithLooper list → BeginsWithLooper (map change list)
  looper-map list same_looper looper =
      let b = begins list looper in
      subst (λ l. BeginsWithLooper (map change l)) (sym b.is)
      (begins_with (change b.first) (map change b.rest) (same_token b.first ∙ b.token) (same_looper b.first b.token b.next))

  -- where the names stay too, what is left to see is that the next handlers are there, and that chains end
  pub mapped : (s : HandlersData R) (preferred : Option ℕ) → ((h : HandlerData R) → (change h).name ≡ h.name) → ((h : HandlerData R) → h.token ≡ 0 → h.next ≡ None → (change h).next ≡ None) → IsInOrder s → IsThere (map change s.list) preferred → All (λ h. IsThere (map change s.list) h.next) (map change s.list) → All (λ h. after_steps (map change s.list) (length (map change s.list)) (Some h.token) ≡ None) (map change s.list) → IsHandlers (record s { list = map change s.list; preferred = preferred })
  mapped s preferred same_name same_looper h there links ends =
      record {
        looper = looper-map s.list same_looper h.looper;
        limit = omega (arith, length-map s.list change, h.limit);
        tokens_rise = rise-map s.list h.tokens_rise;
        tokens_below = below-map s.next_token s.list h.tokens_below;
        next_token = h.next_token;
        names_differ = AllPairs-map change (λ a b. a.name ≢ b.name) s.list (λ i j d lt within e. h.names_differ i j d lt within (sym (same_name (get_or s.list i d)) ∙ e ∙ same_name (get_or s.list j d)));
        next_is_there = links;
        preferred_is_there = there;
        chains_end = ends;
      }
