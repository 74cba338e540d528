-- Chains that end: they meet no handler twice, and so have ended after as many steps as there are handlers.
use Rattle.std.proofs.Common.{◌≡◌, ◌≢◌, ℕ, zero, suc, ◌≤◌, List, [], ◌∷◌, length, find, All, AllPairs, Contains, Option, None, Some, IfSome, option_and_then, refl, sym, ap, subst, ◌∙◌, arith}
use Rattle.std.proofs.lemmas.List.{length-map}
use Rattle.std.proofs.lemmas.List.Elements.{All-contains, All-map}
use Rattle.ak_handler.specs.Handlers.{HandlerData, IsThere, after_steps, chain_of, has_token, next_in, tokens_of}
use Rattle.ak_handler.specs.Laws.{ChainsAreWhole}
use Rattle.ak_handler.proofs.Walks as walks
use Rattle.ak_handler.proofs.Walks.{IsWalk, met, met_all, met_long, met_once}
use Rattle.ak_base.proofs.Surface.{find-All, pigeons}

module _ {R : Type 0} (list : List (HandlerData R)) where
  steps_walk : IsWalk (next_in list) (after_steps list)
  steps_walk = record { start = λ at. refl; step = λ n at. refl }

  -- after some number of steps there is no next handler
  abbrev pub Ends : Option ℕ → Type 0
  Ends at = walks.Ends (after_steps list) at

  pub ended : Ends None
  ended = walks.ended (next_in list) (after_steps list) steps_walk

  pub ends_before : (token : ℕ) → Ends (next_in list token) → Ends (Some token)
  ends_before token e = walks.ends_before (next_in list) (after_steps list) steps_walk token e

  -- what holds at the end, and of a handler where it holds of its next one, holds of each chain that ends
  along : (P : Option ℕ → Type 0) → P None → ((token : ℕ) → P (next_in list token) → P (Some token)) → (n : ℕ) (at : Option ℕ) → after_steps list n at ≡ None → P at
  along P last step zero at e = subst P (sym e) last
  along P last step (suc n) None e = last
  along P last step (suc n) (Some token) e = step token (along P last step n (next_in list token) e)

  pub along_chain : (P : Option ℕ → Type 0) → P None → ((token : ℕ) → P (next_in list token) → P (Some token)) → (at : Option ℕ) → Ends at → P at
  along_chain P last step at e = along P last step e.steps at e.is

  -- ---- the handlers that a chain meets
  chain_met : (n : ℕ) (at : Option ℕ) → met (next_in list) n at ≡ chain_of list n at
  chain_met zero at = refl
  chain_met (suc n) None = refl
  chain_met (suc n) (Some token) = ap (λ tokens. token ∷ tokens) (chain_met n (next_in list token))

  chain_none : (n : ℕ) → chain_of list n None ≡ []
  chain_none zero = refl
  chain_none (suc n) = refl

  pub chain_more : (n m : ℕ) (at : Option ℕ) → after_steps list n at ≡ None → n ≤ m → chain_of list m at ≡ chain_of list n at
  chain_more zero m at e le = ap (chain_of list m) e ∙ chain_none m
  chain_more (suc n) zero at e le = absurd (omega arith)
  chain_more (suc n) (suc m) None e le = refl
  chain_more (suc n) (suc m) (Some token) e le =
      ap (λ tokens. token ∷ tokens) (chain_more n m (next_in list token) e (omega arith))

  pub chain_once : (n : ℕ) (at : Option ℕ) → after_steps list n at ≡ None → AllPairs (λ a b. a ≢ b) (chain_of list n at)
  chain_once n at e = subst (AllPairs (λ a b. a ≢ b)) (chain_met n at) (met_once (next_in list) (after_steps list) steps_walk n at e)

  -- ---- where each next handler is there
  next_there_by : (o : Option (HandlerData R)) → IfSome o (λ h. IsThere list h.next) → IsThere list (option_and_then (λ h. h.next) o)
  next_there_by None h = tt
  next_there_by (Some found) h = h

  pub next_there : All (λ h. IsThere list h.next) list → (token : ℕ) → IsThere list (next_in list token)
  next_there links token = next_there_by (find (has_token token) list) (find-All (has_token token) (λ h. IsThere list h.next) list links)

  pub chain_there : All (λ h. IsThere list h.next) list → (n : ℕ) (at : Option ℕ) → IsThere list at → All (λ token. Contains (tokens_of list) token) (chain_of list n at)
  chain_there links n at there =
      subst (All (λ token. Contains (tokens_of list) token)) (chain_met n at) (met_all (next_in list) (λ token. Contains (tokens_of list) token) (next_there links) n at there)

  -- it is enough that a chain ends at all
  pub ends_in_time : All (λ h. IsThere list h.next) list → (at : Option ℕ) → IsThere list at → Ends at → after_steps list (length list) at ≡ None
  ends_in_time links at there e =
      let few = pigeons (chain_of list e.steps at) (tokens_of list) (chain_once e.steps at e.is) (chain_there links e.steps at there) in
      met_long (next_in list) (after_steps list) steps_walk e.steps (length list) at e.is (omega (arith, few, length-map list (λ h. h.token), ap length (chain_met e.steps at)))

  pub ends_there : All (λ h. after_steps list (length list) (Some h.token) ≡ None) list → (at : Option ℕ) → IsThere list at → after_steps list (length list) at ≡ None
  ends_there ends None there = walks.after_none (next_in list) (after_steps list) steps_walk (length list)
  ends_there ends (Some token) there =
      All-contains (λ t. after_steps list (length list) (Some t) ≡ None) (tokens_of list) token (All-map (λ t. after_steps list (length list) (Some t) ≡ None) (λ h. h.token) list ends) there

pub chains_are_whole-proof : (R : Type 0) → ChainsAreWhole R
chains_are_whole-proof R s at h there =
    let e = ends_there s.list h.chains_end at there in
    record {
      there = chain_there s.list h.next_is_there (length s.list) at there;
      once = chain_once s.list (length s.list) at e;
      whole = λ n le. chain_more s.list (length s.list) n at e le;
    }
