-- What changes do to the tokens of handlers.
use Rattle.std.proofs.Common.{◌≡◌, ℕ, ◌+◌, ◌<◌, ◌≤◌, ◌⊎◌, not, List, [], ◌∷◌, ◌++◌, map, filter, All, AllPairs, Contains, Option, None, Some, ⊎_elim, inl, inr, refl, subst, arith}
use Rattle.std.proofs.lemmas.Bool.{cond_both}
use Rattle.std.proofs.lemmas.List.{map-append}
use Rattle.std.proofs.lemmas.List.Elements.{All-nil, All-cons, All-head, All-tail, All-append, All-weaker, All-map, All-filter, All-contains, Contains-append_left, Contains-append_right, Contains-append_cases}
use Rattle.std.proofs.lemmas.List.Kept.{AllPairs-cons}
use Rattle.ak_base.proofs.Surface.{head_pairs, tail_pairs}
use Rattle.ak_handler.specs.declared.fault.HandlerFault.{HandlerFault}
use Rattle.ak_handler.specs.Handlers.{HandlerData, HandlersData, tokens_of, has_token}
use Rattle.ak_handler.specs.Changes.{add_fault, with_handler, remove_fault, without_handler, relinked, next_fault, linked, with_next, preferred_fault, holding, with_content}
use Rattle.ak_handler.specs.Laws.{Change, add, remove, link, prefer, hold, unless_refused, changed, after, token_given, tokens_given, TokensRise, HandlersAreGivenTokens, NoTokenIsUsedAgain}
use Rattle.ak_handler.proofs.Mapped.{tokens-map}
use Rattle.ak_handler.proofs.Tokens.{contains_token}

-- ---- pairs of a list
no_pairs : {X : Type 0} (R : X → X → Type 0) → AllPairs R []
no_pairs R = λ i j d lt within. absurd (omega arith)

pairs-append : {X : Type 0} (R : X → X → Type 0) (xs ys : List X) → AllPairs R xs → AllPairs R ys → All (λ x. All (R x) ys) xs → AllPairs R (xs ++ ys)
pairs-append R [] ys first second across = second
pairs-append R (x ∷ xs) ys first second across =
    AllPairs-cons R x (xs ++ ys)
    (All-append (R x) xs ys (head_pairs R x xs first) (All-head (λ x. All (R x) ys) x xs across))
    (pairs-append R xs ys (tail_pairs R x xs first) second (All-tail (λ x. All (R x) ys) x xs across))

-- ---- from the tokens of handlers and the next one to those after a change, which gives some
record IsStep (tokens : List ℕ) (next : ℕ) (given tokens_then : List ℕ) (next_then : ℕ) : Type 0 where
  no_lower : next ≤ next_then
  within : All (λ t. (next ≤ t) × (t < next_then)) given
  rising : AllPairs (λ a b. a < b) given
  known : (t : ℕ) → Contains tokens_then t → Contains tokens t ⊎ Contains given t

step_without : (tokens tokens_then : List ℕ) (next : ℕ) → ((t : ℕ) → Contains tokens_then t → Contains tokens t) → IsStep tokens next [] tokens_then next
step_without tokens tokens_then next there =
    record {
      no_lower = omega arith;
      within = All-nil (λ t. (next ≤ t) × (t < next));
      rising = no_pairs (λ a b. a < b);
      known = λ t has. inl (there t has);
    }

no_step : (tokens : List ℕ) (next : ℕ) → IsStep tokens next [] tokens next
no_step tokens next = step_without tokens tokens next (λ t has. has)

step_given : (tokens : List ℕ) (next : ℕ) → IsStep tokens next (next ∷ []) (tokens ++ next ∷ []) (next + 1)
step_given tokens next =
    record {
      no_lower = omega arith;
      within = All-cons (λ t. (next ≤ t) × (t < next + 1)) next [] (omega arith, omega arith) (All-nil (λ t. (next ≤ t) × (t < next + 1)));
      rising = AllPairs-cons (λ a b. a < b) next [] (All-nil (λ b. next < b)) (no_pairs (λ a b. a < b));
      known = λ t has. Contains-append_cases tokens (next ∷ []) t has;
    }

two_steps : (a b c g h : List ℕ) (l m n : ℕ) → IsStep a l g b m → IsStep b m h c n → IsStep a l (g ++ h) c n
two_steps a b c g h l m n s t =
    record {
      no_lower = omega (arith, s.no_lower, t.no_lower);
      within = All-append (λ x. (l ≤ x) × (x < n)) g h
          (All-weaker (λ x. (l ≤ x) × (x < m)) (λ x. (l ≤ x) × (x < n)) (λ x is. (is.0, omega (arith, is.1, t.no_lower))) g s.within)
          (All-weaker (λ x. (m ≤ x) × (x < n)) (λ x. (l ≤ x) × (x < n)) (λ x is. (omega (arith, is.0, s.no_lower), is.1)) h t.within);
      rising = pairs-append (λ a b. a < b) g h s.rising t.rising
          (All-weaker (λ x. (l ≤ x) × (x < m)) (λ x. All (λ y. x < y) h) (λ x is. All-weaker (λ y. (m ≤ y) × (y < n)) (λ y. x < y) (λ y later. omega (arith, is.1, later.0)) h t.within) g s.within);
      known = λ x has. ⊎_elim
          (λ there. ⊎_elim (λ first. inl first) (λ new. inr (Contains-append_left g h x new)) (s.known x there))
          (λ new. inr (Contains-append_right g h x new))
          (t.known x has);
    }

module _ {R : Type 0} where
  abbrev Keeps : HandlersData R → List ℕ → HandlersData R → Type 0
  Keeps s given t = IsStep (tokens_of s.list) s.next_token given (tokens_of t.list) t.next_token

  -- ---- each change
  there_without : (token : ℕ) (list : List (HandlerData R)) (t : ℕ) → Contains (tokens_of (map (relinked token) (filter (λ h. not (has_token token h)) list))) t → Contains (tokens_of list) t
  there_without token list t has =
      let stays = filter (λ h. not (has_token token h)) list in
      let each = All-filter (λ h. not (has_token token h)) (λ h. Contains (tokens_of list) h.token) list (λ k d lt. contains_token list k d lt) in
      All-contains (Contains (tokens_of list)) (tokens_of stays) t (All-map (Contains (tokens_of list)) (λ h. h.token) stays each)
      (subst (λ tokens. Contains tokens t) (tokens-map (relinked token) (λ _. refl) stays) has)

  linked_token : (token : ℕ) (next : Option ℕ) (h : HandlerData R) → (linked token next h).token ≡ h.token
  linked_token token next h = cond_both (has_token token h) (record h { next = next }) h (λ x. x.token ≡ h.token) (λ _. refl) (λ _. refl)

  holding_token : (token : ℕ) (content : R) (h : HandlerData R) → (holding token content h).token ≡ h.token
  holding_token token content h = cond_both (has_token token h) (record h { content = content }) h (λ x. x.token ≡ h.token) (λ _. refl) (λ _. refl)

  same_tokens : (s : HandlersData R) (tokens : List ℕ) → tokens ≡ tokens_of s.list → IsStep (tokens_of s.list) s.next_token [] tokens s.next_token
  same_tokens s tokens same = step_without (tokens_of s.list) tokens s.next_token (λ t has. subst (λ l. Contains l t) same has)

  unless_kept : (o : Option HandlerFault) (s t : HandlersData R) → Keeps s [] t → Keeps s [] (unless_refused o t s)
  unless_kept None s t kept = kept
  unless_kept (Some f) s t kept = no_step (tokens_of s.list) s.next_token

  add_kept : (o : Option HandlerFault) (s : HandlersData R) (name : List ℕ) (content : R) → Keeps s (unless_refused o (s.next_token ∷ []) []) (unless_refused o (with_handler s name content) s)
  add_kept None s name content =
      rw (map-append (λ h. h.token) s.list ((record { token = s.next_token; name = name; next = Some 0; content = content }) ∷ [])) (step_given (tokens_of s.list) s.next_token)
  add_kept (Some f) s name content = no_step (tokens_of s.list) s.next_token

  each_kept : (s : HandlersData R) (c : Change R) → Keeps s (token_given s c) (changed s c)
  each_kept s (add name content) = add_kept (add_fault s name) s name content
  each_kept s (remove token) =
      unless_kept (remove_fault s token) s (without_handler s token)
      (step_without (tokens_of s.list) (tokens_of (without_handler s token).list) s.next_token (there_without token s.list))
  each_kept s (link token next) =
      unless_kept (next_fault s token next) s (with_next s token next)
      (same_tokens s (tokens_of (with_next s token next).list) (tokens-map (linked token next) (linked_token token next) s.list))
  each_kept s (prefer token) =
      unless_kept (preferred_fault s token) s (record s { preferred = token }) (no_step (tokens_of s.list) s.next_token)
  each_kept s (hold token content) =
      same_tokens s (tokens_of (with_content s token content).list) (tokens-map (holding token content) (holding_token token content) s.list)

  -- ---- all changes
  all_kept : (s : HandlersData R) (cs : List (Change R)) → Keeps s (tokens_given s cs) (after s cs)
  all_kept s [] = no_step (tokens_of s.list) s.next_token
  all_kept s (c ∷ cs) =
      let t = changed s c in
      two_steps (tokens_of s.list) (tokens_of t.list) (tokens_of (after t cs).list) (token_given s c) (tokens_given t cs) s.next_token t.next_token (after t cs).next_token (each_kept s c) (all_kept t cs)

pub tokens_rise : (R : Type 0) → TokensRise R
tokens_rise R s cs = let kept = all_kept s cs in (kept.rising, kept.within)

pub handlers_are_given_tokens : (R : Type 0) → HandlersAreGivenTokens R
handlers_are_given_tokens R s cs = (all_kept s cs).known

pub no_token_is_used_again : (R : Type 0) → NoTokenIsUsedAgain R
no_token_is_used_again R s cs token below has =
    let kept = all_kept s cs in
    ⊎_elim (λ there. there)
    (λ (new : Contains (tokens_given s cs) token). let within = All-contains (λ t. (s.next_token ≤ t) × (t < (after s cs).next_token)) (tokens_given s cs) token kept.within new in absurd (omega (arith, within.0)))
    (kept.known token has)
