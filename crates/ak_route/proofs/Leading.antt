-- What specifiers lead to is there.
use Rattle.std.proofs.Common.{◌≡◌, ℕ, pos, negsuc, zero, suc, ◌-◌, ◌==◌, ◌&&◌, nat_lt, nat_le, Bool, true, false, cond, if◌then◌else◌, codes, List, [], ◌∷◌, length, Contains, Option, None, Some, IfSome, unwrap_or, position, bytes_eq, ◌<◌, rules, refl, sym, ap, ◌∙◌, subst, arith}
use Rattle.std.proofs.lemmas.Bool.{cond_both}
use Rattle.ak_message.specs.declared.address.Target.{Target}
use Rattle.ak_message.specs.declared.address.Target.TheVariants as target
use Rattle.ak_message.specs.declared.specifier.At.{At}
use Rattle.ak_message.specs.declared.specifier.At.TheVariants as at
use Rattle.ak_message.specs.declared.specifier.Specifier.{Specifier}
use Rattle.ak_message.specs.Message.{MessageData}
use Rattle.ak_specifier.specs.Current.{left_of, popped_once, current_of}
use Rattle.ak_handler.specs.Changes.{is_there}
use Rattle.ak_handler.specs.Handlers.{HandlerData, HandlersData, IsHandlers, IsThere, tokens_of, token_at}
use Rattle.ak_handler.proofs.Surface.{found_there, looper_there}
use Rattle.ak_property.specs.HandlerRow.{RowData}
use Rattle.ak_route.specs.Handlers.{row_of, first_target}
use Rattle.ak_route.specs.Matching.{matches}
use Rattle.ak_route.specs.Resolving.{Step, stay, to_handler, to_looper, lost, at_handler, Resolved, resolved, handler_if_there, looper_if_there, stay_if, handler_step, looper_step, is_own, looper_knows, step_with, step, go_on, resolve_from, first_asked, resolve}

pub token_there : {R : Type 0} (list : List (HandlerData R)) (i token : ℕ) → token_at list i ≡ Some token → Contains (tokens_of list) token
token_there [] i token e = absurd cc
token_there (h ∷ list) zero token e = (zero, omega arith, cc e)
token_there (h ∷ list) (suc i) token e =
    let there = token_there list i token e in (suc there.0, omega (arith, there.1), there.2)

abbrev next_of : Step → Option ℕ
next_of stay = None
next_of (to_handler next) = Some next
next_of (to_looper _) = None
next_of lost = None

module _ (s : HandlersData RowData) (loopers : List (List ℕ)) (h : IsHandlers s) where
  abbrev pub There : ℕ → Type 0
  There token = Contains (tokens_of s.list) token

  abbrev Leads : Step → Type 0
  Leads st = IfSome (next_of st) There

  -- ---- one step
  either_leads : (b : Bool) (x y : Step) → Leads x → Leads y → Leads (if b then x else y)
  either_leads true x y leads others = leads
  either_leads false x y leads others = others

  stay_leads : (holds : Bool) → Leads (stay_if holds)
  stay_leads true = tt
  stay_leads false = tt

  handler_leads : (o : Option ℕ) → ((token : ℕ) → o ≡ Some token → There token) → Leads (handler_if_there o)
  handler_leads None there = tt
  handler_leads (Some token) there = there token refl

  looper_leads : (count : ℕ) (o : Option ℕ) → Leads (looper_if_there count o)
  looper_leads count None = tt
  looper_leads count (Some zero) = either_leads (nat_lt 0 count) (to_handler 0) lost (looper_there s.list h.looper) tt
  looper_leads count (Some (suc i)) = either_leads (nat_lt (suc i) count) (to_looper (suc i)) lost tt tt

  handler_step_leads : (m : MessageData) (property : List ℕ) (a : At) → Leads (handler_step s m (record { property = property; at = a }))
  handler_step_leads m property at.Direct = stay_leads _
  handler_step_leads m property (at.Index (pos i)) = handler_leads (token_at s.list i) (token_there s.list i)
  handler_step_leads m property (at.Index (negsuc i)) = tt
  handler_step_leads m property (at.Reverse (pos r)) =
      let place = length s.list - r in
      either_leads (nat_le 1 r && nat_le r (length s.list)) (handler_if_there (token_at s.list place)) lost (handler_leads (token_at s.list place) (token_there s.list place)) tt
  handler_step_leads m property (at.Reverse (negsuc r)) = tt
  handler_step_leads m property (at.Range i count) = tt
  handler_step_leads m property (at.ReverseRange i count) = tt
  handler_step_leads m property (at.Name name) = tt
  handler_step_leads m property (at.Id id) = tt

  looper_step_leads : (m : MessageData) (property : List ℕ) (a : At) → Leads (looper_step loopers m (record { property = property; at = a }))
  looper_step_leads m property at.Direct = stay_leads _
  looper_step_leads m property (at.Index (pos i)) = looper_leads (length loopers) (Some i)
  looper_step_leads m property (at.Index (negsuc i)) = tt
  looper_step_leads m property (at.Reverse r) = tt
  looper_step_leads m property (at.Range i count) = tt
  looper_step_leads m property (at.ReverseRange i count) = tt
  looper_step_leads m property (at.Name name) = looper_leads (length loopers) (position (bytes_eq name) loopers)
  looper_step_leads m property (at.Id id) = tt

  knows_leads : (m : MessageData) (sp : Specifier) → Leads (looper_knows s loopers m sp)
  knows_leads m sp =
      let named = either_leads (bytes_eq sp.property (codes "Looper") && is_own loopers) (looper_step loopers m sp) lost (looper_step_leads m sp.property sp.at) tt in
      either_leads (bytes_eq sp.property (codes "Handler")) (handler_step s m sp) (if bytes_eq sp.property (codes "Looper") && is_own loopers then looper_step loopers m sp else lost) (handler_step_leads m sp.property sp.at) named

  step_leads : (m : MessageData) (token : ℕ) (o : Option Specifier) → Leads (step_with s loopers m token o)
  step_leads m token None = tt
  step_leads m token (Some sp) =
      let known = either_leads (token == 0) (looper_knows s loopers m sp) lost (knows_leads m sp) tt in
      either_leads (matches (row_of s token) m sp) stay (if token == 0 then looper_knows s loopers m sp else lost) tt known

  -- ---- all steps
  go_there : (m : MessageData) (token out : ℕ) (st : Step) (on : ℕ → Resolved) → There token → Leads st → ((next : ℕ) → There next → (on next).place ≡ at_handler out → There out) → (go_on m token st on).place ≡ at_handler out → There out
  go_there m token out stay on there leads rest e = subst There (cc e) there
  go_there m token out (to_handler next) on there leads rest e = rest next leads e
  go_there m token out (to_looper i) on there leads rest e = absurd cc
  go_there m token out lost on there leads rest e = absurd cc

  resolve_from_there : (n : ℕ) (m : MessageData) (token out : ℕ) → There token → (resolve_from s loopers n m token).place ≡ at_handler out → There out
  resolve_from_there zero m token out there e = subst There (cc e) there
  resolve_from_there (suc n) m token out there e =
      go_there m token out (step s loopers m token) (resolve_from s loopers n (popped_once m)) there (step_leads m token (current_of m))
      (λ next there' e'. resolve_from_there n (popped_once m) next out there' e') e

  -- ---- where they begin
  asked_there : (m : MessageData) (t : Target) (token : ℕ) → There token → There (first_asked s m t token)
  asked_there m t token there = cond_both _ 0 token There (λ _. looper_there s.list h.looper) (λ _. there)

  token_first : (token first : ℕ) (b : Bool) → is_there s.list token ≡ b → cond b (Some token) None ≡ Some first → There first
  token_first token first true is e = subst There (cc e) (found_there s.list token is)
  token_first token first false is e = absurd cc

  preferred_first : (o : Option ℕ) → IsThere s.list o → There (unwrap_or o 0)
  preferred_first None there = looper_there s.list h.looper
  preferred_first (Some token) there = there

  pub first_there : (t : Target) (first : ℕ) → first_target s t ≡ Some first → There first
  first_there (target.Token token) first e = token_first token first (is_there s.list token) refl e
  first_there target.Preferred first e = subst There (cc e) (preferred_first s.preferred h.preferred_is_there)

  pub stays_first : (m : MessageData) (t : Target) (first : ℕ) → left_of m ≡ 0 → resolve s loopers m t first ≡ resolved (at_handler first) m
  stays_first m t first none = rw none refl

  pub led_on : (m : MessageData) (t : Target) (first : ℕ) → 0 < left_of m → resolve s loopers m t first ≡ resolve_from s loopers (left_of m) m (first_asked s m t first)
  led_on m t first some = search rules

  resolved_by : (m : MessageData) (t : Target) (first out n : ℕ) → left_of m ≡ n → There first → (resolve s loopers m t first).place ≡ at_handler out → There out
  resolved_by m t first out zero none there e =
      let same : at_handler first ≡ at_handler out = ap (λ (r : Resolved). r.place) (sym (stays_first m t first none)) ∙ e in
      subst There (cc same) there
  resolved_by m t first out (suc n) some there e =
      let same = ap (λ (r : Resolved). r.place) (sym (led_on m t first (omega (arith, some)))) ∙ e in
      resolve_from_there (left_of m) m (first_asked s m t first) out (asked_there m t first there) same

  pub resolved_there : (m : MessageData) (t : Target) (first out : ℕ) → first_target s t ≡ Some first → (resolve s loopers m t first).place ≡ at_handler out → There out
  resolved_there m t first out is e = resolved_by m t first out (left_of m) refl (first_there t first is) e
