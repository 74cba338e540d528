-- A message is forwarded to a later looper of the application alone.
use Rattle.std.proofs.Common.{◌≡◌, ℕ, pos, negsuc, zero, suc, ◌-◌, ◌==◌, ◌&&◌, ◌<◌, nat_lt, nat_le, Bool, true, false, if◌then◌else◌, codes, List, length, Option, None, Some, position, bytes_eq, ltb-true, refl, subst, arith}
use Rattle.std.proofs.lemmas.Bool.{cond_both}
use Rattle.ak_filter.specs.declared.filter.Filter.{Filter}
use Rattle.ak_message.specs.declared.address.Target.{Target}
use Rattle.ak_message.specs.declared.specifier.At.{At}
use Rattle.ak_message.specs.declared.specifier.At.TheVariants as at
use Rattle.ak_message.specs.declared.specifier.Specifier.{Specifier}
use Rattle.ak_message.specs.Message.{MessageData}
use Rattle.ak_specifier.specs.Current.{left_of, popped_once, current_of}
use Rattle.ak_handler.specs.Handlers.{HandlersData, token_at, chain_from}
use Rattle.ak_property.specs.HandlerRow.{RowData}
use Rattle.ak_route.specs.declared.outcome.Route.TheVariants as route
use Rattle.ak_route.specs.Handlers.{row_of, first_target}
use Rattle.ak_route.specs.Matching.{matches}
use Rattle.ak_route.specs.Resolving.{Step, stay, to_handler, to_looper, lost, Destination, at_handler, at_looper, nowhere, Resolved, handler_if_there, looper_if_there, stay_if, handler_step, looper_step, is_own, looper_knows, step_with, step, go_on, resolve_from, first_asked, resolve}
use Rattle.ak_route.specs.Filtering.{Passing, Origin, passing_after, settle}
use Rattle.ak_route.specs.Receiving.{Received, receive}
use Rattle.ak_route.specs.Routing.{delivered, filtered, from_target, route_received}
use Rattle.ak_route.specs.Laws.{ResolvedIsLater, ForwardIsLater}

module _ (s : HandlersData RowData) (loopers : List (List ℕ)) where
  abbrev IsLater : ℕ → Type 0
  IsLater i = (0 < i) × (i < length loopers)

  -- where a step leads to a looper, that is a later one
  abbrev LeadsLater : Step → Type 0
  LeadsLater stay = Unit {0}
  LeadsLater (to_handler _) = Unit {0}
  LeadsLater (to_looper i) = IsLater i
  LeadsLater lost = Unit {0}

  either_later : (b : Bool) (x y : Step) → LeadsLater x → LeadsLater y → LeadsLater (if b then x else y)
  either_later true x y later others = later
  either_later false x y later others = others

  stay_later : (holds : Bool) → LeadsLater (stay_if holds)
  stay_later true = tt
  stay_later false = tt

  handler_later : (o : Option ℕ) → LeadsLater (handler_if_there o)
  handler_later None = tt
  handler_later (Some token) = tt

  looper_later : (o : Option ℕ) → LeadsLater (looper_if_there (length loopers) o)
  looper_later None = tt
  looper_later (Some zero) = either_later (nat_lt 0 (length loopers)) (to_handler 0) lost tt tt
  looper_later (Some (suc i)) =
      cond_both (nat_lt (suc i) (length loopers)) (to_looper (suc i)) lost LeadsLater (λ e. (omega arith, ltb-true _ _ e)) (λ _. tt)

  handler_step_later : (m : MessageData) (property : List ℕ) (a : At) → LeadsLater (handler_step s m (record { property = property; at = a }))
  handler_step_later m property at.Direct = stay_later _
  handler_step_later m property (at.Index (pos i)) = handler_later (token_at s.list i)
  handler_step_later m property (at.Index (negsuc i)) = tt
  handler_step_later m property (at.Reverse (pos r)) =
      either_later (nat_le 1 r && nat_le r (length s.list)) (handler_if_there (token_at s.list (length s.list - r))) lost (handler_later (token_at s.list (length s.list - r))) tt
  handler_step_later m property (at.Reverse (negsuc r)) = tt
  handler_step_later m property (at.Range i count) = tt
  handler_step_later m property (at.ReverseRange i count) = tt
  handler_step_later m property (at.Name name) = tt
  handler_step_later m property (at.Id id) = tt

  looper_step_later : (m : MessageData) (property : List ℕ) (a : At) → LeadsLater (looper_step loopers m (record { property = property; at = a }))
  looper_step_later m property at.Direct = stay_later _
  looper_step_later m property (at.Index (pos i)) = looper_later (Some i)
  looper_step_later m property (at.Index (negsuc i)) = tt
  looper_step_later m property (at.Reverse r) = tt
  looper_step_later m property (at.Range i count) = tt
  looper_step_later m property (at.ReverseRange i count) = tt
  looper_step_later m property (at.Name name) = looper_later (position (bytes_eq name) loopers)
  looper_step_later m property (at.Id id) = tt

  knows_later : (m : MessageData) (sp : Specifier) → LeadsLater (looper_knows s loopers m sp)
  knows_later m sp =
      let named = either_later (bytes_eq sp.property (codes "Looper") && is_own loopers) (looper_step loopers m sp) lost (looper_step_later m sp.property sp.at) tt in
      either_later (bytes_eq sp.property (codes "Handler")) (handler_step s m sp) (if bytes_eq sp.property (codes "Looper") && is_own loopers then looper_step loopers m sp else lost) (handler_step_later m sp.property sp.at) named

  step_later : (m : MessageData) (token : ℕ) (o : Option Specifier) → LeadsLater (step_with s loopers m token o)
  step_later m token None = tt
  step_later m token (Some sp) =
      let known = either_later (token == 0) (looper_knows s loopers m sp) lost (knows_later m sp) tt in
      either_later (matches (row_of s token) m sp) stay (if token == 0 then looper_knows s loopers m sp else lost) tt known

  -- ---- all steps
  abbrev EndsLater : Destination → Type 0
  EndsLater (at_handler _) = Unit {0}
  EndsLater (at_looper i) = IsLater i
  EndsLater nowhere = Unit {0}

  go_later : (m : MessageData) (token : ℕ) (st : Step) (on : ℕ → Resolved) → LeadsLater st → ((next : ℕ) → EndsLater (on next).place) → EndsLater (go_on m token st on).place
  go_later m token stay on later rest = tt
  go_later m token (to_handler next) on later rest = rest next
  go_later m token (to_looper i) on later rest = later
  go_later m token lost on later rest = tt

  resolve_from_later : (n : ℕ) (m : MessageData) (token : ℕ) → EndsLater (resolve_from s loopers n m token).place
  resolve_from_later zero m token = tt
  resolve_from_later (suc n) m token =
      go_later m token (step s loopers m token) (resolve_from s loopers n (popped_once m)) (step_later m token (current_of m)) (λ next. resolve_from_later n (popped_once m) next)

  led_by : (m : MessageData) (t : Target) (first n : ℕ) → left_of m ≡ n → EndsLater (resolve s loopers m t first).place
  led_by m t first zero is = rw is tt
  led_by m t first (suc n) is = rw is (resolve_from_later (suc n) m (first_asked s m t first))

  later_at : (place : Destination) (i : ℕ) → EndsLater place → place ≡ at_looper i → IsLater i
  later_at place i later e = subst EndsLater e later

  pub led_later : (m : MessageData) (t : Target) (first i : ℕ) → (resolve s loopers m t first).place ≡ at_looper i → IsLater i
  led_later m t first i e = later_at (resolve s loopers m t first).place i (led_by m t first (left_of m) refl) e

  -- ---- the route
  forward_to : (i j : ℕ) → route.Forward i ≡ route.Forward j → i ≡ j
  forward_to i j e = cc

  by_received : (r : Option Received) (i : ℕ) → route_received r ≡ route.Forward i → IsLater i
  by_received None i e = absurd cc
  by_received (Some r) i e = absurd cc

  by_passing : (m : MessageData) (p : Option Passing) (i : ℕ) → (delivered s loopers m p).route ≡ route.Forward i → IsLater i
  by_passing m None i e = absurd cc
  by_passing m (Some p) i e =
      let after : MessageData = record m { what = p.what } in
      by_received (receive s loopers after (chain_from s.list (Some p.target))) i e

  module _ (o : Origin) (common : List Filter) where
    by_place : (place : Destination) (m : MessageData) (i : ℕ) → EndsLater place → (filtered s loopers o common (record { place = place; message = m })).route ≡ route.Forward i → IsLater i
    by_place (at_handler at) m i later e =
        by_passing m (passing_after (settle s o common (record { target = at; what = m.what }))) i e
    by_place (at_looper j) m i later e = subst IsLater (forward_to j i e) later
    by_place nowhere m i later e = absurd cc

    by_first : (m : MessageData) (t : Target) (first : Option ℕ) (i : ℕ) → (from_target s loopers o common m t first).route ≡ route.Forward i → IsLater i
    by_first m t None i e = absurd cc
    by_first m t (Some first) i e =
        by_place (resolve s loopers m t first).place (resolve s loopers m t first).message i (led_by m t first (left_of m) refl) e

pub resolved_later-proof : ResolvedIsLater
resolved_later-proof s loopers m t first i e = led_later s loopers m t first i e

pub forward_later-proof : ForwardIsLater
forward_later-proof s loopers o common m t i e = by_first s loopers o common m t (first_target s t) i e
