-- A message is delivered to a handler of the set, where its specifiers lead to one.
use Rattle.std.proofs.Common.{◌≡◌, ℕ, List, [], ◌∷◌, All, Contains, Option, None, Some, IfSome, option_map, refl, subst}
use Rattle.std.proofs.lemmas.List.Elements.{All-head, All-tail}
use Rattle.ak_filter.specs.declared.filter.Filter.{Filter}
use Rattle.ak_message.specs.declared.address.Target.{Target}
use Rattle.ak_message.specs.Message.{MessageData}
use Rattle.ak_handler.specs.Handlers.{HandlersData, IsHandlers, chain_from, tokens_of}
use Rattle.ak_handler.proofs.Surface.{chains_are_whole-proof}
use Rattle.ak_property.specs.HandlerRow.{RowData}
use Rattle.ak_route.specs.declared.outcome.Taker.{Taker}
use Rattle.ak_route.specs.declared.outcome.Route.TheVariants as route
use Rattle.ak_route.specs.Handlers.{first_target}
use Rattle.ak_route.specs.Resolving.{Destination, at_handler, at_looper, nowhere, resolve}
use Rattle.ak_route.specs.Filtering.{Passing, Origin, passing_after, settle}
use Rattle.ak_route.specs.Receiving.{Received, or_else, receive, received, taker_of}
use Rattle.ak_route.specs.Routing.{delivered, filtered, from_target, route_received}
use Rattle.ak_route.specs.Laws.{ResolvedIsThere, TakerIsThere}
use Rattle.ak_route.proofs.Targets.{IsKept, settle_kept}

delivers_to : (a b : ℕ) (x y : Taker) → route.Deliver a x ≡ route.Deliver b y → a ≡ b
delivers_to a b x y e = cc

module _ (s : HandlersData RowData) (loopers : List (List ℕ)) where
  taken_or : (P : ℕ → Type 0) (t : ℕ) (x : Option Taker) (rest : Option Received) → P t → IfSome rest (λ r. P r.token) → IfSome (or_else (option_map (received t) x) rest) (λ r. P r.token)
  taken_or P t None rest h there = there
  taken_or P t (Some x) rest h there = h

  -- one of the chain receives it
  receives : (P : ℕ → Type 0) (m : MessageData) (chain : List ℕ) → All P chain → IfSome (receive s loopers m chain) (λ r. P r.token)
  receives P m [] h = tt
  receives P m (t ∷ chain) h =
      taken_or P t (taker_of s loopers m t) (receive s loopers m chain) (All-head P t chain h) (receives P m chain (All-tail P t chain h))

  module _ (o : Origin) (common : List Filter) (token : ℕ) (taker : Taker) (h : IsHandlers s) where
    by_received : (r : Option Received) → IfSome r (λ x. Contains (tokens_of s.list) x.token) → route_received r ≡ route.Deliver token taker → Contains (tokens_of s.list) token
    by_received None there e = absurd cc
    by_received (Some r) there e = subst (λ t. Contains (tokens_of s.list) t) (delivers_to r.token token r.taker taker e) there

    by_passing : (m : MessageData) (p : Option Passing) → IfSome p (IsKept s o) → (delivered s loopers m p).route ≡ route.Deliver token taker → Contains (tokens_of s.list) token
    by_passing m None there e = absurd cc
    by_passing m (Some p) there e =
        let after : MessageData = record m { what = p.what } in
        by_received (receive s loopers after (chain_from s.list (Some p.target)))
        (receives (λ t. Contains (tokens_of s.list) t) after (chain_from s.list (Some p.target)) (chains_are_whole-proof RowData s (Some p.target) h there).there) e

    by_place : (place : Destination) (m : MessageData) → ((at : ℕ) → place ≡ at_handler at → Contains (tokens_of s.list) at) → (filtered s loopers o common (record { place = place; message = m })).route ≡ route.Deliver token taker → Contains (tokens_of s.list) token
    by_place (at_handler at) m there e =
        by_passing m (passing_after (settle s o common (record { target = at; what = m.what }))) (settle_kept s o common (record { target = at; what = m.what }) (there at refl)) e
    by_place (at_looper i) m there e = absurd cc
    by_place nowhere m there e = absurd cc

    by_first : ResolvedIsThere → (m : MessageData) (t : Target) (first : Option ℕ) → first_target s t ≡ first → (from_target s loopers o common m t first).route ≡ route.Deliver token taker → Contains (tokens_of s.list) token
    by_first there m t None is e = absurd cc
    by_first there m t (Some first) is e =
        by_place (resolve s loopers m t first).place (resolve s loopers m t first).message (λ at led. there s loopers m t first at h is led) e

pub takers-proof : ResolvedIsThere → TakerIsThere
takers-proof there s loopers o common m t token taker h e = by_first s loopers o common token taker h there m t (first_target s t) refl e
