-- A message is delivered to a property of the handler's table, or to one of its reactions.
use Rattle.std.proofs.Common.{◌≡◌, ℕ, ◌<◌, ◌==◌, ◌-◌, Bool, true, false, if◌then◌else◌, List, [], ◌∷◌, length, Option, None, Some, IfSome, option_map, position, ap₂, subst}
use Rattle.ak_filter.specs.declared.filter.Filter.{Filter}
use Rattle.ak_message.specs.declared.address.Target.{Target}
use Rattle.ak_message.specs.declared.specifier.Specifier.{Specifier}
use Rattle.ak_message.specs.Message.{MessageData}
use Rattle.ak_message.specs.Specifier.{form_of}
use Rattle.ak_specifier.specs.Current.{left_of, current_of}
use Rattle.ak_handler.specs.Handlers.{HandlersData, chain_from}
use Rattle.ak_base.proofs.Surface.{position-within}
use Rattle.ak_property.specs.HandlerRow.{RowData}
use Rattle.ak_property.specs.Table.{fits}
use Rattle.ak_route.specs.declared.outcome.Taker.{Taker}
use Rattle.ak_route.specs.declared.outcome.Taker.TheVariants as taker
use Rattle.ak_route.specs.declared.outcome.Route.TheVariants as route
use Rattle.ak_route.specs.Handlers.{row_of, first_target}
use Rattle.ak_route.specs.Matching.{row_match}
use Rattle.ak_route.specs.Resolving.{Destination, at_handler, at_looper, nowhere, resolve}
use Rattle.ak_route.specs.Filtering.{Passing, Origin, passing_after, settle}
use Rattle.ak_route.specs.Receiving.{Received, received, receive, or_else, when, is_property_command, property_place, property_taker, reaction_taker, takes_built_in, taker_of}
use Rattle.ak_route.specs.Routing.{delivered, filtered, from_target, route_received}
use Rattle.ak_route.specs.Laws.{LiesWithin, TakerLiesWithin}

-- ---- of one handler
module _ (row : RowData) (m : MessageData) where
  abbrev Takes : Option Taker → Type 0
  Takes o = IfSome o (LiesWithin row)

  either_takes : (x y : Option Taker) → Takes x → Takes y → Takes (or_else x y)
  either_takes None y first second = second
  either_takes (Some t) y first second = first

  as_property : (o : Option ℕ) → IfSome o (λ i. i < length row.table) → Takes (option_map taker.Property o)
  as_property None within = tt
  as_property (Some i) within = within

  as_reaction : (o : Option ℕ) → IfSome o (λ i. i < length row.reactions) → Takes (option_map taker.Reaction o)
  as_reaction None within = tt
  as_reaction (Some i) within = within

  if_command : (b : Bool) (o : Option ℕ) → IfSome o (λ i. i < length row.table) → IfSome (if b then o else None) (λ i. i < length row.table)
  if_command true o within = within
  if_command false o within = tt

  place_within : (sp : Option Specifier) → IfSome (property_place row m sp) (λ i. i < length row.table)
  place_within None = tt
  place_within (Some sp) =
      if_command (is_property_command m.what) (row_match row.table m sp) (position-within (fits m.what (left_of m - 1) (form_of sp.at) sp.property) row.table)

  property_within : (sp : Option Specifier) → Takes (property_taker row m sp)
  property_within sp = as_property (property_place row m sp) (place_within sp)

  reaction_within : Takes (reaction_taker row m)
  reaction_within = as_reaction (position (λ code. code == m.what) row.reactions) (position-within (λ code. code == m.what) row.reactions)

  built_in_within : (holds : Bool) → Takes (when holds taker.BuiltIn)
  built_in_within true = tt
  built_in_within false = tt

module _ (s : HandlersData RowData) (loopers : List (List ℕ)) where
  taker_within : (m : MessageData) (token : ℕ) → IfSome (taker_of s loopers m token) (LiesWithin (row_of s token))
  taker_within m token =
      either_takes (row_of s token) m (property_taker (row_of s token) m (current_of m))
      (or_else (reaction_taker (row_of s token) m) (when (takes_built_in loopers m token) taker.BuiltIn))
      (property_within (row_of s token) m (current_of m))
      (either_takes (row_of s token) m (reaction_taker (row_of s token) m) (when (takes_built_in loopers m token) taker.BuiltIn) (reaction_within (row_of s token) m) (built_in_within (row_of s token) m (takes_built_in loopers m token)))

  -- ---- of a chain
  abbrev ReceivedWithin : Received → Type 0
  ReceivedWithin r = LiesWithin (row_of s r.token) r.taker

  first_within : (t : ℕ) (x : Option Taker) (rest : Option Received) → IfSome x (LiesWithin (row_of s t)) → IfSome rest ReceivedWithin → IfSome (or_else (option_map (received t) x) rest) ReceivedWithin
  first_within t None rest first others = others
  first_within t (Some x) rest first others = first

  receives_within : (m : MessageData) (chain : List ℕ) → IfSome (receive s loopers m chain) ReceivedWithin
  receives_within m [] = tt
  receives_within m (t ∷ chain) =
      first_within t (taker_of s loopers m t) (receive s loopers m chain) (taker_within m t) (receives_within m chain)

  -- ---- the route
  same_received : (r : Received) (token : ℕ) (as_what : Taker) → route.Deliver r.token r.taker ≡ route.Deliver token as_what → r ≡ received token as_what
  same_received r token as_what e =
      let same_token : r.token ≡ token = cc in
      let same_taker : r.taker ≡ as_what = cc in
      ap₂ received same_token same_taker

  module _ (o : Origin) (common : List Filter) (token : ℕ) (as_what : Taker) where
    by_received : (r : Option Received) → IfSome r ReceivedWithin → route_received r ≡ route.Deliver token as_what → LiesWithin (row_of s token) as_what
    by_received None within e = absurd cc
    by_received (Some r) within e = subst ReceivedWithin (same_received r token as_what e) within

    by_passing : (m : MessageData) (p : Option Passing) → (delivered s loopers m p).route ≡ route.Deliver token as_what → LiesWithin (row_of s token) as_what
    by_passing m None e = absurd cc
    by_passing m (Some p) e =
        let after : MessageData = record m { what = p.what } in
        by_received (receive s loopers after (chain_from s.list (Some p.target))) (receives_within after (chain_from s.list (Some p.target))) e

    by_place : (place : Destination) (m : MessageData) → (filtered s loopers o common (record { place = place; message = m })).route ≡ route.Deliver token as_what → LiesWithin (row_of s token) as_what
    by_place (at_handler at) m e =
        by_passing m (passing_after (settle s o common (record { target = at; what = m.what }))) e
    by_place (at_looper i) m e = absurd cc
    by_place nowhere m e = absurd cc

    by_first : (m : MessageData) (t : Target) (first : Option ℕ) → (from_target s loopers o common m t first).route ≡ route.Deliver token as_what → LiesWithin (row_of s token) as_what
    by_first m t None e = absurd cc
    by_first m t (Some first) e =
        by_place (resolve s loopers m t first).place (resolve s loopers m t first).message e

pub within-proof : TakerLiesWithin
within-proof s loopers o common m t token as_what e = by_first s loopers o common token as_what m t (first_target s t) e
