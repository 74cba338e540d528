-- The route of a message: its first target, where its specifiers lead, what the filters make of it, and who takes it.
use Rattle.std.specs.Prelude.{ℕ, List, Option, None, Some}
use Rattle.ak_filter.specs.declared.filter.Filter.{Filter}
use Rattle.ak_message.specs.declared.address.Target.{Target}
use Rattle.ak_message.specs.Message.{MessageData}
use Rattle.ak_handler.specs.Handlers.{HandlersData, chain_from}
use Rattle.ak_route.specs.declared.outcome.Route.{Route}
use Rattle.ak_route.specs.declared.outcome.Route.TheVariants as route
use Rattle.ak_property.specs.HandlerRow.{RowData}
use Rattle.ak_route.specs.Handlers.{first_target}
use Rattle.ak_route.specs.Resolving.{Destination, Resolved, at_handler, at_looper, nowhere, resolve}
use Rattle.ak_route.specs.Filtering.{Passing, Origin, settle, passing_after}
use Rattle.ak_route.specs.Receiving.{Received, receive}

-- the route, and the message as it is then: its specifiers popped, and its code
pub record Routed : Type 0 where
  pub route : Route
  pub message : MessageData

abbrev pub routed : Route → MessageData → Routed
routed r m = record { route = r; message = m }

abbrev pub route_received : Option Received → Route
route_received None = route.NotUnderstood
route_received (Some r) = route.Deliver r.token r.taker

-- after the filters the chain from the target is asked in order
abbrev pub delivered : HandlersData RowData → List (List ℕ) → MessageData → Option Passing → Routed
delivered s loopers m None = routed route.Skipped m
delivered s loopers m (Some p) =
    let after : MessageData = record m { what = p.what } in
    routed (route_received (receive s loopers after (chain_from s.list (Some p.target)))) after

abbrev pub filtered : HandlersData RowData → List (List ℕ) → Origin → List Filter → Resolved → Routed
filtered s loopers o common r = by_place r.place
  where
    by_place : Destination → Routed
    by_place (at_handler token) = delivered s loopers r.message (passing_after (settle s o common (record { target = token; what = r.message.what })))
    by_place (at_looper i) = routed (route.Forward i) r.message
    by_place nowhere = routed route.NotUnderstood r.message

abbrev pub from_target : HandlersData RowData → List (List ℕ) → Origin → List Filter → MessageData → Target → Option ℕ → Routed
from_target s loopers o common m t None = routed route.Dropped m
from_target s loopers o common m t (Some token) = filtered s loopers o common (resolve s loopers m t token)

abbrev pub route_of : HandlersData RowData → List (List ℕ) → Origin → List Filter → MessageData → Target → Routed
route_of s loopers o common m t = from_target s loopers o common m t (first_target s t)
