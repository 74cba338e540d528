-- A message that is sent on has more of its specifiers popped than it had.
use Rattle.std.proofs.Common.{◌≡◌, ℕ, zero, suc, ◌+◌, ◌<◌, List, Option, None, Some, refl, arith}
use Rattle.ak_filter.specs.declared.filter.Filter.{Filter}
use Rattle.ak_message.specs.declared.address.Target.{Target}
use Rattle.ak_message.specs.Message.{MessageData}
use Rattle.ak_flatten.specs.Item.{ItemData, message_of}
use Rattle.ak_specifier.specs.Current.{left_of, popped_once}
use Rattle.ak_handler.specs.Handlers.{HandlersData, chain_from}
use Rattle.ak_property.specs.HandlerRow.{RowData}
use Rattle.ak_route.specs.declared.outcome.Route.TheVariants as route
use Rattle.ak_route.specs.Filtering.{Origin, Passing, passing_after, settle}
use Rattle.ak_route.specs.Handlers.{first_target, handlers_seen}
use Rattle.ak_route.specs.Receiving.{Received, receive}
use Rattle.ak_route.specs.Resolving.{Destination, Resolved, Step, at_handler, at_looper, first_asked, go_on, lost, nowhere, resolve, resolve_from, stay, step, to_handler, to_looper}
use Rattle.ak_route.specs.Routing.{delivered, filtered, from_target, route_of, route_received}
use Rattle.ak_action.specs.declared.state.DeskState.{DeskState}
use Rattle.ak_action.specs.Row.{row_data}
use Rattle.ak_desk.specs.Place.{is_local, loopers_of, routed_of}

module _ (s : HandlersData RowData) (loopers : List (List ℕ)) where
  -- ---- its specifiers
  -- where they lead to a looper, more than so many are popped
  abbrev PopsPast : ℕ → Resolved → Type 0
  PopsPast n r = (i : ℕ) → r.place ≡ at_looper i → n < r.message.popped

  go_past : (m : MessageData) (token : ℕ) (st : Step) (on : ℕ → Resolved) → ((next : ℕ) → PopsPast (m.popped + 1) (on next)) → PopsPast m.popped (go_on m token st on)
  go_past m token stay on rest i e = absurd (cc e)
  go_past m token (to_handler next) on rest i e = let more = rest next i e in omega arith
  go_past m token (to_looper place) on rest i e = omega arith
  go_past m token lost on rest i e = absurd (cc e)

  from_past : (n : ℕ) (m : MessageData) (token : ℕ) → PopsPast m.popped (resolve_from s loopers n m token)
  from_past zero m token i e = absurd (cc e)
  from_past (suc n) m token i e = go_past m token (step s loopers m token) (resolve_from s loopers n (popped_once m)) (λ next. from_past n (popped_once m) next) i e

  led_past : (m : MessageData) (t : Target) (first n : ℕ) → left_of m ≡ n → PopsPast m.popped (resolve s loopers m t first)
  led_past m t first zero is = rw is (λ i e. absurd (cc e))
  led_past m t first (suc n) is = rw is (from_past (suc n) m (first_asked s m t first))

  -- ---- its route
  received_past : (r : Option Received) (i : ℕ) → route_received r ≡ route.Forward i → ⊥
  received_past None i e = absurd (cc e)
  received_past (Some r) i e = absurd (cc e)

  passing_past : (m : MessageData) (p : Option Passing) (i : ℕ) → (delivered s loopers m p).route ≡ route.Forward i → ⊥
  passing_past m None i e = absurd (cc e)
  passing_past m (Some p) i e =
      let after : MessageData = record m { what = p.what } in
      received_past (receive s loopers after (chain_from s.list (Some p.target))) i e

  module _ (o : Origin) (common : List Filter) where
    place_past : (n : ℕ) (place : Destination) (m : MessageData) (i : ℕ) → PopsPast n (record { place = place; message = m })
        → (filtered s loopers o common (record { place = place; message = m })).route ≡ route.Forward i → n < (filtered s loopers o common (record { place = place; message = m })).message.popped
    place_past n (at_handler at) m i more e = absurd (passing_past m (passing_after (settle s o common (record { target = at; what = m.what }))) i e)
    place_past n (at_looper j) m i more e = more j refl
    place_past n nowhere m i more e = absurd (cc e)

    target_past : (m : MessageData) (t : Target) (first : Option ℕ) (i : ℕ) → (from_target s loopers o common m t first).route ≡ route.Forward i → m.popped < (from_target s loopers o common m t first).message.popped
    target_past m t None i e = absurd (cc e)
    target_past m t (Some first) i e =
        let to = resolve s loopers m t first in
        place_past m.popped to.place to.message i (led_past m t first (left_of m) refl) e

    route_past : (m : MessageData) (t : Target) (i : ℕ) → (route_of s loopers o common m t).route ≡ route.Forward i → m.popped < (route_of s loopers o common m t).message.popped
    route_past m t i e = target_past m t (first_target s t) i e

-- of an item: what is sent on of it has more popped than it had
pub popped_past : (s : DeskState) (item : ItemData) (i : ℕ) → (routed_of s item).route ≡ route.Forward i → item.popped < (routed_of s item).message.popped
popped_past s item i e =
    route_past (handlers_seen row_data s.handlers) (loopers_of s) (record { local = is_local s item; dropped = item.dropped }) s.common (message_of item) item.target i e
