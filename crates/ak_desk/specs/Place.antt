-- Where a message goes that was taken from a looper's port.
use Rattle.std.specs.Prelude.{ℕ, ◌==◌, Bool, if◌then◌else◌, List, []}
use Rattle.ak_flatten.specs.Item.{ItemData, message_of}
use Rattle.ak_route.specs.Handlers.{handlers_seen}
use Rattle.ak_route.specs.Routing.{Routed, route_of}
use Rattle.ak_action.specs.declared.state.DeskState.{DeskState}
use Rattle.ak_action.specs.Row.{row_data}

-- an application's own looper is its first one
abbrev pub is_own : DeskState → Bool
is_own s = s.looper == s.first

-- the loopers that it may forward to
abbrev pub loopers_of : DeskState → List (List ℕ)
loopers_of s = if is_own s then s.names else []

-- the sender's team is the looper's
abbrev pub is_local : DeskState → ItemData → Bool
is_local s item = item.team == s.team

abbrev pub routed_of : DeskState → ItemData → Routed
routed_of s item =
    route_of (handlers_seen row_data s.handlers) (loopers_of s) (record { local = is_local s item; dropped = item.dropped }) s.common
    (message_of item) item.target
