-- A looper that is forwarded to is one of the application's.
use Rattle.std.proofs.Common.{◌≡◌, ℕ, ◌+◌, ◌<◌, Bool, true, false, cond, [], length, arith}
use Rattle.ak_action.specs.declared.state.DeskState.{DeskState}
use Rattle.ak_action.specs.Row.{row_data}
use Rattle.ak_flatten.specs.Item.{ItemData, message_of}
use Rattle.ak_route.specs.declared.outcome.Route.TheVariants as route
use Rattle.ak_route.specs.Handlers.{handlers_seen}
use Rattle.ak_route.specs.Laws.{ForwardIsLater}
use Rattle.ak_desk.specs.Place.{is_local, is_own, loopers_of, routed_of}

few : (s : DeskState) (b : Bool) (i : ℕ) → i < length (cond b s.names []) → s.first + i < 4294967296
few s true i lt =
    let all = s.numbers in
    omega (arith, all, lt)
few s false i lt = omega (arith, lt)

pub forwarded_within : ForwardIsLater → (s : DeskState) (item : ItemData) (i : ℕ) → (routed_of s item).route ≡ route.Forward i → s.first + i < 4294967296
forwarded_within later s item i e =
    few s (is_own s) i
    (later (handlers_seen row_data s.handlers) (loopers_of s) (record { local = is_local s item; dropped = item.dropped }) s.common (message_of item) item.target i e).1
