-- Of the rest of the chain the same handler takes it.
use Rattle.std.proofs.Common.{◌≡◌, ◌-◌, Some, length}
use Rattle.ak_handler.specs.Handlers.{chain_from, chain_of}
use Rattle.ak_route.specs.Handlers.{handlers_seen}
use Rattle.ak_route.specs.Receiving.{receive}
use Rattle.ak_route.proofs.receiving.receive.Given as goal

abbrev pub invariant-loop : goal.invariant-loop
invariant-loop g l =
    receive (handlers_seen g.R.HandlerRow.told l.set) l.loopers l.m (chain_of l.set.list (length l.set.list - l.counter) l.at)
    ≡ receive (handlers_seen g.R.HandlerRow.told l.set) l.loopers l.m (chain_from (handlers_seen g.R.HandlerRow.told l.set).list (Some l.target))
