-- What is left to follow leads where all of it does.
use Rattle.std.proofs.Common.{◌≡◌}
use Rattle.ak_specifier.specs.Current.{left_of}
use Rattle.ak_route.specs.Handlers.{handlers_seen}
use Rattle.ak_route.specs.Resolving.{resolve_from}
use Rattle.ak_route.proofs.resolving.follow.Given as goal

abbrev pub invariant-steps : goal.invariant-steps
invariant-steps g l =
    resolve_from (handlers_seen g.R.HandlerRow.told l.set) l.loopers (left_of l.m) l.m l.token
    ≡ resolve_from (handlers_seen g.R.HandlerRow.told l.set) l.loopers (left_of l.fn.m) l.fn.m l.fn.token

abbrev pub decreases-steps : goal.decreases-steps
decreases-steps g l = left_of l.m
