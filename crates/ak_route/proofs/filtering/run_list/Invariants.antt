-- What the rest of the filters make of it is what all make of it.
use Rattle.std.proofs.Common.{◌≡◌, drop}
use Rattle.ak_route.specs.Handlers.{handlers_seen}
use Rattle.ak_route.specs.Filtering.{run_list}
use Rattle.ak_route.specs.Seen.{origin_of, passing_of}
use Rattle.ak_route.proofs.filtering.run_list.Given as goal

abbrev pub invariant-loop-filter : goal.invariant-loop-filter
invariant-loop-filter g l =
    run_list (handlers_seen g.R.HandlerRow.told l.set) (origin_of l.origin) (drop l.filter-index l.filters) (passing_of l.passing)
    ≡ run_list (handlers_seen g.R.HandlerRow.told l.set) (origin_of l.origin) l.filters (passing_of l.fn.passing)
