-- What the handlers that are not asked yet make of it, is what all make of it.
use Rattle.std.proofs.Common.{◌≡◌, ◌-◌, length}
use Rattle.ak_route.specs.Handlers.{handlers_seen}
use Rattle.ak_route.specs.Filtering.{passing_after, settle, settle_from}
use Rattle.ak_route.specs.Seen.{origin_of, passing_of}
use Rattle.ak_route.proofs.Marked.{marked}
use Rattle.ak_route.proofs.filtering.settle.Given as goal

abbrev pub invariant-loop : goal.invariant-loop
invariant-loop g l = record {
  a_mark_each : length l.asked ≡ 64;
  same :
      passing_after (settle_from (handlers_seen g.R.HandlerRow.told l.set) (origin_of l.origin) (length l.set.list - l.counter) (marked l.set.list l.asked) (passing_of l.passing))
      ≡ passing_after (settle (handlers_seen g.R.HandlerRow.told l.set) (origin_of l.origin) l.common (passing_of l.fn.passing));
}
