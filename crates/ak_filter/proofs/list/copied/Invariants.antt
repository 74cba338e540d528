-- What is copied so far is the front of the list.
use Rattle.std.proofs.Common.{◌≡◌, take}
use Rattle.ak_filter.proofs.list.copied.Given as goal

abbrev pub invariant-loop-filter : goal.invariant-loop-filter
invariant-loop-filter l = l.copies.items ≡ take l.filter-index l.filters
