-- The count is that of the applications so far.
use Rattle.std.proofs.Common.{◌≡◌, take}
use Rattle.ak_kit.specs.Summary.{looper_count}
use Rattle.ak_kit.proofs.summary.count_loopers.Given as goal

abbrev pub invariant-loop-app : goal.invariant-loop-app
invariant-loop-app l = l.count ≡ looper_count (take l.app-index l.apps)
