-- The count is that of the loopers so far.
use Rattle.std.proofs.Common.{◌≡◌, take}
use Rattle.ak_kit.specs.Summary.{handlers_of}
use Rattle.ak_kit.proofs.summary.handlers_of.Given as goal

abbrev pub invariant-loop-looper : goal.invariant-loop-looper
invariant-loop-looper l = l.count ≡ handlers_of (take l.looper-index l.loopers)
