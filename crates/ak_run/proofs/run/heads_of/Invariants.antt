-- What the roster knows of the applications so far.
use Rattle.std.proofs.Common.{◌≡◌, take}
use Rattle.ak_describe.specs.Whole.{heads_of}
use Rattle.ak_run.proofs.run.heads_of.Given as goal

abbrev pub invariant-loop-app : goal.invariant-loop-app
invariant-loop-app l = l.heads.items ≡ heads_of (take l.app-index l.apps)
