-- The names so far are those of the plans so far.
use Rattle.std.proofs.Common.{◌≡◌, take}
use Rattle.ak_action.specs.Opening.{names_in}
use Rattle.ak_action.proofs.opening.looper_names.Given as goal

abbrev pub invariant-loop-plan : goal.invariant-loop-plan
invariant-loop-plan l = l.names.items ≡ names_in (take l.plan-index l.plans)
