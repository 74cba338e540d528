-- The steps that are left lead from there to where all lead from the first one.
use Rattle.std.proofs.Common.{◌≡◌, ◌-◌, length, Some}
use Rattle.ak_action.specs.Plan.{place_after}
use Rattle.ak_action.proofs.plan.rows.ends.Given as goal

abbrev pub invariant-loop : goal.invariant-loop
invariant-loop l =
    place_after l.rows (length l.rows - l.counter) l.at ≡ place_after l.rows (length l.rows) (Some l.place)
