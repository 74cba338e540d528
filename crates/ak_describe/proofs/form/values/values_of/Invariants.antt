-- The values so far and those to come are all.
use Rattle.std.proofs.Common.{◌≡◌, None}
use Rattle.ak_describe.specs.Made.{values_of}
use Rattle.ak_describe.specs.Seen.{values_seen}
use Rattle.ak_describe.proofs.form.values.values_of.Given as goal

abbrev pub invariant-loop-value : goal.invariant-loop-value
invariant-loop-value l = values_of l.all (values_seen l.value-iterator.rest.items) ≡ values_of None (values_seen l.fn.values.items)
