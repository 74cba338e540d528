-- Before the first line nothing is read.
use Rattle.ak_describe.specs.Seen.{state_of}
use Rattle.ak_describe.proofs.answered.Prefixes.{none_are_read}
use Rattle.ak_describe.proofs.pass.FirstPass.new.Goals as goal

pub invariant_of-result : goal.invariant_of-result
invariant_of-result c = none_are_read c.new-2.result (state_of c.new.result) c.new-2.ensures c.new.ensures
