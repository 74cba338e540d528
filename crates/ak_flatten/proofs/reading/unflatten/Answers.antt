use Rattle.std.proofs.Common.{arith}
use Rattle.ak_flatten.proofs.LawsHold.{read_spelled, read_only, read_fault, read_refused}
use Rattle.ak_flatten.proofs.reading.unflatten.Goals as goal

pub returns-clause-spelled : goal.returns-clause-spelled
returns-clause-spelled c = read_spelled c.args.bytes.now c.read.result (λ i. omega (arith, c.type_inv.bytes i)) c.read.ensures

pub returns-clause-only : goal.returns-clause-only
returns-clause-only c = read_only c.args.bytes.now c.read.result c.read.ensures

pub returns-clause-fault : goal.returns-clause-fault
returns-clause-fault c = read_fault c.args.bytes.now c.read.result c.read.ensures

pub returns-clause-refused : goal.returns-clause-refused
returns-clause-refused c = read_refused c.args.bytes.now c.read.result c.read.ensures
