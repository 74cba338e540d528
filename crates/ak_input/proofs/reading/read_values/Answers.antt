use Rattle.ak_input.proofs.SaidTold.{values_told}
use Rattle.ak_input.proofs.reading.read_values.Goals as goal

pub returns-clause-written : goal.returns-clause-written
returns-clause-written c = values_told c.args.text.now c.values_read.result c.values_read.ensures
