use Rattle.ak_input.proofs.SaidTold.{value_told}
use Rattle.ak_input.proofs.reading.read_value.Goals as goal

pub returns-clause-written : goal.returns-clause-written
returns-clause-written c = value_told c.args.word.now c.value_read.result c.value_read.ensures
