use Rattle.ak_input.proofs.SaidTold.{kinds_told}
use Rattle.ak_input.proofs.reading.read_with_kind.Goals as goal

pub returns-clause-written : goal.returns-clause-written
returns-clause-written c = kinds_told c.args.word.now c.kind_read.result c.kind_read.ensures
