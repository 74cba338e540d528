use Rattle.ak_input.proofs.SaidTold.{text_told}
use Rattle.ak_input.proofs.reading.read_quoted.Goals as goal

pub returns-clause-written : goal.returns-clause-written
returns-clause-written c = text_told c.args.word.now c.quoted_read.result c.quoted_read.ensures
