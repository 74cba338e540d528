use Rattle.ak_input.proofs.reading.value_read.Goals as goal

pub returns : goal.returns
returns c = rw c.in_ok-value.ensures c.kept.ensures
