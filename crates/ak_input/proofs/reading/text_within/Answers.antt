use Rattle.ak_input.proofs.TextKept.{text_reads}
use Rattle.ak_input.proofs.reading.text_within.Goals as goal

pub returns : goal.returns
returns c = text_reads c.args.text.now c.in_ok-bytes.bytes c.as_slice.result.now c.text_of.result c.in_ok-bytes.ensures c.as_slice.ensures c.text_of.ensures
