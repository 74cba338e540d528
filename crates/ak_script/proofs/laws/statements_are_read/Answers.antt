-- What is read as a statement says it.
use Rattle.ak_script.proofs.Saying.{statements_are_read}
use Rattle.ak_script.proofs.laws.statements_are_read.Goals as goal

pub returns : goal.returns
returns c = statements_are_read c.hey_lines_are_read.ensures.said
