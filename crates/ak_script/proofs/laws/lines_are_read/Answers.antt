-- What is read as statements, line by line and block by block, says them.
use Rattle.ak_script.proofs.AllLines.{lines_are_read}
use Rattle.ak_script.proofs.laws.lines_are_read.Goals as goal

pub returns : goal.returns
returns c = lines_are_read c.statements_are_read.ensures c.session_lines_are_read.ensures
