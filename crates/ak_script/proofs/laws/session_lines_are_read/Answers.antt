-- What is read as a line of a session says it.
use Rattle.ak_script.proofs.Saying.{session_lines_are_read}
use Rattle.ak_script.proofs.laws.session_lines_are_read.Goals as goal

pub returns : goal.returns
returns c = session_lines_are_read c.hey_lines_are_read.ensures.said
