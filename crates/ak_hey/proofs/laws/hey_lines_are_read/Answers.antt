-- What is read is what the line says, and a line is refused where it can't go on.
use Rattle.ak_hey.proofs.grammar.Columns.{said_is_read, refused_at_first_bad}
use Rattle.ak_hey.proofs.laws.hey_lines_are_read.Goals as goal

pub returns : goal.returns
returns c = record { said = said_is_read; refused = refused_at_first_bad }
