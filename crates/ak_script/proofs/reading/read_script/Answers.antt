-- What is answered is the script that the input is the text of, or its first refusal.
use Rattle.ak_script.proofs.Refusing.{answered, said_of}
use Rattle.ak_script.proofs.reading.read_script.Goals as goal

pub returns-clause-said : goal.returns-clause-said
returns-clause-said c = said_of c.scripts_are_read.ensures.said c.args.input.now c.read_input.result c.read_input.ensures.answer

pub returns-clause-refused : goal.returns-clause-refused
returns-clause-refused c = answered c.scripts_are_read.ensures.refused c.args.input.now c.read_input.result c.read_input.ensures.answer
