use Rattle.std.proofs.Common.{map}
use Rattle.ak_input.specs.declared.line.Word.{Word}
use Rattle.ak_input.proofs.SaidTold.{message_told}
use Rattle.ak_input.proofs.reading.read_message.Goals as goal

pub returns-clause-written : goal.returns-clause-written
returns-clause-written c = message_told (map (λ (word : Word). word.bytes) c.args.words.now) c.message_read.result c.message_read.ensures
