use Rattle.ak_input.proofs.LineAgain.{words_are_there}
use Rattle.ak_input.proofs.MessagesAgain.{values_are_read, fields_are_read, messages_are_read, read_without_popped}
use Rattle.ak_input.proofs.PrintedUtf8.{printed_utf8}
use Rattle.ak_input.proofs.laws.printed_messages_are_read.Goals as goal

pub returns-clause-values : goal.returns-clause-values
returns-clause-values c = values_are_read

pub returns-clause-fields : goal.returns-clause-fields
returns-clause-fields c = fields_are_read

pub returns-clause-messages : goal.returns-clause-messages
returns-clause-messages c = messages_are_read

pub returns-clause-without_popped : goal.returns-clause-without_popped
returns-clause-without_popped c = read_without_popped

pub returns-clause-words : goal.returns-clause-words
returns-clause-words c = words_are_there

pub returns-clause-utf8 : goal.returns-clause-utf8
returns-clause-utf8 c = printed_utf8
