-- What is printed is read back, and what is read is said.
use Rattle.ak_base.specs.declared.limited.Limited.TheVariants.{Within}
use Rattle.ak_message.specs.Popped.{unpopped}
use Rattle.ak_input.specs.Got.{got}
use Rattle.ak_input.specs.MessageText.{value_text, message_words}
use Rattle.ak_input.proofs.MessagesAgain.{values_are_read, fields_are_read, read_without_popped}
use Rattle.ak_input.proofs.SaidLaw.{values_are_written, fields_are_written, messages_are_written}
use Rattle.ak_input.proofs.laws.printed_is_written.Goals as goal

pub returns-clause-values : goal.returns-clause-values
returns-clause-values c = λ v fits plain. (values_are_written (value_text v) (got v)).1 (values_are_read v fits plain)

pub returns-clause-fields : goal.returns-clause-fields
returns-clause-fields c = λ f is fits plain shallow. (fields_are_written _ _).1 (fields_are_read f is fits plain shallow)

pub returns-clause-messages : goal.returns-clause-messages
returns-clause-messages c = λ m whole. (messages_are_written (message_words m) (Within (unpopped m))).1 (read_without_popped m whole)
