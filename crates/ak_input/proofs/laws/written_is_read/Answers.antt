use Rattle.ak_input.proofs.AppWords.{app_words_are_read}
use Rattle.ak_input.proofs.CodeWords.{code_is_read}
use Rattle.ak_input.proofs.SaidLaw.{texts_are_written, values_are_written, fields_are_written, messages_are_written}
use Rattle.ak_input.proofs.laws.written_is_read.Goals as goal

pub returns-clause-codes : goal.returns-clause-codes
returns-clause-codes c = code_is_read

pub returns-clause-app_words : goal.returns-clause-app_words
returns-clause-app_words c = app_words_are_read

pub returns-clause-texts : goal.returns-clause-texts
returns-clause-texts c = texts_are_written

pub returns-clause-values : goal.returns-clause-values
returns-clause-values c = values_are_written

pub returns-clause-fields : goal.returns-clause-fields
returns-clause-fields c = fields_are_written

pub returns-clause-messages : goal.returns-clause-messages
returns-clause-messages c = messages_are_written
