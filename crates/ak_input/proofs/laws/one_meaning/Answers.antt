-- A text is read as one thing.
use Rattle.std.proofs.Common.{sym, ◌∙◌}
use Rattle.ak_base.proofs.Surface.{some_is}
use Rattle.ak_input.proofs.SaidLaw.{texts_are_written, values_are_written, fields_are_written, messages_are_written}
use Rattle.ak_input.proofs.laws.one_meaning.Goals as goal

pub returns-clause-text : goal.returns-clause-text
returns-clause-text c = λ word s t a b. some_is s t (sym ((texts_are_written word s).0 a) ∙ (texts_are_written word t).0 b)

pub returns-clause-value : goal.returns-clause-value
returns-clause-value c = λ text g h a b. some_is g h (sym ((values_are_written text g).0 a) ∙ (values_are_written text h).0 b)

pub returns-clause-field : goal.returns-clause-field
returns-clause-field c = λ text g h a b. some_is g h (sym ((fields_are_written text g).0 a) ∙ (fields_are_written text h).0 b)

pub returns-clause-message : goal.returns-clause-message
returns-clause-message c = λ words m n a b. some_is m n (sym ((messages_are_written words m).0 a) ∙ (messages_are_written words n).0 b)
