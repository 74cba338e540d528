use Rattle.ak_journal.proofs.PlainLaw.{is_legible}
use Rattle.ak_journal.proofs.laws.plain_is_legible.Goals as goal

pub returns : goal.returns
returns c = is_legible
