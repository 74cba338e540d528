use Rattle.ak_specifier.proofs.Shown.{read_as_shown}
use Rattle.ak_specifier.proofs.laws.specifiers_are_read_as_shown.Goals as goal

pub returns : goal.returns
returns c = read_as_shown
