use Rattle.ak_print.proofs.OutcomeLines.{outcomes_are_lines}
use Rattle.ak_print.proofs.laws.outcomes_are_lines.Goals as goal

pub returns : goal.returns
returns c = outcomes_are_lines
