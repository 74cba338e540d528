use Rattle.ak_journal.proofs.EntryLaws.{are_lines}
use Rattle.ak_journal.proofs.laws.entries_are_lines.Goals as goal

pub returns : goal.returns
returns c = are_lines
