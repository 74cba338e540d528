use Rattle.ak_journal.proofs.EntryLaws.{lines_tell}
use Rattle.ak_journal.proofs.laws.lines_tell_entries.Goals as goal

pub returns : goal.returns
returns c = lines_tell
