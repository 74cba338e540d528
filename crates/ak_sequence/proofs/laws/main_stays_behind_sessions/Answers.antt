use Rattle.ak_sequence.proofs.Behind.{stays_behind}
use Rattle.ak_sequence.proofs.laws.main_stays_behind_sessions.Goals as goal

pub returns : goal.returns
returns c = stays_behind c.merged_has_each_history.ensures
