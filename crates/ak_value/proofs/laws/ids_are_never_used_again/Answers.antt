use Rattle.ak_value.proofs.Ids.{ids_stay_rising, no_id_is_used_again}
use Rattle.ak_value.proofs.laws.ids_are_never_used_again.Goals as goal

pub returns-clause-rising : goal.returns-clause-rising
returns-clause-rising c = ids_stay_rising

pub returns-clause-once : goal.returns-clause-once
returns-clause-once c = no_id_is_used_again
