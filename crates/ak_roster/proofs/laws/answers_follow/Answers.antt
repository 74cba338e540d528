-- The outcome is the machine's at the state that the beginning leaves.
use Rattle.ak_roster.proofs.Carried.{one_launch, one_look_up}
use Rattle.ak_roster.proofs.laws.answers_follow.Goals as goal

pub returns : goal.returns
returns c = record { launches = one_launch; look_ups = one_look_up }
