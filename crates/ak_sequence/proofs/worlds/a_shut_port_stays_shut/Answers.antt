use Rattle.ak_sequence.proofs.Sound.{shut_stays}
use Rattle.ak_sequence.proofs.worlds.a_shut_port_stays_shut.Goals as goal

pub returns : goal.returns
returns c = shut_stays
