use Rattle.ak_sequence.proofs.Order.{none_written_when_shut}
use Rattle.ak_sequence.proofs.worlds.nothing_is_written_to_a_shut_port.Goals as goal

pub returns : goal.returns
returns c = none_written_when_shut
