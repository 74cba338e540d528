use Rattle.ak_sequence.proofs.Before.{dispatched_after_written}
use Rattle.ak_sequence.proofs.worlds.nothing_is_dispatched_before_it_is_written.Goals as goal

pub returns : goal.returns
returns c = dispatched_after_written
