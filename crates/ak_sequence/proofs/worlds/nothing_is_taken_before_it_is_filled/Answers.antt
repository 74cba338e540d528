use Rattle.ak_sequence.proofs.Before.{taken_after_filled}
use Rattle.ak_sequence.proofs.worlds.nothing_is_taken_before_it_is_filled.Goals as goal

pub returns : goal.returns
returns c = taken_after_filled
