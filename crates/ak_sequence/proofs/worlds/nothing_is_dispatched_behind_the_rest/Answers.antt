use Rattle.ak_sequence.proofs.Resting.{none_behind_the_rest}
use Rattle.ak_sequence.proofs.worlds.nothing_is_dispatched_behind_the_rest.Goals as goal

pub returns : goal.returns
returns c = none_behind_the_rest
