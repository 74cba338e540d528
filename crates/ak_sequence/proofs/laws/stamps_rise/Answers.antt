use Rattle.ak_sequence.proofs.Runs.{stamps_rise}
use Rattle.ak_sequence.proofs.laws.stamps_rise.Goals as goal

pub returns : goal.returns
returns c = λ sessions heads short h run. stamps_rise sessions heads short h run
