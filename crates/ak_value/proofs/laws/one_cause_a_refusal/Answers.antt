use Rattle.ak_value.proofs.Causes.{one_cause}
use Rattle.ak_value.proofs.laws.one_cause_a_refusal.Goals as goal

pub returns : goal.returns
returns c = one_cause
