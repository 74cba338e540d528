use Rattle.ak_route.proofs.Asked.{all-proof, enough-proof, once-proof}
use Rattle.ak_route.proofs.laws.filters_run_at_most_once.Goals as goal

pub returns-clause-once : goal.returns-clause-once
returns-clause-once c = once-proof

pub returns-clause-all : goal.returns-clause-all
returns-clause-all c = all-proof

pub returns-clause-enough : goal.returns-clause-enough
returns-clause-enough c = enough-proof
