-- A taker still can take after a write.
use Rattle.uses_objects.specs.declared.ports.waiting.TheConstants.{MAIN}
use Rattle.uses_objects.proofs.ports.waiting.fill_up.Goals as goal

pub returns-in_err-put-clause-taking : goal.returns-in_err-put-clause-taking
returns-in_err-put-clause-taking g c = c.put.ensures.taking MAIN 1

pub returns-clause-taking : goal.returns-clause-taking
returns-clause-taking g c = c.put.ensures.taking MAIN 1
